use Rattle.std.proofs.Common.{◌∙◌, ap}
use Rattle.package_group.specs.Groups.{without_test}
use Rattle.package_group.proofs.Members.{name_of-found, name_of-none, name_of-some}
use Rattle.package_group.proofs.names.name_of.Goals as goal

pub returns-then-not-file : goal.returns-then-not-file
returns-then-not-file c =
    c.as_str.ensures.text ∙ name_of-found c.args.members.now c.loop-file.file-index
    c.loop-file-item.result c.loop-file-test.true c.loop-file.invariant c.loop-file-item.is
    c.if-not-file.true

pub returns-in-Some : goal.returns-in-Some
returns-in-Some c =
    c.without_test.ensures ∙ ap without_test c.as_str-in-Some.ensures.text
    ∙ name_of-some c.args.members.now c.loop-file.file-index c.first.result c.in-Some.field-0
    c.loop-file-test.false c.loop-file.invariant c.first.ensures.value c.in-Some.is

pub returns-in-None : goal.returns-in-None
returns-in-None c = name_of-none c.args.members.now c.loop-file.file-index c.first.result
    c.loop-file-test.false c.loop-file.invariant c.first.ensures.value c.in-None.is
