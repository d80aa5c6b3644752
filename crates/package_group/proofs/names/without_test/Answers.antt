use Rattle.package_group.proofs.Suffixes.{cuts, keeps_short, keeps_other}
use Rattle.package_group.proofs.names.without_test.Goals as goal

pub returns-in-Some : goal.returns-in-Some
returns-in-Some c = cuts c.args.name.now c.in-Some.rest.now c.in-Some.ensures.cases
    c.if-not-is_empty.ensures

pub returns-in_default : goal.returns-in_default
returns-in_default c = keeps_short c.args.name.now c.in-Some.rest.now c.in-Some.ensures.cases
    c.if-not-is_empty.ensures

pub returns-in_default-2 : goal.returns-in_default-2
returns-in_default-2 c = keeps_other c.args.name.now c.strip_suffix.result c.in_default.is
    c.strip_suffix.ensures.cases
