use Rattle.std.proofs.Common.{◌≡◌, ◌∙◌, sym, subst}
use Rattle.type_parser.specs.Reading.{◌<$>◌}
use Rattle.go_parser.specs.Reading.{after_names, read_typed}
use Rattle.go_parser.proofs.TypedNames.{no-names-yet, name-more}
use Rattle.go_parser.proofs.value.typed.Goals as goal

pub loop-name-init : goal.loop-name-init
loop-name-init c = rw (c.new-names.ensures, c.all-rest.ensures)
    (no-names-yet (read_typed c.args.words.now))

pub loop-name-preserved : goal.loop-name-preserved
loop-name-preserved c =
    subst (λ names. read_typed c.args.words.now ≡ after_names names
    <$> read_typed c.in-Some-split_first.others) (sym c.in_ok-push.ensures.ok)
    (name-more c.args.words.now c.loop-name.names c.loop-name.rest c.in-Some.after
    c.in-Some-split_first.others c.in-Some.name c.in-Some-split_first.next
    c.loop-name.invariant c.in-Some.ensures c.in-Some-split_first.ensures
    (sym c.is.ensures ∙ c.if-not-is.false)
    (sym c.is-in-Some.ensures ∙ c.if-not-is-2.false))
