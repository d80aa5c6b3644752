use Rattle.std.proofs.Common.{◌≡◌, ◌∙◌, sym, subst}
use Rattle.type_parser.specs.Reading.{◌<$>◌, type_of, declared}
use Rattle.type_parser.specs.Entries.{after_names}
use Rattle.type_parser.proofs.FieldNames.{no-names-yet, name-more}
use Rattle.type_parser.proofs.reader.Reader.declared.Goals as goal

pub loop-name-init : goal.loop-name-init
loop-name-init g c = rw (c.new-names.ensures, c.all-rest.ensures)
    (no-names-yet (type_of c.args.self.now.levels)
    (declared (type_of c.args.self.now.levels) c.args.words.now))

pub loop-name-preserved : goal.loop-name-preserved
loop-name-preserved g c =
    let f = type_of c.args.self.now.levels in
    subst (λ names. declared f c.args.words.now ≡ after_names names
    <$> declared f c.in-Some-split_first.others) (sym c.in_ok-push.ensures.ok)
    (name-more f c.args.words.now c.loop-name.names c.loop-name.rest c.in-Some.after
    c.in-Some-split_first.others c.in-Some.name c.in-Some-split_first.next
    c.loop-name.invariant c.in-Some.ensures c.in-Some-split_first.ensures
    (sym c.is.ensures ∙ c.if-not-is.false)
    (sym c.is-in-Some.ensures ∙ c.if-not-is-2.false))
