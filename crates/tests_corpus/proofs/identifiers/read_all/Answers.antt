use Rattle.std.proofs.Common.{All, sym, subst}
use Rattle.std.proofs.lemmas.List.Elements.{All-push}
use Rattle.tests_corpus.specs.declared.identifiers.Source.{Source}
use Rattle.ident_index.specs.Postings.{HasNames}
use Rattle.tests_corpus.proofs.identifiers.read_all.Goals as goal

abbrev pub IsNamed : Source → Type 0
IsNamed source = HasNames source.text source.hits

pub loop-number-preserved : goal.loop-number-preserved
loop-number-preserved g c =
    subst (All IsNamed) (sym c.in_ok-push.ensures.items)
    (All-push IsNamed c.loop-number.sources.items c.in_ok-source_of.field-0 c.loop-number.invariant
    c.in_ok-source_of.ensures)
