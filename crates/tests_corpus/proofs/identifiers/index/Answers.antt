use Rattle.std.proofs.Common.{All, sym, subst}
use Rattle.std.proofs.lemmas.List.Elements.{All-push}
use Rattle.ident_index.specs.declared.hit.HitFile.{HitFile}
use Rattle.tests_corpus.specs.declared.identifiers.Source.{Source}
use Rattle.ident_index.specs.Postings.{HasNames}
use Rattle.tests_corpus.proofs.identifiers.index.Goals as goal

abbrev pub IsNamed : HitFile → Type 0
IsNamed file = HasNames file.source.now file.hits.now

pub file_from-requires : goal.file_from-requires
file_from-requires c =
    subst (λ (s : Source). HasNames s.text s.hits) (sym c.source-item.is)
    (c.requires c.loop-source.source-index c.source-item.result c.loop-source-test.true)

pub loop-source-preserved : goal.loop-source-preserved
loop-source-preserved c =
    subst (All IsNamed) (sym c.in_ok-push.ensures.items)
    (All-push IsNamed c.loop-source.files.items c.file_from.result c.loop-source.invariant
    c.file_from.ensures)

pub build-requires : goal.build-requires
build-requires c = subst (All IsNamed) (sym c.as_slice.ensures.value) c.loop-source.invariant
