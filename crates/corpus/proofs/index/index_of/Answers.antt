use Rattle.std.proofs.Common.{ℕ, List, All, map, not, sym, subst}
use Rattle.std.specs.Prelude.{filter, nat_eq}
use Rattle.std.specs.List.{list_any}
use Rattle.std.proofs.lemmas.List.Elements.{All-filter, All-map}
use Rattle.ident_index.specs.declared.hit.Hit.{Hit}
use Rattle.ident_index.specs.declared.hit.HitFile.{HitFile}
use Rattle.ident_index.specs.Postings.{HasNames, source_and_hits}
use Rattle.corpus.specs.Corpora.{AcceptedFile}
use Rattle.corpus.specs.Steps.{seen, source_of}
use Rattle.corpus.proofs.Lists.{All-unmapped}
use Rattle.corpus.proofs.index.index_of.Goals as goal

pub build-requires : goal.build-requires
build-requires c =
    let P : List ℕ × List Hit → Type 0 = λ s. HasNames s.0 s.1 in
    let Q : AcceptedFile → Type 0 = λ a. HasNames a.bytes a.parsed.hits in
    let test = λ (a : AcceptedFile). not (list_any (nat_eq a.number) c.args.beside.now) in
    let kept = All-filter test Q (map seen c.args.files.now)
    (All-map Q seen c.args.files.now c.requires.names) in
    subst (λ (files : List HitFile). All (λ file. HasNames file.source.now file.hits.now) files)
    (sym c.as_slice.ensures.value)
    (All-unmapped P source_and_hits c.in_ok-kept.kept.items
    (subst (All P) (sym c.in_ok-kept.ensures)
    (All-map P source_of (filter test (map seen c.args.files.now)) kept)))
