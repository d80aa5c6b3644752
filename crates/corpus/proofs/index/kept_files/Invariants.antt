use Rattle.std.proofs.Common.{◌≡◌, map, take, not}
use Rattle.std.specs.Prelude.{filter, nat_eq}
use Rattle.std.specs.List.{list_any}
use Rattle.ident_index.specs.Postings.{source_and_hits}
use Rattle.corpus.specs.Steps.{seen, source_of}
use Rattle.corpus.proofs.index.kept_files.Given as goal

abbrev pub invariant-loop-file : goal.invariant-loop-file
invariant-loop-file l =
    map source_and_hits l.kept.items ≡ map source_of
    (filter (λ a. not (list_any (nat_eq a.number) l.beside))
    (map seen (take l.file-index l.files)))
