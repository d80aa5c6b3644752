use Rattle.std.proofs.Common.{◌≡◌, ◌+◌, ◌<◌, ◌∙◌, ℕ, List, [], ap, get_or, length, map, sym, arith}
use Rattle.std.specs.Cmp.Lexicographic.{nat_list_cmp_total, slice_cmp}
use Rattle.std.specs.Ordering.{nat_cmp}
use Rattle.std.specs.declared.cmp.Ordering.TheVariants.{Less}
use Rattle.std.proofs.lemmas.List.{get_or-map, length-map}
use Rattle.std.proofs.lemmas.Map.Keys.{sorted_from_all_adjacent}
use Rattle.tree_io.specs.declared.tree.Entry.{Entry}
use Rattle.tree_io.specs.Path.{IsRising, paths_of}
use Rattle.corpus.proofs.Lists.{one_of}
use Rattle.tests_corpus.proofs.whole.all_rise.Goals as goal

rising : (entries : List (List ℕ × Entry))
    → ((k : ℕ) (d : List ℕ × Entry) → k + 1 < length entries
    → slice_cmp nat_cmp (get_or entries k d).0 (get_or entries (k + 1) d).0 ≡ Less)
    → IsRising (paths_of entries)
rising entries adjacent =
    let path = λ (e : List ℕ × Entry). e.0 in
    sorted_from_all_adjacent nat_list_cmp_total (map path entries) []
    (λ k below.
    let next : k + 1 < length entries = rw length-map at below in
    let d = one_of entries (k + 1) next in
    ap (λ p. slice_cmp nat_cmp p (get_or (map path entries) (k + 1) []))
    (get_or-map path entries k d [] (omega arith))
    ∙ ap (slice_cmp nat_cmp (get_or entries k d).0) (get_or-map path entries (k + 1) d [] next)
    ∙ adjacent k d next)

pub returns : goal.returns
returns c = λ _. rising c.args.entries.now (λ k d below. c.loop-place.invariant k d (omega arith))
