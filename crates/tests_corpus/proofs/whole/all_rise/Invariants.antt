use Rattle.std.proofs.Common.{◌≡◌, ℕ, ◌+◌, ◌<◌, List, get_or}
use Rattle.std.specs.Cmp.Lexicographic.{slice_cmp}
use Rattle.std.specs.Ordering.{nat_cmp}
use Rattle.std.specs.declared.cmp.Ordering.TheVariants.{Less}
use Rattle.tree_io.specs.declared.tree.Entry.{Entry}
use Rattle.tests_corpus.proofs.whole.all_rise.Given as goal

abbrev pub invariant-loop-place : goal.invariant-loop-place
invariant-loop-place l = (k : ℕ) (d : List ℕ × Entry) → k + 1 < l.place
    → slice_cmp nat_cmp (get_or l.entries k d).0 (get_or l.entries (k + 1) d).0 ≡ Less
