use Rattle.std.proofs.Common.{◌≡◌, ◌≤◌, ◌<◌, ◌-◌, ◌*◌, ◌+◌, ◌^◌, ℕ, length, get_or}
use Rattle.std.specs.Ordering.{nat_cmp}
use Rattle.std.specs.Cmp.Lexicographic.{slice_cmp}
use Rattle.std.specs.declared.cmp.Ordering.TheVariants.{Less, Greater}
use Rattle.ident_index.specs.Postings.{Posting}
use Rattle.ident_index.proofs.search.place_of.Given as goal

abbrev pub invariant-loop-low : goal.invariant-loop-low
invariant-loop-low g l = record {
  ordered : l.low ≤ l.high;
  within : l.high ≤ length l.names;
  below : (i : ℕ) (d : Posting) → i < l.low → slice_cmp nat_cmp (get_or l.names i d).name l.name
      ≡ Less;
  above : (i : ℕ) (d : Posting) → l.high ≤ i → i < length l.names
      → slice_cmp nat_cmp (get_or l.names i d).name l.name ≡ Greater;
  later : l.fn.steps ≤ l.steps;
  left : (l.high - l.low) * 2 ^ (l.steps - l.fn.steps) ≤ length l.names;
  cost : 2 ^ (l.steps - l.fn.steps) ≤ 2 * length l.names + 1;
}

abbrev pub decreases-loop-low : goal.decreases-loop-low
decreases-loop-low g l = l.high - l.low
