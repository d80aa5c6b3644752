-- The segments of a path, taken off one at a time.
use Rattle.std.proofs.Common.{◌≡◌, ℕ, ◌+◌, ◌-◌, ◌<◌, ◌≤◌, ◌==◌, Option, Some, None, MatchOption}
use Rattle.std.proofs.Common.{Bor, List, [], ◌∷◌, length, take, All, sym, subst, arith, lit<}
use Rattle.std.proofs.Common.{length-drop}
use Prim.Native.Nat.{suc}
use Rattle.std.specs.List.{position_or_len}
use Rattle.std.proofs.lemmas.List.Elements.{All-nil, All-cons, All-head, All-tail}
use Rattle.std.proofs.lemmas.List.Splits.{slice_split_first, slice_split_none, length-slice_split}
use Rattle.std.proofs.lemmas.List.Sums.{fails_before_first}
use Rattle.std.proofs.lemmas.Str.Pattern.{IsSplitOnceResult, split_once_first}
use Rattle.tree_io.specs.Path.{IsPlainSegment, IsSourceFolder, segments_of}

-- segments of a path that belongs
pub record AreSource (segments : List (List ℕ)) : Type 0 where
  pub plain : All IsPlainSegment segments
  pub folders : All IsSourceFolder (take (length segments - 1) segments)

front-cons : (s : List ℕ) (ss : List (List ℕ)) → 1 ≤ length ss → take (length (s ∷ ss) - 1) (s ∷ ss)
    ≡ s ∷ take (length ss - 1) ss
front-cons s [] some = absurd (omega arith)
front-cons s (t ∷ ts) some = let e : suc (suc (length ts)) - 1
    ≡ suc (suc (length ts) - 1) = omega arith in rw e

pub AreSource-cons : (s : List ℕ) (ss : List (List ℕ)) → 1 ≤ length ss → IsPlainSegment s
    → IsSourceFolder s → AreSource ss → AreSource (s ∷ ss)
AreSource-cons s ss some plain source rest = record {
  plain = All-cons IsPlainSegment s ss plain rest.plain;
  folders = subst (All IsSourceFolder) (sym (front-cons s ss some))
      (All-cons IsSourceFolder s _ source rest.folders);
}

pub AreSource-head : (s : List ℕ) (ss : List (List ℕ)) → 1 ≤ length ss → AreSource (s ∷ ss)
    → IsPlainSegment s × IsSourceFolder s
AreSource-head s ss some all = (
  All-head IsPlainSegment s ss all.plain,
  All-head IsSourceFolder s
      (take (length ss - 1) ss) (subst (All IsSourceFolder) (front-cons s ss some) all.folders),
)

pub AreSource-tail : (s : List ℕ) (ss : List (List ℕ)) → 1 ≤ length ss → AreSource (s ∷ ss)
    → AreSource ss
AreSource-tail s ss some all = record {
  plain = All-tail IsPlainSegment s ss all.plain;
  folders = All-tail IsSourceFolder s (take (length ss - 1) ss)
      (subst (All IsSourceFolder) (front-cons s ss some) all.folders);
}

pub AreSource-one : (s : List ℕ) → IsPlainSegment s → AreSource (s ∷ [])
AreSource-one s plain = record {
  plain = All-cons IsPlainSegment s [] plain
      (All-nil IsPlainSegment);
  folders = λ k d below. absurd (omega arith);
}

-- there is always a segment
pub length-segments_of : (path : List ℕ) → 1 ≤ length (segments_of path)
length-segments_of path = omega (arith, length-slice_split (λ b. b == 47) path)

-- what `split_once` at a slash says of the segments
pub segments_of-split : (path : List ℕ) (r : Option (Bor (List ℕ) × Bor (List ℕ)))
    → IsSplitOnceResult 47 path r
    → MatchOption r (segments_of path ≡ path ∷ [])
    (λ x. (segments_of path ≡ x.0.now ∷ segments_of x.1.now) × (length x.1.now < length path))
segments_of-split path None cut =
    let none : position_or_len (λ b. b == 47) path
    ≡ length path = split_once_first 47 path None cut (lit< tt) in
    slice_split_none (λ b. b == 47) path (λ k d below. fails_before_first (λ b. b == 47) path k d
    (omega arith))
segments_of-split path (Some x) cut =
    let first = split_once_first 47 path (Some x) cut (lit< tt) in
    let shorter : length x.1.now < length path = rw first.2
    (omega (arith, length-drop (position_or_len (λ b. b == 47) path + 1) path, first.0)) in
    (rw (first.1, first.2) (slice_split_first (λ b. b == 47) path 0 first.0), shorter)
