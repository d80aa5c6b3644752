-- A search by binary search among elements whose keys rise finds the first place of a key.
use Rattle.std.proofs.Common.{◌≡◌, ℕ, ◌+◌, ◌<◌, ◌≤◌, true, false, List, [], Some, None, map, get_or}
use Rattle.std.proofs.Common.{length, sym, ap, ◌∙◌, ⊎_elim, arith}
use Rattle.std.specs.Prelude.{position}
use Rattle.std.specs.Cmp.Lexicographic.{nat_list_cmp_total, slice_cmp}
use Rattle.std.specs.List.{position_or_len}
use Rattle.std.specs.List.Sorted.{IsNonDecreasingBy, IsPartitionPoint, IsSortedBy}
use Rattle.std.specs.Ordering.{is_eq, is_lt, nat_cmp, ordering_index, ordering_reverse}
use Rattle.std.specs.Str.{bytes_eq}
use Rattle.std.specs.declared.cmp.Ordering.TheVariants.{Less, Equal, Greater}
use Rattle.std.proofs.lemmas.Bool.{cases_lt}
use Rattle.std.proofs.lemmas.Bool.Decides.{nat_tests, same_from_decides}
use Rattle.std.proofs.lemmas.List.{get_or-map, length-map}
use Rattle.std.proofs.lemmas.List.Sorted.{searchable_from_sorted}
use Rattle.std.proofs.lemmas.List.Sums.{position_or_len_is}
use Rattle.std.proofs.lemmas.Map.Keys.{Less-from_sorted}
use Rattle.std.proofs.lemmas.Map.Text.{is_eq-slice_cmp}
use Rattle.std.proofs.lemmas.Slice.Eq.{bytes_eq-Decides}
use Rattle.tree_io.specs.Path.{IsRising}
use Rattle.corpus.proofs.Lists.{one_of}

bytes_eq-sym : (xs ys : List ℕ) → bytes_eq xs ys ≡ bytes_eq ys xs
bytes_eq-sym xs ys =
    let back = bytes_eq-Decides ys xs in
    same_from_decides _ _ (bytes_eq-Decides xs ys) (λ e. sym (back.0 e), λ e. back.1 (sym e))

same_test : (key q : List ℕ) → is_eq (slice_cmp nat_cmp key q) ≡ bytes_eq q key
same_test key q = is_eq-slice_cmp key q ∙ bytes_eq-sym key q

module _ {X : Type 0} (key : X → List ℕ) (xs : List X) (rising : IsRising (map key xs)) (q : List ℕ)
  where
    key_at : (i : ℕ) (d : X) → i < length xs → get_or (map key xs) i [] ≡ key (get_or xs i d)
    key_at i d below = get_or-map key xs i d [] below

    below_later : (i j : ℕ) (d : X) → i < j → j < length xs
        → slice_cmp nat_cmp (key (get_or xs i d)) (key (get_or xs j d)) ≡ Less
    below_later i j d before below =
        ap (λ k. slice_cmp nat_cmp k (key (get_or xs j d))) (sym (key_at i d (omega arith)))
        ∙ ap (slice_cmp nat_cmp (get_or (map key xs) i [])) (sym (key_at j d below))
        ∙ Less-from_sorted (slice_cmp nat_cmp) (map key xs) i j [] rising before
        (rw (length-map xs key) below)

    -- no key is below one before it
    sorted : IsSortedBy (λ a b. is_lt (slice_cmp nat_cmp (key a) (key b))) xs
    sorted k d from next =
        ap is_lt (nat_list_cmp_total.antisymm (key (get_or xs (k + 1) d)) (key (get_or xs k d))
        ∙ ap ordering_reverse (below_later k (k + 1) d (omega arith) next))

    position_is : (i : ℕ) → i ≤ length xs → ((k : ℕ) → k < i → bytes_eq q (get_or (map key xs) k []) ≡
        false)
        → (i < length xs → bytes_eq q (get_or (map key xs) i []) ≡ true)
        → position_or_len (bytes_eq q) (map key xs) ≡ i
    position_is i within before here =
        position_or_len_is (bytes_eq q) (map key xs) i [] (rw (length-map xs key) within) before
        (λ below. here (rw (length-map xs key) at below))

    pub found : (i : ℕ) → i < length xs → ((d : X) → slice_cmp nat_cmp (key (get_or xs i d)) q ≡
        Equal) → Some i ≡ position (bytes_eq q) (map key xs)
    found i below equal =
        let d = one_of xs i below in
        let here : bytes_eq q (get_or (map key xs) i []) ≡ true = ap (bytes_eq q) (key_at i d below)
        ∙ sym (same_test (key (get_or xs i d)) q) ∙ ap is_eq (equal d) in
        let is : q ≡ get_or (map key xs) i [] = (bytes_eq-Decides q (get_or (map key xs) i [])).0 here
        in
        let before : (k : ℕ) → k < i → bytes_eq q (get_or (map key xs) k []) ≡ false = λ k h.
        sym (same_test (get_or (map key xs) k []) q)
        ∙ ap (λ r. is_eq (slice_cmp nat_cmp (get_or (map key xs) k []) r)) is
        ∙ ap is_eq (Less-from_sorted (slice_cmp nat_cmp) (map key xs) k i [] rising h
        (rw (length-map xs key) below)) in
        let first = position_is i (omega arith) before (λ _. here) in
        rw (first, length-map xs key) (grind (arith, nat_tests))

    pub absent : (i : ℕ) → i ≤ length xs
        → (IsNonDecreasingBy (λ y. ordering_index (slice_cmp nat_cmp (key y) q)) xs
        → IsPartitionPoint (λ y. slice_cmp nat_cmp (key y) q ≡ Less)
        (λ y. slice_cmp nat_cmp (key y) q ≡ Greater) xs i)
        → None ≡ position (bytes_eq q) (map key xs)
    absent i within point =
        let split = point (searchable_from_sorted nat_list_cmp_total key xs q sorted) in
        let apart : (k : ℕ) → k < length xs → bytes_eq q (get_or (map key xs) k [])
        ≡ false = λ k below.
        let d = one_of xs k below in
        ap (bytes_eq q) (key_at k d below) ∙ sym (same_test (key (get_or xs k d)) q)
        ∙ ⊎_elim (λ before. ap is_eq (split.0 k d (omega arith) before))
        (λ after. ap is_eq (split.1 k d after below)) (cases_lt k i) in
        let first = position_is (length xs) (omega arith) apart (λ below. absurd (omega arith)) in
        rw (first, length-map xs key) (grind (arith, nat_tests))
