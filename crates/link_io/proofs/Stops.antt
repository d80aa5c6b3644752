-- Where a read stops: after its first byte where there is one, and not after the end.
use Rattle.std.proofs.Common.{◌≡◌, ℕ, ◌+◌, ◌-◌, ◌<◌, ◌≤◌, ◌↔◌, Bool, true, false, ltb, List, [], ◌∷◌, ◌++◌, length, take, drop, map, min, fold, filter, refl, sym, ap, subst, arith, cond}
use Rattle.std.proofs.Math.Seq.{take-append_seam}
use Rattle.std.proofs.lemmas.List.{drop-drop, drop_all, length-drop, length-take-le, take-append-drop}
use Rattle.std.proofs.lemmas.Bool.{cond_both, false≢true, ltb-true}
use Rattle.std.proofs.lemmas.Bool.Decides.{nat_tests}
use Rattle.link_io.specs.Memory.{cuts_after}

-- the least of some cuts and an end
pub least-le : (cuts : List ℕ) (end : ℕ) → fold min end cuts ≤ end
least-le [] end = omega arith
least-le (cut ∷ cuts) end = omega (arith, least-le cuts (min end cut))

-- cuts after some bytes leave room
pub least-positive : (position : ℕ) (cuts : List ℕ) (end : ℕ) → 0 < end
    → 0 < fold min end (cuts_after position cuts)
least-positive position [] end h = h
least-positive position (cut ∷ cuts) end h =
    cond_both (ltb position cut) (cut ∷ filter (ltb position) cuts) (filter (ltb position) cuts)
    (λ rest. 0 < fold min end (map (λ (c : ℕ). c - position) rest))
    (λ behind. let before : position < cut =
    ltb-true position cut behind in least-positive position cuts (min end (cut - position))
    (omega arith))
    (λ _. least-positive position cuts end h)

-- the first of some cuts, which is after some bytes and more where it is after both parts of them
first_cut : (whole rest : ℕ → ℕ) (is_behind : ℕ → Bool) (front : ℕ → ℕ) (cut : ℕ)
    (all some : List ℕ) (a b : Bool) → (a ≡ true → b ≡ true)
    → (b ≡ true → is_behind (front cut) ≡ a) → whole cut ≡ rest (front cut) → map whole all
    ≡ map rest (filter is_behind (map front some)) → map whole (cond a (cut ∷ all) all)
    ≡ map rest (filter is_behind (map front (cond b (cut ∷ some) some)))
first_cut whole rest is_behind front cut all some true true _ same here more =
    let others : List ℕ = filter is_behind (map front some) in
    subst (λ (w : Bool). whole cut ∷ map whole all ≡ map rest (cond w (front cut ∷ others) others))
    (sym (same refl)) (cc (here, more))
first_cut whole rest is_behind front cut all some true false both _ _ _ =
    absurd (false≢true (both refl))
first_cut whole rest is_behind front cut all some false true _ same _ more =
    let others : List ℕ = filter is_behind (map front some) in
    subst (λ (w : Bool). map whole all ≡ map rest (cond w (front cut ∷ others) others))
    (sym (same refl)) more
first_cut whole rest is_behind front cut all some false false _ _ _ more = more

-- cuts after some bytes, and after some more
pub cuts_after-more : (cuts : List ℕ) (position n : ℕ) → cuts_after (position + n) cuts
    ≡ cuts_after n (cuts_after position cuts)
cuts_after-more [] position n = refl
cuts_after-more (cut ∷ cuts) position n =
    first_cut (λ c. c - (position + n)) (λ c. c - n) (ltb n) (λ c. c - position) cut
    (filter (ltb (position + n)) cuts) (filter (ltb position) cuts) (ltb (position + n) cut)
    (ltb position cut)
    (grind (arith, nat_tests)) (grind (arith, nat_tests)) (omega arith)
    (cuts_after-more cuts position n)

pub drop-more : (bytes : List ℕ) (position n : ℕ) → drop (position + n) bytes
    ≡ drop n (drop position bytes)
drop-more bytes position n = sym (drop-drop n position bytes)

-- a front of known length
take_front : (n : ℕ) (front rest : List ℕ) → length front ≡ n → take n (front ++ rest) ≡ front
take_front n front rest same = subst (λ (k : ℕ). take k (front ++ rest) ≡ front) same
    (take-append_seam front rest)

-- the bytes that were moved, and the rest, are what was left
pub moved_rest : (bytes piece buf : List ℕ) (position n : ℕ) → position + n ≤ length bytes → piece
    ≡ take n (drop position bytes) → drop position bytes
    ≡ take n (piece ++ buf) ++ drop (position + n) bytes
moved_rest bytes piece buf position n within same =
    let left : List ℕ = drop position bytes in
    let known : length left ≡ length bytes - position = length-drop position bytes in
    let front : length (take n left) ≡ n = length-take-le n left (omega arith) in
    rw (same, take_front n (take n left) buf front, ← drop-drop n position bytes)
    (sym (take-append-drop n left))

-- nothing is moved into a buffer with room exactly where nothing is left
pub moved_end : (bytes : List ℕ) (position n : ℕ) → position + n ≤ length bytes
    → (position < length bytes → 0 < n) → (n ≡ 0) ↔ (drop position bytes ≡ [])
moved_end bytes position n within progress = (
  λ none. drop_all position bytes (grind (arith, progress)),
  λ nothing. omega
      (arith, length-drop position bytes, ap length nothing),
)

pub ruleset moved = (moved_rest, moved_end)
