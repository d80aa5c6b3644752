-- Where a byte stands first, by what a search for it answers.
use Rattle.std.proofs.Common.{◌≡◌, ℕ, zero, suc, ◌<◌, Bool, true, false, not, List, [], ◌∷◌}
use Rattle.std.proofs.Common.{length, get_or, Option, Some, None, refl, sym, arith, inl, inr}
use Rattle.std.specs.List.{list_any, position_or_len}
use Rattle.std.specs.Option.{is_some}
use Rattle.std.proofs.lemmas.Bool.{false_from_ne_true, not_from_true, not_from_false, cases_Bool}
use Rattle.std.proofs.lemmas.List.Sums.{prefix_len_is}
use Rattle.memchr.specs.Find.{IsFirstByte}

module _ (p : ℕ → Bool) where
  pub place_none : (bytes : List ℕ) → IsFirstByte p bytes None
      → length bytes ≡ position_or_len p bytes
  place_none bytes nowhere =
      sym (prefix_len_is (λ b. not (p b)) bytes (length bytes) 0 (omega arith)
      (λ k below. not_from_false _ (false_from_ne_true _ (nowhere k (omega arith) below)))
      (λ past. absurd (omega arith)))

  pub place_some : (bytes : List ℕ) (n : ℕ) → IsFirstByte p bytes (Some n)
      → n ≡ position_or_len p bytes
  place_some bytes n first =
      sym (prefix_len_is (λ b. not (p b)) bytes n 0 (omega (arith, first.0.high))
      (λ k below. not_from_false _ (false_from_ne_true _ (first.0.before k (omega arith) below)))
      (λ within. not_from_true _ first.1))

  any_at : (bytes : List ℕ) (n : ℕ) → n < length bytes → p (get_or bytes n 0) ≡ true
      → list_any p bytes ≡ true
  any_at [] n within h = absurd (omega arith)
  any_at (b ∷ bytes) zero within h = rw h refl
  any_at (b ∷ bytes) (suc n) within h = elim (cases_Bool (p b)) [
    | inl here ↦ rw here refl
    | inr other ↦ rw other (any_at bytes n (omega arith) h)
  ]

  any_nowhere : (bytes : List ℕ) → ((k : ℕ) → k < length bytes → p (get_or bytes k 0) ≡ false)
      → list_any p bytes ≡ false
  any_nowhere [] nowhere = refl
  any_nowhere (b ∷ bytes) nowhere =
      rw (nowhere 0 (omega arith)) (any_nowhere bytes (λ k below. nowhere (suc k) (omega arith)))

  -- whether a search finds anything
  pub any_found : (bytes : List ℕ) (found : Option ℕ) → IsFirstByte p bytes found
      → is_some found ≡ list_any p bytes
  any_found bytes None nowhere =
      sym (any_nowhere bytes (λ k below. false_from_ne_true _ (nowhere k (omega arith) below)))
  any_found bytes (Some n) first = sym (any_at bytes n first.0.high first.1)
