-- Bytes at which a text may be cut.
use Rattle.std.proofs.Common.{◌≡◌, ◌==◌, ℕ, ◌<◌, true, false, ⊎_elim, arith}
use Rattle.std.specs.Prelude.{◌||◌}
use Rattle.std.proofs.lemmas.Bool.{or_cases, eqb-true, not-false}
use Rattle.synopsis_notes.specs.Synopses.{is_white}
use Rattle.synopsis_notes.specs.Notes.{is_in_name, is_parenthesis}

pub white_is_ascii : (b : ℕ) → is_white b ≡ true → b < 128
white_is_ascii b is = ⊎_elim
    (λ (h : ((b == 32) || (b == 9)) ≡ true). ⊎_elim
    (λ (h : (b == 32) ≡ true). omega (arith, eqb-true b 32 h))
    (λ (h : (b == 9) ≡ true). omega (arith, eqb-true b 9 h))
    (or_cases (b == 32) (b == 9) h))
    (λ (h : (b == 10) ≡ true). omega (arith, eqb-true b 10 h))
    (or_cases ((b == 32) || (b == 9)) (b == 10) is)

pub parenthesis_is_ascii : (b : ℕ) → is_in_name b ≡ false → b < 128
parenthesis_is_ascii b is = ⊎_elim
    (λ (h : (b == 40) ≡ true). omega (arith, eqb-true b 40 h))
    (λ (h : (b == 41) ≡ true). omega (arith, eqb-true b 41 h))
    (or_cases (b == 40) (b == 41) (not-false (is_parenthesis b) is))
