-- Tests of bytes of ASCII.
use Rattle.std.proofs.Common.{◌≡◌, ℕ, ◌≤◌, ◌<◌, Bool, true, ◌||◌, nat_le, cond, inl, inr, arith}
use Rattle.std.specs.Int.{is_in_range}
use Rattle.std.specs.Char.{is_ascii_hexdigit}
use Rattle.std.proofs.lemmas.Bool.{and_parts, or_cases, leb-true, agree_below, agree_below_at}

pub below_range : (low high b : ℕ) → is_in_range low high b ≡ true → b ≤ high
below_range low high b h = leb-true b high (and_parts (nat_le low b) (nat_le b high) h).1

pub hexadecimal_below : (b : ℕ) → is_ascii_hexdigit b ≡ true → b < 128
hexadecimal_below b h =
    elim (or_cases (is_in_range 48 57 b || is_in_range 65 70 b) (is_in_range 97 102 b) h) [
      | inl e ↦ elim (or_cases (is_in_range 48 57 b) (is_in_range 65 70 b) e) [
        | inl f ↦ omega (arith, below_range 48 57 b f)
        | inr f ↦ omega (arith, below_range 65 70 b f)
      ]
      | inr e ↦ omega (arith, below_range 97 102 b e)
    ]

-- what follows from a test at each byte below 128, found by computing it there
abbrev pub implies : (ℕ → Bool) → (ℕ → Bool) → ℕ → Bool
implies f g b = cond (f b) (g b) true

pub by_table : (f g : ℕ → Bool) → agree_below (implies f g) (λ _. true) 128 ≡ true → (b : ℕ)
    → b < 128 → f b ≡ true → g b ≡ true
by_table f g table b low h = let e : implies f g b ≡ true =
    agree_below_at (implies f g) (λ _. true) 128 b table low in rw h at e
