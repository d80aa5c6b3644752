-- The bytes between the quotes of a rune.
use Rattle.std.proofs.Common.{◌≡◌, ◌∙◌, ℕ, List, [], ◌∷◌, ◌++◌, ◌==◌, length, true, false, refl}
use Rattle.std.proofs.Common.{ap}
use Rattle.std.specs.Prelude.{Some, None, if◌then◌else◌, IsUtf8, option_map}
use Rattle.std.specs.Str.{chars, is_utf8}
use Rattle.std.proofs.lemmas.Str.{IsUtf8-from_is_utf8, is_utf8-from_IsUtf8}
use Rattle.go_ast.specs.Characters.{single_quote}
use Rattle.go_literals.specs.Reading.{only_character, read_character, before_quote}

pub read_utf8 : (bytes : List ℕ) → IsUtf8 bytes
    → read_character bytes ≡ only_character (length bytes) (chars bytes)
read_utf8 bytes h = rw (is_utf8-from_IsUtf8 bytes h) refl

pub read_other : (bytes : List ℕ) → (IsUtf8 bytes → ⊥) → read_character bytes ≡ None
read_other bytes h = (elim (is_utf8 bytes) as (λ b. is_utf8 bytes ≡ b
    → (if b then only_character (length bytes) (chars bytes) else None) ≡ None) [
      | true ↦ λ e. absurd (h (IsUtf8-from_is_utf8 bytes e))
      | false ↦ λ e. refl
    ]) refl

-- what stands before the last byte, where that is a quote
pub before_last : (inner : List ℕ) (last : ℕ)
    → before_quote (inner ++ last ∷ []) ≡ (if last == single_quote then Some inner else None)
before_last [] last = refl
before_last (b ∷ []) last =
    (elim (last == single_quote) as
    (λ t. option_map (λ front. b ∷ front) (if t then Some [] else None)
    ≡ (if t then Some (b ∷ []) else None)) [ true ↦ refl | false ↦ refl ])
before_last (b ∷ c ∷ inner) last = ap (option_map (λ front. b ∷ front))
    (before_last (c ∷ inner) last)
    ∙ (elim (last == single_quote) as
    (λ t. option_map (λ front. b ∷ front) (if t then Some (c ∷ inner) else None)
    ≡ (if t then Some (b ∷ c ∷ inner) else None)) [ true ↦ refl | false ↦ refl ])

pub unquoted : (bytes inner : List ℕ) (last : ℕ) → bytes ≡ inner ++ last ∷ []
    → (last == single_quote) ≡ false → before_quote bytes ≡ None
unquoted bytes inner last e h = ap before_quote e ∙ before_last inner last ∙ rw h refl
