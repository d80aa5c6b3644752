-- A spelling at the front of some bytes: the longest there, or the number that is the whole run.
use Rattle.std.proofs.Common.{◌≡◌, ℕ, true, false, List, ◌++◌, Some, MatchBool, subst, refl}
use Rattle.std.proofs.lemmas.Bool.{MatchBool-at_true, MatchBool-at_false}
use Rattle.go_ast.specs.Lexical.{Spelling, spelled, print_spelling, IsSpelling, IsSpelled}
use Rattle.go_ast.specs.Lexical.{IsWholeRun, IsLongest, begins_number, begins_comment}
use Rattle.go_scanner.specs.declared.shape.Shape.{Shape}
use Rattle.go_scanner.specs.Shapes.{shape_of}

-- a spelling stands at the front of the bytes, of the extent that the rest allows
pub record SpelledAt (bytes : List ℕ) (spelling : Spelling) (after : List ℕ) : Type 0 where
  pub split : bytes ≡ print_spelling spelling ++ after
  pub valid : IsSpelling spelling
  pub extent : MatchBool (begins_number bytes) (IsWholeRun spelling bytes)
      (IsLongest spelling bytes)

-- a spelling of this shape does
pub record SpelledAs (bytes : List ℕ) (shape : Shape) : Type 0 where
  pub spelling : Spelling
  pub after : List ℕ
  pub stands : SpelledAt bytes spelling after
  pub same : shape_of (spelled spelling) ≡ shape

pub SpelledAs-Some : (bytes : List ℕ) (found shape : Shape) → Some found ≡ Some shape
    → SpelledAs bytes found → SpelledAs bytes shape
SpelledAs-Some bytes found shape e h = let same : found ≡ shape = cc in
    subst (SpelledAs bytes) same h

pub SpelledAt-IsSpelled : (spelling : Spelling) (after : List ℕ) → IsSpelled spelling after
    → SpelledAt (print_spelling spelling ++ after) spelling after
SpelledAt-IsSpelled spelling after h = record { split = refl; valid = h.valid; extent = h.extent }

pub IsSpelled-SpelledAt : (bytes : List ℕ) (spelling : Spelling) (after : List ℕ)
    → begins_comment bytes ≡ false → SpelledAt bytes spelling after → IsSpelled spelling after
IsSpelled-SpelledAt bytes spelling after no_comment h = record {
  valid = h.valid;
  no_comment = subst (λ x. begins_comment x ≡ false) h.split no_comment;
  extent =
      subst (λ x. MatchBool (begins_number x) (IsWholeRun spelling x) (IsLongest spelling x))
      h.split h.extent;
}

module _ (bytes : List ℕ) (spelling : Spelling) where
  pub whole_run : (after : List ℕ) → begins_number bytes ≡ true → SpelledAt bytes spelling after
      → IsWholeRun spelling bytes
  whole_run after e h =
      MatchBool-at_true (IsWholeRun spelling bytes) (IsLongest spelling bytes) e h.extent

  pub longest : (after : List ℕ) → begins_number bytes ≡ false → SpelledAt bytes spelling after
      → IsLongest spelling bytes
  longest after e h =
      MatchBool-at_false (IsWholeRun spelling bytes) (IsLongest spelling bytes) e h.extent

  pub extent_of-run : begins_number bytes ≡ true → IsWholeRun spelling bytes
      → MatchBool (begins_number bytes) (IsWholeRun spelling bytes) (IsLongest spelling bytes)
  extent_of-run e h = rw e h

  pub extent_of-longest : begins_number bytes ≡ false → IsLongest spelling bytes
      → MatchBool (begins_number bytes) (IsWholeRun spelling bytes) (IsLongest spelling bytes)
  extent_of-longest e h = rw e h
