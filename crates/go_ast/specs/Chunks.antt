-- Cited by public clauses. The brackets of a file, and the chunks that semicolons outside brackets
-- cut it into.
use Rattle.std.specs.Prelude.{◌≡◌, Bool, true, false, List, [], ◌∷◌, ◌++◌, Option, Some, None}
use Rattle.std.specs.Prelude.{if◌then◌else◌, filter}
use Rattle.std.specs.Option.{option_and_then}
use Rattle.go_ast.specs.declared.word.Word.{Word}
use Rattle.go_ast.specs.declared.word.Mark.TheVariants as m
use Rattle.go_ast.specs.Cutting.{closing_of, pieces}
use Rattle.go_ast.specs.Marks.{closes, opens, same_mark}

-- the brackets that stay open where a word closes the innermost one; none where it is of another
-- kind, or none is open
abbrev pub closed_by : Word → List Word → Option (List Word)
closed_by w [] = None
closed_by w (o ∷ others) = if same_mark w.mark (closing_of o.mark) then Some others else None

-- the brackets that are open after a word, the innermost first, by those that are open before it
abbrev pub after_word : List Word → Word → Option (List Word)
after_word others w =
    if opens w.mark then Some (w ∷ others) else (if closes w.mark then closed_by w others
    else Some others)

-- the same after some words: none where one of them closes a bracket of another kind than its own
abbrev pub open_after : List Word → List Word → Option (List Word)
open_after others [] = Some others
open_after others (w ∷ ws) = option_and_then (λ more. open_after more ws) (after_word others w)

-- each bracket is closed by one of its kind
abbrev pub AreNested : List Word → Type 0
AreNested ws = open_after [] ws ≡ Some []

-- the word where brackets don't nest: the first closing bracket that doesn't match the innermost
-- open one, else the first bracket that is left open
pub data IsUnbalancedAt : List Word → Word → Type 0 where
  mismatched : (front : List Word) (w : Word) (rest others : List Word)
      → open_after [] front ≡ Some others → after_word others w ≡ None
      → IsUnbalancedAt (front ++ w ∷ rest) w
  left_open : {ws : List Word} (inner : List Word) (w : Word)
      → open_after [] ws ≡ Some (inner ++ w ∷ []) → IsUnbalancedAt ws w

abbrev pub has_words : List Word → Bool
has_words [] = false
has_words (w ∷ ws) = true

-- the words between semicolons outside brackets, where there are any
unfoldable pub chunks : List Word → List (List Word)
chunks ws = filter has_words (pieces m.Semi ws)
