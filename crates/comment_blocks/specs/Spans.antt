-- Cited by public clauses. The cutting of lines into spans (Go Doc Comments, "Syntax").
use Rattle.std.specs.Prelude.{◌≡◌, ℕ, Bool, true, false, ◌&&◌, not, List, [], ◌∷◌, if◌then◌else◌}
use Rattle.std.specs.Prelude.{◌+◌, ◌==◌, Option, Some, None}
use Rattle.std.specs.List.{flat_map, list_all}
use Rattle.comment_blocks.specs.Texts.{is_blank}

abbrev pub is_empty : List ℕ → Bool
is_empty [] = true
is_empty (b ∷ line) = false

-- an indented line begins with a blank
abbrev pub is_indented : List ℕ → Bool
is_indented [] = false
is_indented (b ∷ line) = is_blank b

-- a plain line is another that isn't empty
abbrev pub is_plain : List ℕ → Bool
is_plain [] = false
is_plain (b ∷ line) = not (is_blank b)

-- a part of a text: an empty line, a plain span or an indented span
pub data Piece : Type 0 where
  gap : Piece
  plain indented : List (List ℕ) → Piece

abbrev pub lines_in : Piece → List (List ℕ)
lines_in gap = [] ∷ []
lines_in (plain lines) = lines
lines_in (indented lines) = lines

-- one place further than those that are reached, if any is
abbrev pub one_further : ℕ → ℕ
one_further n = if n == 0 then 0 else 1 + n

-- lines that go on an indented span: indented ones, and empty ones if an indented one follows
abbrev pub goes_on : Bool → List (List ℕ) → Bool
goes_on behind_gap [] = not behind_gap
goes_on behind_gap ([] ∷ lines) = goes_on true lines
goes_on behind_gap ((b ∷ line) ∷ lines) = is_blank b && goes_on false lines

-- a plain span has plain lines alone, an indented one begins and ends with an indented line, and
-- has only empty lines between such lines
abbrev pub is_piece : Piece → Bool
is_piece gap = true
is_piece (plain []) = false
is_piece (plain (line ∷ lines)) = is_plain line && list_all is_plain lines
is_piece (indented []) = false
is_piece (indented (line ∷ lines)) = is_indented line && goes_on false lines

abbrev pub begins_plain : List Piece → Bool
begins_plain (plain lines ∷ pieces) = true
begins_plain _ = false

-- the next span is there, and indented
abbrev pub indented_beyond : List Piece → Bool
indented_beyond [] = false
indented_beyond (gap ∷ pieces) = indented_beyond pieces
indented_beyond (plain lines ∷ pieces) = false
indented_beyond (indented lines ∷ pieces) = true

-- no span could be longer: none has a plain span next to a plain one, nor the next span indented as
-- itself
abbrev pub are_apart : List Piece → Bool
are_apart [] = true
are_apart (gap ∷ pieces) = are_apart pieces
are_apart (plain lines ∷ pieces) = not (begins_plain pieces) && are_apart pieces
are_apart (indented lines ∷ pieces) = not (indented_beyond pieces) && are_apart pieces

-- the pieces are the lines, cut into spans that are as long as can be
pub record IsCutting (pieces : List Piece) (lines : List (List ℕ)) : Type 0 where
  pub whole : flat_map lines_in pieces ≡ lines
  pub valid : list_all is_piece pieces ≡ true
  pub apart : are_apart pieces ≡ true

-- the pieces with a plain line before them
abbrev pub with_plain : List ℕ → List Piece → List Piece
with_plain line (plain lines ∷ pieces) = plain (line ∷ lines) ∷ pieces
with_plain line pieces = plain (line ∷ []) ∷ pieces

-- the lines up to the end of the next span, and the pieces after it, if that span is indented
abbrev pub behind_gap : Option (List (List ℕ) × List Piece) → Option (List (List ℕ) × List Piece)
behind_gap None = None
behind_gap (Some reached) = Some ([] ∷ reached.0, reached.1)

abbrev pub reached : List Piece → Option (List (List ℕ) × List Piece)
reached [] = None
reached (gap ∷ pieces) = behind_gap (reached pieces)
reached (plain lines ∷ pieces) = None
reached (indented lines ∷ pieces) = Some (lines, pieces)

-- the pieces with an indented line before them
abbrev pub joined_to : List ℕ → List Piece → Option (List (List ℕ) × List Piece) → List Piece
joined_to line pieces None = indented (line ∷ []) ∷ pieces
joined_to line pieces (Some beyond) = indented (line ∷ beyond.0) ∷ beyond.1

abbrev pub with_line : List ℕ → List Piece → List Piece
with_line [] pieces = gap ∷ pieces
with_line (b ∷ line) pieces =
    if is_blank b then joined_to (b ∷ line) pieces (reached pieces)
    else with_plain (b ∷ line) pieces

-- the cutting of lines, from the last line to the first
abbrev pub pieces_of : List (List ℕ) → List Piece
pieces_of [] = []
pieces_of (line ∷ lines) = with_line line (pieces_of lines)
