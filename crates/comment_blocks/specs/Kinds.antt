-- Cited by public clauses. What a plain span is: a heading, definitions of links, or a paragraph
-- (Go Doc Comments, "Headings", "Links", "Paragraphs").
use Rattle.std.specs.Prelude.{ℕ, ◌-◌, Bool, false, ◌&&◌, ◌||◌, not, List, [], ◌∷◌, length, take}
use Rattle.std.specs.Prelude.{drop, if◌then◌else◌, ◌==◌, nat_eq, nat_lt, codes, Option, Some, None}
use Rattle.std.specs.List.{last_or, list_any, prefix_len, starts_with, suffix_len}
use Rattle.std.specs.Str.{chars}
use Rattle.go_chars.specs.Identifiers.{is_exported, is_letter_or_digit}
use Rattle.go_ast.specs.Characters.{space}
use Rattle.comment_blocks.specs.declared.block.LinkDef.{LinkDef}
use Rattle.comment_blocks.specs.Texts.{is_blank}
use Rattle.comment_blocks.specs.Spans.{is_empty}

-- a text without the blanks at its front
abbrev pub without_blanks : List ℕ → List ℕ
without_blanks text = drop (prefix_len is_blank text) text

-- a text without the blanks at its end
abbrev pub without_last_blanks : List ℕ → List ℕ
without_last_blanks text = take (length text - suffix_len is_blank text) text

abbrev pub begins_blank : List ℕ → Bool
begins_blank [] = false
begins_blank (b ∷ text) = is_blank b

-- the text of a heading with its mark, "# ", and a character that is no blank
abbrev pub heading_after : List ℕ → Option (List ℕ)
heading_after text =
    if is_empty (without_blanks text) then None
    else Some (without_last_blanks (without_blanks text))

abbrev pub marked_heading : List ℕ → Option (List ℕ)
marked_heading (mark ∷ blank ∷ text) =
    if mark == 35 && blank == space then heading_after text else None
marked_heading _ = None

-- a character that stands in no heading without a mark
abbrev pub is_heading_mark : ℕ → Bool
is_heading_mark b = list_any (λ mark. mark == b) (codes ";:!?+*/=[]{}_^&~%#@<>\"\\.")

abbrev pub is_name_end : Option ℕ → Bool
is_name_end None = false
is_name_end (Some c) = is_letter_or_digit c

-- a line that has the form of a heading: it begins with an upper case letter, ends with a letter or
-- a digit, and has none of the marks
abbrev pub has_heading_form : List ℕ → Bool
has_heading_form line =
    is_exported (chars line) && is_name_end (last_or None (chars line))
    && not (list_any is_heading_mark line)

-- the address begins with a scheme, and has something after it
abbrev pub has_scheme : List ℕ → List ℕ → Bool
has_scheme scheme address =
    starts_with nat_eq address scheme && nat_lt (length scheme) (length address)

abbrev pub has_known_scheme : List ℕ → Bool
has_known_scheme address =
    has_scheme (codes "http://") address || has_scheme (codes "https://") address
    || has_scheme (codes "ftp://") address

abbrev pub is_address : List ℕ → Bool
is_address address = has_known_scheme address && not (list_any is_blank address)

abbrev pub is_bracket : ℕ → Bool
is_bracket b = b == 91 || b == 93

abbrev pub is_in_brackets : ℕ → Bool
is_in_brackets b = not (is_bracket b)

-- a definition, by what stands after its text and "]:": blanks and an address
abbrev pub defined_by : List ℕ → List ℕ → Option LinkDef
defined_by text after =
    if begins_blank after && is_address (without_blanks after)
    then Some (record { text = text; url = without_blanks after }) else None

abbrev pub definition_behind : List ℕ → List ℕ → Option LinkDef
definition_behind text (bracket ∷ colon ∷ after) =
    if bracket == 93 && colon == 58 then defined_by text after else None
definition_behind text _ = None

abbrev pub definition_with : List ℕ → List ℕ → Option LinkDef
definition_with [] rest = None
definition_with (t ∷ text) rest = definition_behind (t ∷ text) rest

abbrev pub definition_in : List ℕ → Option LinkDef
definition_in line =
    definition_with
    (take (prefix_len is_in_brackets line) line) (drop (prefix_len is_in_brackets line) line)

-- the definition of a link that a line is
abbrev pub definition_of : List ℕ → Option LinkDef
definition_of [] = None
definition_of (b ∷ line) = if b == 91 then definition_in line else None

-- all of the options, if each has a value
abbrev pub with_first : Option LinkDef → Option (List LinkDef) → Option (List LinkDef)
with_first (Some first) (Some others) = Some (first ∷ others)
with_first _ _ = None

-- the definitions that lines are, if each is one
abbrev pub definitions_of : List (List ℕ) → Option (List LinkDef)
definitions_of [] = Some []
definitions_of (line ∷ lines) = with_first (definition_of line) (definitions_of lines)
