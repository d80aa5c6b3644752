-- Cited by public clauses. Expressions of build lines (The go command, "Build constraints"): trees,
-- the symbols that a tree is printed as, which trees are valid, and their value.
use Rattle.std.specs.Prelude.{◌≡◌, ℕ, suc, ◌≤◌, Bool, true, false, ◌&&◌, ◌||◌, not, List, [], ◌∷◌}
use Rattle.std.specs.Prelude.{◌++◌, ◌==◌, max, IsTrue, codes}
use Rattle.std.specs.List.{list_all}
use Rattle.std.specs.Str.{all_scalars, encode_utf8_all}
use Rattle.go_chars.specs.Identifiers.{is_letter_or_digit}
use Rattle.go_ast.specs.Characters.{space, tab, full_stop}

mutual
  -- Or = And { "||" And }
  pub data Expression : Type 0 where
    conjunction : Conjunction → Expression
    either : Expression → Conjunction → Expression

  -- And = Not { "&&" Not }
  pub data Conjunction : Type 0 where
    factor : Factor → Conjunction
    both : Conjunction → Factor → Conjunction

  -- Not = [ "!" ] ( "(" Or ")" | tag )
  pub data Factor : Type 0 where
    plain negated : Operand → Factor

  -- a tag, by its characters, or an expression in parentheses
  pub data Operand : Type 0 where
    tag : List ℕ → Operand
    group : Expression → Operand

pub data Symbol : Type 0 where
  opening closing bang ampersands bars : Symbol
  name : List ℕ → Symbol

abbrev pub characters_of : Symbol → List ℕ
characters_of opening = codes "("
characters_of closing = codes ")"
characters_of bang = codes "!"
characters_of ampersands = codes "&&"
characters_of bars = codes "||"
characters_of (name characters) = characters

-- the symbols that a tree is printed as
abbrev mutual
  pub print : Expression → List Symbol
  print (conjunction c) = print_conjunction c
  print (either e c) = print e ++ bars ∷ print_conjunction c

  pub print_conjunction : Conjunction → List Symbol
  print_conjunction (factor f) = print_factor f
  print_conjunction (both c f) = print_conjunction c ++ ampersands ∷ print_factor f

  pub print_factor : Factor → List Symbol
  print_factor (plain o) = print_operand o
  print_factor (negated o) = bang ∷ print_operand o

  pub print_operand : Operand → List Symbol
  print_operand (tag characters) = name characters ∷ []
  print_operand (group e) = opening ∷ print e ++ closing ∷ []

-- a tag is one level, and parentheses are one more than what they hold
abbrev mutual
  pub levels : Expression → ℕ
  levels (conjunction c) = levels_of_conjunction c
  levels (either e c) = max (levels e) (levels_of_conjunction c)

  pub levels_of_conjunction : Conjunction → ℕ
  levels_of_conjunction (factor f) = levels_of_factor f
  levels_of_conjunction (both c f) = max (levels_of_conjunction c) (levels_of_factor f)

  pub levels_of_factor : Factor → ℕ
  levels_of_factor (plain o) = levels_of_operand o
  levels_of_factor (negated o) = levels_of_operand o

  pub levels_of_operand : Operand → ℕ
  levels_of_operand (tag characters) = 1
  levels_of_operand (group e) = suc (levels e)

-- the value, by the tags that hold, which are told by their bytes
abbrev mutual
  pub value : (List ℕ → Bool) → Expression → Bool
  value holds (conjunction c) = value_of_conjunction holds c
  value holds (either e c) = value holds e || value_of_conjunction holds c

  pub value_of_conjunction : (List ℕ → Bool) → Conjunction → Bool
  value_of_conjunction holds (factor f) = value_of_factor holds f
  value_of_conjunction holds (both c f) = value_of_conjunction holds c && value_of_factor holds f

  pub value_of_factor : (List ℕ → Bool) → Factor → Bool
  value_of_factor holds (plain o) = value_of_operand holds o
  value_of_factor holds (negated o) = not (value_of_operand holds o)

  pub value_of_operand : (List ℕ → Bool) → Operand → Bool
  value_of_operand holds (tag characters) = holds (encode_utf8_all characters)
  value_of_operand holds (group e) = value holds e

abbrev pub is_blank : ℕ → Bool
is_blank c = c == space || c == tab

-- a letter, a digit, "_" or "."
abbrev pub is_tag_character : ℕ → Bool
is_tag_character c = is_letter_or_digit c || c == full_stop

abbrev pub is_tag : List ℕ → Bool
is_tag [] = false
is_tag (c ∷ cs) = list_all is_tag_character (c ∷ cs)

abbrev pub is_symbol : Symbol → Bool
is_symbol (name characters) = is_tag characters
is_symbol _ = true

-- the symbols stand one after another, with blanks between them and at both ends
abbrev pub Spaces : List Symbol → List ℕ → Type 0
Spaces [] text = IsTrue (list_all is_blank text)
Spaces (symbol ∷ symbols) text =
    (blanks rest : List ℕ) × IsTrue (list_all is_blank blanks)
    × (text ≡ blanks ++ characters_of symbol ++ rest) × Spaces symbols rest

-- the characters spell the expression, whose tags are valid and which has at most 100 levels
pub record IsSpelled (text : List ℕ) (expression : Expression) : Type 0 where
  pub tags : IsTrue (list_all is_symbol (print expression))
  pub depth : levels expression ≤ 100
  pub spaced : Spaces (print expression) text

-- the bytes spell the expression in UTF-8
abbrev pub Spells : List ℕ → Expression → Type 0
Spells bytes expression =
    (text : List ℕ) × IsTrue (all_scalars text) × (bytes ≡ encode_utf8_all text)
    × IsSpelled text expression

-- the bytes spell no expression
abbrev pub IsMalformed : List ℕ → Type 0
IsMalformed bytes = (expression : Expression) → Spells bytes expression → ⊥
