-- Cited by public clauses. The word at the front of some bytes (Go specification, "Identifiers").
use Rattle.std.specs.Prelude.{ℕ, List}
use Rattle.std.specs.List.{take_while}
use Rattle.std.specs.Str.{chars, encode_utf8_all}
use Rattle.go_chars.specs.Identifiers.{is_letter_or_digit}

-- the letters and digits at the front
unfoldable pub word_at : List ℕ → List ℕ
word_at bytes = encode_utf8_all (take_while is_letter_or_digit (chars bytes))
