-- Cited by private clauses and proofs. The digits of a base.
use Rattle.std.specs.Prelude.{ℕ, Bool}
use Rattle.std.specs.Char.{is_ascii_digit, is_ascii_hexdigit}
use Rattle.go_ast.specs.Numbers.{is_binary_digit, is_octal_digit}
use Rattle.go_scanner.specs.declared.number.Base.{Base}
use Rattle.go_scanner.specs.declared.number.Base.TheVariants.{Binary, Octal, Decimal, Hexadecimal}

abbrev pub digits_of : Base → ℕ → Bool
digits_of Binary b = is_binary_digit b
digits_of Octal b = is_octal_digit b
digits_of Decimal b = is_ascii_digit b
digits_of Hexadecimal b = is_ascii_hexdigit b
