use Rattle.std.proofs.Common.{◌≡◌, true, take, drop, refl, sym, ◌∙◌, ap}
use Rattle.std.proofs.lemmas.List.{take_rest}
use Rattle.std.specs.Char.{is_ascii_hexdigit}
use Rattle.go_scanner.specs.NumberBytes.{spells_mantissa, spells_exponent}
use Rattle.go_scanner.proofs.Standing.Floats.{hexadecimal_at}
use Rattle.go_scanner.proofs.number.spells_hexadecimal_float.Goals as goal

pub returns-then-spells_mantissa : goal.returns-then-spells_mantissa
returns-then-spells_mantissa c =
    let bytes = c.args.bytes.now in
    let n = c.exponent_place-place.result in
    let rest : spells_exponent (drop n bytes) ≡ c.spells_exponent.result =
    ap spells_exponent (sym (take_rest bytes n)) ∙ sym c.spells_exponent.ensures in
    let front : spells_mantissa is_ascii_hexdigit true (take n bytes) ≡ true =
    sym c.spells_mantissa.ensures ∙ c.if-spells_mantissa.true in
    sym (hexadecimal_at bytes n (sym c.exponent_place-place.ensures) ∙ rw (front, rest) refl)
