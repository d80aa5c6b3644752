-- Cited by public clauses. Operators on integers (The Go Programming Language Specification,
-- "Operators", "Arithmetic operators", "Integer operators"). Each result lies between -2^127 and
-- 2^127 - 1, or there is none.
use Rattle.std.specs.Prelude.{ℕ, zero, ◌^◌, Bool, true, false, List, codes, if◌then◌else◌, nat_le}
use Rattle.std.specs.Prelude.{nat_lt, Option, Some, None, ℤ, pos, negsuc, neg_ℤ, ◌+ℤ◌, ◌-ℤ◌, ◌*ℤ◌}
use Rattle.std.specs.Int.{int_bit_and, int_bit_or, int_bit_xor, int_shr, w128}
use Rattle.std.specs.Int.RustNames.{int_div, int_rem}
use Rattle.const_eval.specs.declared.operator.Operator.{Operator}
use Rattle.const_eval.specs.declared.operator.Operator.TheVariants as o

abbrev pub print_operator : Operator → List ℕ
print_operator o.Add = codes "+"
print_operator o.Subtract = codes "-"
print_operator o.Or = codes "|"
print_operator o.Xor = codes "^"
print_operator o.Multiply = codes "*"
print_operator o.Divide = codes "/"
print_operator o.Remainder = codes "%"
print_operator o.ShiftLeft = codes "<<"
print_operator o.ShiftRight = codes ">>"
print_operator o.And = codes "&"
print_operator o.AndNot = codes "&^"

-- unary_op, without those on other types: "+" | "-" | "^"
abbrev pub is_unary : Operator → Bool
is_unary o.Add = true
is_unary o.Subtract = true
is_unary o.Xor = true
is_unary _ = false

-- mul_op, which binds tighter than add_op
abbrev pub is_multiplying : Operator → Bool
is_multiplying o.Add = false
is_multiplying o.Subtract = false
is_multiplying o.Or = false
is_multiplying o.Xor = false
is_multiplying _ = true

-- the number, where it lies between -2^127 and 2^127 - 1
abbrev pub within : ℤ → Option ℤ
within (pos n) = if nat_lt n (2 ^ 127) then Some (pos n) else None
within (negsuc n) = if nat_lt n (2 ^ 127) then Some (negsuc n) else None

-- "^x": each bit of x is turned, which gives -1 - x
abbrev pub complement : ℤ → ℤ
complement (pos n) = negsuc n
complement (negsuc n) = pos n

abbrev pub unary_value : Operator → ℤ → Option ℤ
unary_value o.Add x = within x
unary_value o.Subtract x = within (neg_ℤ x)
unary_value o.Xor x = within (complement x)
unary_value _ x = None

-- a divisor that is not 0
abbrev pub divided : (ℤ → ℤ → ℤ) → ℤ → ℤ → Option ℤ
divided divide x (pos zero) = None
divided divide x y = within (divide x y)

-- a shift count from 0 to 127
abbrev pub shifted : (ℤ → ℕ → ℤ) → ℤ → ℤ → Option ℤ
shifted shift x (pos count) = if nat_le count 127 then within (shift x count) else None
shifted shift x (negsuc n) = None

abbrev pub times_power : ℤ → ℕ → ℤ
times_power x count = x *ℤ pos (2 ^ count)

-- quotients are cut towards 0, and a remainder has the sign of x; the bits are those of two's
-- complement
abbrev pub binary_value : Operator → ℤ → ℤ → Option ℤ
binary_value o.Add x y = within (x +ℤ y)
binary_value o.Subtract x y = within (x -ℤ y)
binary_value o.Or x y = within (int_bit_or w128 x y)
binary_value o.Xor x y = within (int_bit_xor w128 x y)
binary_value o.Multiply x y = within (x *ℤ y)
binary_value o.Divide x y = divided int_div x y
binary_value o.Remainder x y = divided int_rem x y
binary_value o.ShiftLeft x y = shifted times_power x y
binary_value o.ShiftRight x y = shifted int_shr x y
binary_value o.And x y = within (int_bit_and w128 x y)
binary_value o.AndNot x y = within (int_bit_and w128 x (complement y))
