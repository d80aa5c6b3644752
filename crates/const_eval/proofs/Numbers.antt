-- Values below 2^127 are below 2^128.
use Rattle.std.proofs.Common.{◌≡◌, ◌∙◌, ap, ℕ, refl, arith}
use Rattle.std.specs.Prelude.{Option, Some, None}
use Rattle.go_literals.specs.Options.{◌|>◌}
use Rattle.go_literals.specs.Reading.{in_range}
use Rattle.const_eval.specs.Reading.{as_number}

wide_number : (found : Option ℕ) → as_number (found |> in_range) ≡ as_number found
wide_number None = refl
wide_number (Some n) = grind arith

pub same_number : (found read : Option ℕ) → found ≡ (read |> in_range)
    → as_number found ≡ as_number read
same_number found read h = ap as_number h ∙ wide_number read
