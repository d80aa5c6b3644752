-- Steps that may give nothing.
use Rattle.std.proofs.Common.{◌≡◌, refl}
use Rattle.std.specs.Prelude.{Option, Some, None}
use Rattle.go_literals.specs.Options.{◌|>◌}

-- where two steps give something, so does the first
pub bind_some : {A B : Type 0} (o : Option A) (f : A → Option B) (b : B) → (o |> f) ≡ Some b
    → (a : A) × (o ≡ Some a) × (f a ≡ Some b)
bind_some None f b p = cc
bind_some (Some a) f b p = (a, refl, p)

pub some_is : {A : Type 0} (a b : A) → Some a ≡ Some b → a ≡ b
some_is a b p = cc
