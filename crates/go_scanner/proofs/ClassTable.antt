-- The class of each byte, by the table.
use Rattle.std.proofs.Common.{◌≡◌, ℕ, ◌<◌, List, get_or, refl, ap, ◌∙◌, arith, map}
use Rattle.std.specs.List.{range_with_len}
use Rattle.std.proofs.lemmas.List.FromFn.{get_or-map-range_with_len}
use Rattle.go_scanner.specs.declared.class.Class.{Class}
use Rattle.go_scanner.specs.declared.class.Class.TheVariants.{Letter}
use Rattle.go_scanner.specs.declared.class.TheConstants.{CLASSES}
use Rattle.go_scanner.specs.Classes.{class_of}

-- computed at each byte
table_is_rule : CLASSES ≡ map class_of (range_with_len 0 256)
table_is_rule = refl

pub class_at : (b : ℕ) → b < 256 → get_or CLASSES b Letter ≡ class_of b
class_at b within = ap (λ (l : List Class). get_or l b Letter) table_is_rule
    ∙ get_or-map-range_with_len class_of 0 256 b b Letter within (omega arith)
