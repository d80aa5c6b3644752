use Rattle.std.proofs.Common.{◌≡◌, refl, false, List, [], ◌∷◌, ◌≤◌, length, arith}
use Rattle.go_ast.specs.Cutting.{is_ellipsis_alone}
use Rattle.type_parser.specs.declared.matching.Matched.{Matched}
use Rattle.type_parser.specs.Matching.{plain}
use Rattle.type_parser.proofs.run.is_ellipsis_alone.Goals as goal

not-alone : (items : List Matched) → 2 ≤ length items → false ≡ is_ellipsis_alone (plain items)
not-alone [] h = absurd (omega (arith, h))
not-alone (w ∷ []) h = absurd (omega (arith, h))
not-alone (w ∷ v ∷ vs) h = refl

pub returns-in_default-2 : goal.returns-in_default-2
returns-in_default-2 c = not-alone c.args.items.now c.in_default.len_at_least
