use Rattle.std.proofs.Common.{◌≡◌, ◌∙◌, ap, refl, subst, IfOk, List, [], ◌∷◌, ◌<◌, length}
use Rattle.std.proofs.Common.{arith}
use Rattle.std.proofs.lemmas.Bool.Decides.{nat_tests}
use Rattle.go_ast.specs.declared.word.Word.{Word}
use Rattle.go_ast.specs.Cutting.{is_run}
use Rattle.type_parser.specs.Matching.{plain}
use Rattle.type_parser.specs.Reading.{may_be_length}
use Rattle.type_parser.proofs.WordMatching.{plain-length}
use Rattle.type_parser.proofs.words.Words.may_be_length.Goals as goal

run-is : (ws : List Word) → 0 < length ws → is_run ws ≡ may_be_length ws
unfolding may_be_length
run-is [] some = absurd (omega (arith, some))
run-is (w ∷ ws) some = refl

pub returns-else-is_empty : goal.returns-else-is_empty
returns-else-is_empty c =
    let items = c.self.inside.items.now in
    let some : 0 < length items = grind (arith, nat_tests, c.is_empty.ensures, c.if-is_empty.false)
    in
    let is = run-is (plain items) (omega (arith, some, plain-length items))
    ∙ ap may_be_length c.self.view_is in
    subst (λ b. IfOk c.is_run.result (λ may. may ≡ b)) is c.is_run.ensures
