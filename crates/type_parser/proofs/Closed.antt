-- Brackets, as they are read and as they are spelled.
use Rattle.std.proofs.Common.{◌≡◌, ◌∙◌, ap, sym, refl, subst, true, List, [], ◌∷◌}
use Rattle.std.proofs.Common.{◌++◌, drop, Some}
use Rattle.go_ast.specs.declared.word.Word.{Word}
use Rattle.go_ast.specs.declared.word.Mark.{Mark}
use Rattle.go_ast.specs.Cutting.{Encloses, encloses}
use Rattle.go_ast.specs.Marks.{closes}
use Rattle.type_parser.specs.Cut.{enclosed}
use Rattle.type_parser.specs.Reading.{only, alone}
use Rattle.type_parser.proofs.Closing.{enclosed-is, is-enclosed}
use Rattle.type_parser.proofs.Options.{bind_some, only_some}

-- brackets, as they are read
pub enclosed-sound : (opening close : Mark) (o : Word) (ws inner rest : List Word)
    → o.mark ≡ opening → enclosed close ws ≡ Some (inner, rest)
    → Encloses opening close (o ∷ ws) inner rest
enclosed-sound opening close o ws inner rest is e =
    let found = is-enclosed close ws inner rest e in
    subst (λ us. Encloses opening close (o ∷ us) inner rest) (sym found.3)
    (encloses o found.0 inner rest is found.1 found.2)

pub alone-sound : (opening close : Mark) (o : Word) (ws inner : List Word) → o.mark ≡ opening
    → alone close ws ≡ Some inner
    → Encloses opening close (o ∷ ws) inner []
unfolding alone
alone-sound opening close o ws inner is e =
    let found = bind_some (enclosed close ws) only inner e in
    let last = only_some found.0 inner found.2 in
    enclosed-sound opening close o ws inner [] is (found.1 ∙ ap Some last)

-- the words that are enclosed begin with the opening bracket, and are read
pub opens-with : (opening close : Mark) (ws inner rest : List Word) → closes close ≡ true
    → Encloses opening close ws inner rest
    → (o : Word) × (us : List Word) × (ws ≡ o ∷ us) × (o.mark ≡ opening)
    × (enclosed close us ≡ Some (inner, rest))
opens-with opening close _ _ _ closed (encloses o c inner rest is ended nests) =
    (o, inner ++ c ∷ rest, refl, is, enclosed-is close inner c rest closed ended nests)

pub alone-complete : (close : Mark) (us inner : List Word) → enclosed close us ≡ Some (inner, [])
    → alone close us ≡ Some inner
unfolding alone
alone-complete close us inner e = rw e refl

-- the words that are enclosed are read
pub enclosed-complete : (opening close : Mark) (o : Word) (ws inner rest : List Word)
    → closes close ≡ true → Encloses opening close (o ∷ ws) inner rest
    → enclosed close ws ≡ Some (inner, rest)
enclosed-complete opening close o ws inner rest closed s =
    let begun = opens-with opening close (o ∷ ws) inner rest closed s in
    let same : ws ≡ begun.1 = ap (drop 1) begun.2 in
    ap (enclosed close) same ∙ begun.4
