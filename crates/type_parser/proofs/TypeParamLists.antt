-- Entries of type parameters, read from the last to the first.
use Rattle.std.proofs.Common.{◌≡◌, ◌∙◌, ap, sym, refl, subst, ℕ, suc, ◌-◌, ◌<◌, List, [], ◌∷◌}
use Rattle.std.proofs.Common.{◌++◌, reverse, length, take, drop, get_or, slice_get, Option, Some}
use Rattle.std.proofs.Common.{None}
use Rattle.std.proofs.Common.{arith, take-append-drop}
use Rattle.std.proofs.lemmas.Option.{slice_get-get_or}
use Rattle.go_ast.specs.declared.declaration.TypeParam.{TypeParam}
use Rattle.go_ast.specs.declared.tree.TypeExpr.{TypeExpr}
use Rattle.go_ast.specs.declared.word.Word.{Word}
use Rattle.type_parser.specs.TypeParams.{entries, entry}
use Rattle.type_parser.proofs.Cuts.{reverse-front}
use Rattle.type_parser.proofs.EntryLists.{from-place, length-reverse}

-- the last value is the first of the others way round
pub last-first : {A : Type 0} (xs : List A) → slice_get xs (length xs - 1)
    ≡ slice_get (reverse xs) 0
last-first [] = refl
last-first (x ∷ xs) =
    let count = length-reverse (x ∷ xs) in
    slice_get-get_or (x ∷ xs) (length (x ∷ xs) - 1) x (omega arith)
    ∙ ap Some (reverse-front (x ∷ xs) x)
    ∙ sym (slice_get-get_or (reverse (x ∷ xs)) 0 x (omega (arith, count)))

module _ (f : List Word → Option TypeExpr) where
  none-spreads : (front es : List (List Word)) → entries f es ≡ None → entries f (front ++ es)
      ≡ None
  none-spreads [] es h = h
  none-spreads (d ∷ front) es h = rw (none-spreads front es h) refl

  module _ (es : List (List Word)) (at : ℕ) (d : List Word) (ps : List TypeParam)
      (within : at < length es) (so_far : entries f (drop (suc at) es) ≡ Some ps) where
    -- one entry more
    pub entry-adds : (p : TypeParam) → entry f (get_or es at d) (slice_get ps 0) ≡ Some p
        → entries f (drop at es) ≡ Some (p ∷ ps)
    entry-adds p e = rw (from-place es at d within, so_far, e) refl

    -- an entry that gives nothing
    pub entry-stops : entry f (get_or es at d) (slice_get ps 0) ≡ None → entries f es ≡ None
    entry-stops e =
        let here : entries f (drop at es) ≡ None = rw (from-place es at d within, so_far, e) refl in
        subst (λ us. entries f us ≡ None) (take-append-drop at es)
        (none-spreads (take at es) (drop at es) here)
