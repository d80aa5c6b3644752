-- Entries of parameters, read from the last to the first.
use Rattle.std.proofs.Common.{◌≡◌, ◌∙◌, ap, sym, refl, subst, ℕ, zero, suc, ◌-◌, ◌<◌, Bool, true}
use Rattle.std.proofs.Common.{false, cond, if◌then◌else◌, List, [], ◌∷◌, ◌++◌, reverse, length}
use Rattle.std.proofs.Common.{take, drop, get_or, Option, Some, None, arith, take-append-drop}
use Rattle.std.specs.List.{list_any}
use Rattle.std.proofs.lemmas.Grind.{common_steps}
use Rattle.go_ast.specs.declared.tree.TypeExpr.{TypeExpr}
use Rattle.go_ast.specs.declared.tree.Param.{Param}
use Rattle.go_ast.specs.declared.word.Word.{Word}
use Rattle.go_ast.specs.declared.word.Mark.TheVariants as m
use Rattle.go_ast.specs.Marks.{same_mark}
use Rattle.type_parser.specs.Reading.{with_names, without_names, named_entry, entries}
use Rattle.type_parser.specs.Reading.{looks_named}
use Rattle.type_parser.specs.Entries.{from_last, last_entry, entry_before}

cond-none : {A : Type 0} (b : Bool) → cond {A = Option A} b None None ≡ None
cond-none true = refl
cond-none false = refl

-- the entries from a place on
pub from-place : {A : Type 0} (es : List A) (at : ℕ) (d : A) → at < length es
    → drop at es ≡ get_or es at d ∷ drop (suc at) es
from-place [] at d h = absurd (omega arith)
from-place (e ∷ es) zero d h = refl
from-place (e ∷ es) (suc at) d h = from-place es at d (omega arith)

pub length-drop-some : {A : Type 0} (es : List A) (at : ℕ) → at < length es
    → 0 < length (drop at es)
length-drop-some [] at h = absurd (omega arith)
length-drop-some (e ∷ es) zero h = omega arith
length-drop-some (e ∷ es) (suc at) h = length-drop-some es at (omega arith)

module _ (f : List Word → Option TypeExpr) (named dots : Bool) where
  -- where the later entries give nothing, all give nothing
  pub none-spreads : (front : List (List Word)) (e : List Word) (es : List (List Word))
      → from_last f named dots (e ∷ es) ≡ None
      → from_last f named dots (front ++ e ∷ es) ≡ None
  none-spreads [] e es h = h
  none-spreads (d ∷ []) e es h = rw h refl
  none-spreads (d ∷ c ∷ front) e es h = rw (none-spreads (c ∷ front) e es h) refl

  -- one entry more
  pub one-more : (e : List Word) (es : List (List Word)) (ps : List Param) → 0 < length es
      → from_last f named dots es ≡ Some ps
      → from_last f named dots (e ∷ es) ≡ entry_before f named e ps
  one-more e [] ps some h = absurd (omega arith)
  one-more e (d ∷ es) ps some h = rw h refl

  module _ (es : List (List Word)) where
    pub last-none : (d : List Word) → 0 < length es
        → last_entry f named dots (get_or es (length es - 1) d) ≡ None
        → from_last f named dots es ≡ None
    last-none d some none =
        let e : suc (length es - 1) ≡ length es = omega (arith, some) in
        let at = from-place es (length es - 1) d (omega (arith, some)) in
        let over : drop (suc (length es - 1)) es ≡ [] = rw e (drop-all es) in
        let here : from_last f named dots (get_or es (length es - 1) d ∷ []) ≡ None = none in
        let there = none-spreads (take (length es - 1) es) (get_or es (length es - 1) d) [] here in
        subst (λ us. from_last f named dots us ≡ None)
        (ap (λ us. take (length es - 1) es ++ us)
        (sym (at ∙ ap (λ us. get_or es (length es - 1) d ∷ us) over))
        ∙ take-append-drop (length es - 1) es) there
      where
        drop-all : {A : Type 0} (us : List A) → drop (length us) us ≡ []
        drop-all [] = refl
        drop-all (u ∷ us) = drop-all us

    pub entry-adds : (at : ℕ) (d : List Word) (ps : List Param) (o : Option (List Param))
        → suc at < length es
        → from_last f named dots (drop (suc at) es) ≡ Some ps
        → o ≡ entry_before f named (get_or es at d) ps → from_last f named dots (drop at es) ≡ o
    entry-adds at d ps o h so_far e =
        rw (from-place es at d (omega (arith, h)))
        (one-more (get_or es at d) (drop (suc at) es) ps (length-drop-some es (suc at) h) so_far
        ∙ sym e)

    -- an entry before those read gives nothing
    pub entry-stops : (at : ℕ) (d : List Word) (ps : List Param) (o : Option (List Param))
        → suc at < length es
        → from_last f named dots (drop (suc at) es) ≡ Some ps
        → o ≡ entry_before f named (get_or es at d) ps → o ≡ None → from_last f named dots es ≡ None
    entry-stops at d ps o h so_far e none =
        let here = entry-adds at d ps o h so_far e ∙ none in
        let there = none-spreads (take at es) (get_or es at d) (drop (suc at) es)
        (rw (from-place es at d (omega (arith, h))) at here) in
        subst (λ us. from_last f named dots us ≡ None)
        (ap (λ us. take at es ++ us) (sym (from-place es at d (omega (arith, h))))
        ∙ take-append-drop at es) there

pub length-reverse : {A : Type 0} (xs : List A) → length (reverse xs) ≡ length xs
length-reverse xs = grind (arith, common_steps)

-- both ways of reading entries
module _ (f : List Word → Option TypeExpr) (dots : Bool) where
  entry-none : (e : List Word) → named_entry f dots e None ≡ None
  unfolding named_entry
  entry-none [] = refl
  entry-none (name ∷ ws) = cond-none (same_mark name.mark m.Ident)

  same-entry : (e : List Word) (ps : Option (List Param))
      → named_entry f true e ps ≡ named_entry f dots e ps
  unfolding named_entry
  same-entry [] ps = refl
  same-entry (name ∷ ws) ps = refl

  from-last-named : (e : List Word) (es : List (List Word))
      → from_last f true dots (e ∷ es) ≡ with_names f dots (e ∷ es)
  from-last-named e [] = refl
  from-last-named e (d ∷ es) = go (with_names f dots (d ∷ es)) refl (from-last-named d es)
    where
      go : (o : Option (List Param)) → with_names f dots (d ∷ es) ≡ o
          → from_last f true dots (d ∷ es) ≡ with_names f dots (d ∷ es)
          → from_last f true dots (e ∷ d ∷ es) ≡ with_names f dots (e ∷ d ∷ es)
      go None h ih = rw (ih, h) (sym (entry-none e))
      go (Some ps) h ih = rw (ih, h) (same-entry e (Some ps))

  from-last-unnamed : (es : List (List Word)) → from_last f false dots es ≡ without_names f dots es
  from-last-unnamed [] = refl
  from-last-unnamed (e ∷ []) = refl
  from-last-unnamed (e ∷ d ∷ es) = rw (from-last-unnamed (d ∷ es)) refl

  pub from-last-is : (es : List (List Word))
      → from_last f (list_any looks_named es) dots es ≡ entries f dots es
  from-last-is es = go es (list_any looks_named es) refl
    where
      go : (us : List (List Word)) (b : Bool) → list_any looks_named us ≡ b
          → from_last f b dots us ≡ (if b then with_names f dots us else without_names f dots us)
      go us false h = from-last-unnamed us
      go [] true h = absurd (cc)
      go (u ∷ us) true h = from-last-named u us
