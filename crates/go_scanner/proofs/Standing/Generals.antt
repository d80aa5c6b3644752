-- Where a general comment begins, the program and the definition find the same comment.
use Rattle.std.proofs.Common.{◌≡◌, ℕ, zero, suc, ◌+◌, true, false, List, [], ◌∷◌, ◌++◌, length}
use Rattle.std.proofs.Common.{take, drop, Option, Some, None, option_map, nat_eq, sym, ap, ◌∙◌}
use Rattle.std.proofs.Common.{subst, refl, inl, inr, arith}
use Rattle.std.proofs.lemmas.Bool.{cases_Bool, or_parts, and_right}
use Rattle.std.proofs.lemmas.Bool.Decides.{Decides-eqb}
use Rattle.std.proofs.lemmas.Slice.Eq.{starts_is}
use Rattle.std.proofs.lemmas.List.{take_at}
use Rattle.go_ast.specs.Lexical.{has_comment_end}
use Rattle.go_ast.specs.Reading.{has_newline}
use Rattle.go_scanner.specs.declared.shape.Shape.{Shape}
use Rattle.go_scanner.specs.declared.shape.Shape.TheVariants.{General}
use Rattle.go_scanner.specs.Shapes.{general_of, general_shape}
use Rattle.go_scanner.specs.TextBytes.{comment_end}
use Rattle.go_scanner.proofs.Closings.{is_end, comment_end-here, comment_end-later, map_cases}

abbrev closing : List ℕ
closing = 42 ∷ 47 ∷ []

-- no end begins in the content and the byte before the end
no_end : (b : ℕ) (content after : List ℕ) → is_end (b ∷ content) ≡ false
    → is_end (b ∷ content ++ 42 ∷ 47 ∷ after) ≡ false
no_end b [] after h = and_right (nat_eq 42 b) _ refl
no_end b (c ∷ content) after h = h

pub general_complete : (content after : List ℕ) → has_comment_end content ≡ false
    → comment_end (content ++ 42 ∷ 47 ∷ after) ≡ Some (length content)
general_complete [] after h = comment_end-here 42 (47 ∷ after) refl
general_complete (b ∷ content) after h =
    let parts = or_parts (is_end (b ∷ content)) (has_comment_end content) h in
    let place : length content + 1 ≡ suc (length content) = omega arith in
    comment_end-later b (content ++ 42 ∷ 47 ∷ after) (no_end b content after parts.0)
    ∙ ap (option_map (λ n. n + 1)) (general_complete content after parts.1) ∙ ap Some place

end_split : (bytes : List ℕ) → is_end bytes ≡ true → bytes ≡ closing ++ drop 2 bytes
end_split bytes h = (starts_is Decides-eqb bytes closing (is_end bytes) refl).0 h

-- no end begins at the front where none does in more
front_no_end : (b : ℕ) (bytes : List ℕ) (n : ℕ) → is_end (b ∷ bytes) ≡ false
    → is_end (b ∷ take n bytes) ≡ false
front_no_end b bytes zero h = and_right (nat_eq 42 b) false refl
front_no_end b [] (suc n) h = h
front_no_end b (c ∷ bytes) (suc n) h = h

-- the content of a comment that ends
pub record GeneralAt (bytes : List ℕ) (n : ℕ) : Type 0 where
  pub split : bytes ≡ take n bytes ++ closing ++ drop (n + 2) bytes
  pub none : has_comment_end (take n bytes) ≡ false
  pub size : length (take n bytes) ≡ n

pub general_sound : (bytes : List ℕ) (n : ℕ) → comment_end bytes ≡ Some n → GeneralAt bytes n
general_sound [] n e = let none : comment_end [] ≡ None = unfold comment_end in refl in cc
general_sound (b ∷ bytes) n e = elim (cases_Bool (is_end (b ∷ bytes))) [
  | inl here ↦
      let found = comment_end-here b bytes here in
      let first : n ≡ 0 = cc in
      subst (GeneralAt (b ∷ bytes)) (sym first)
      (record { split = end_split (b ∷ bytes) here; none = refl; size = refl })
  | inr later ↦
      let found = map_cases (comment_end bytes) n (sym (comment_end-later b bytes later) ∙ e) in
      let m = found.0 in
      let more = general_sound bytes m found.1 in
      let place : n ≡ suc m = omega (arith, found.2) in
      let past : suc m + 2 ≡ suc (m + 2) = omega arith in
      subst (GeneralAt (b ∷ bytes)) (sym place) (record {
        split = rw past (ap (λ l. b ∷ l) more.split);
        none = rw (front_no_end b bytes m later) more.none;
        size = ap suc more.size;
      })
]

shape_of-end : (bytes : List ℕ) (n : ℕ) → comment_end bytes ≡ Some n
    → general_shape bytes ≡ Some (general_of bytes n)
unfolding general_shape
shape_of-end bytes n h = rw h refl

pub general_found : (content after : List ℕ) → has_comment_end content ≡ false
    → general_shape (content ++ 42 ∷ 47 ∷ after)
    ≡ Some (General (length content + 4) (has_newline content))
general_found content after h =
    shape_of-end (content ++ 42 ∷ 47 ∷ after) (length content) (general_complete content after h)
    ∙ ap (λ l. Some (General (length content + 4) (has_newline l)))
    (take_at content (42 ∷ 47 ∷ after) (length content) refl)

end_cases : (bytes : List ℕ) (found : Option ℕ) (shape : Shape)
    → option_map (general_of bytes) found ≡ Some shape → (n : ℕ) × (found ≡ Some n)
    × (general_of bytes n ≡ shape)
end_cases bytes None shape h = cc
end_cases bytes (Some n) shape h = (n, refl, cc)

pub general_cases : (bytes : List ℕ) (shape : Shape) → general_shape bytes ≡ Some shape
    → (n : ℕ) × (comment_end bytes ≡ Some n) × (general_of bytes n ≡ shape)
unfolding general_shape
general_cases bytes shape h = end_cases bytes (comment_end bytes) shape h

map_none : (found : Option ℕ) → option_map (λ n. n + 1) found ≡ None → found ≡ None
map_none None h = refl
map_none (Some n) h = cc

-- where no end is found there is none
none_later : (bytes : List ℕ) → option_map (λ n. n + 1) (comment_end bytes) ≡ None
    → comment_end bytes ≡ None
none_later bytes h = map_none (comment_end bytes) h

pub no_end_found : (bytes : List ℕ) → comment_end bytes ≡ None → has_comment_end bytes ≡ false
no_end_found [] h = refl
no_end_found (b ∷ bytes) h = elim (cases_Bool (is_end (b ∷ bytes))) [
  | inl here ↦ let found = comment_end-here b bytes here in cc
  | inr later ↦
      rw later (no_end_found bytes (none_later bytes (sym (comment_end-later b bytes later) ∙ h)))
]

map_general_none : (bytes : List ℕ) (found : Option ℕ) → option_map (general_of bytes) found ≡ None
    → found ≡ None
map_general_none bytes None h = refl
map_general_none bytes (Some n) h = cc

pub general_none : (bytes : List ℕ) → general_shape bytes ≡ None → has_comment_end bytes ≡ false
unfolding general_shape
general_none bytes h = no_end_found bytes (map_general_none bytes (comment_end bytes) h)
