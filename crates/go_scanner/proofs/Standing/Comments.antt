-- Where a line comment begins, the program and the definition find the same comment.
use Rattle.std.proofs.Common.{◌≡◌, ℕ, zero, suc, ◌+◌, ◌-◌, ◌<◌, Bool, true, false, ◌&&◌, not, cond}
use Rattle.std.proofs.Common.{List, [], ◌∷◌, ◌++◌, length, take, drop, get_or, slice_index, nat_lt}
use Rattle.std.proofs.Common.{◌==◌, All, sym, ap, ap₂, ◌∙◌, subst, refl, inl, inr, arith}
use Rattle.std.proofs.Common.{length-append, append-nil}
use Rattle.std.specs.List.{list_all, prefix_len}
use Rattle.std.proofs.lemmas.Bool.{and_parts, and_from, and_left, and_right, lt-ltb, le-ltb}
use Rattle.std.proofs.lemmas.Bool.{ltb-true, eq-eqb, eqb-true, ne_eqb, not-false, cases_Bool}
use Rattle.std.proofs.lemmas.Bool.{cases_lt, both_ways, false≢true}
use Rattle.std.proofs.lemmas.List.{get_or_at, get_or_append_left, get_or-take, get_or_push}
use Rattle.std.proofs.lemmas.List.{take_all, take-take, take_more, drop_more, drop_all}
use Rattle.std.proofs.lemmas.List.{length-take-le}
use Rattle.std.proofs.lemmas.List.Elements.{All-take}
use Rattle.std.proofs.lemmas.List.Sums.{prefix_len-le-length, prefix_len_stops}
use Rattle.std.proofs.lemmas.List.Sums.{AllPass-from_list_all, list_all-from_AllPass}
use Rattle.go_ast.specs.Characters.{newline, carriage_return}
use Rattle.go_ast.specs.Lexical.{IsLineComment, EndsComment}
use Rattle.go_scanner.specs.Shapes.{comment_length}
use Rattle.go_literals.proofs.Lists.{split_at, prefix_len_past, prefix_len_until}
use Rattle.go_literals.proofs.Lists.{prefix_len_whole, list_all-take_prefix_len}

abbrev slash : ℕ
slash = 47

abbrev in_line : ℕ → Bool
in_line b = not (b == newline)

abbrev get_or_zero : List ℕ → ℕ → ℕ
get_or_zero bytes n = get_or bytes n 0

-- a carriage return stands before the end of a line of n bytes
abbrev has_return : List ℕ → ℕ → Bool
has_return bytes n = nat_lt n (length bytes) && slice_index bytes (n - 1) == carriage_return

comment_length-line : (bytes : List ℕ) (n : ℕ) (t : Bool) → prefix_len in_line bytes ≡ n
    → has_return bytes n ≡ t → comment_length bytes ≡ cond t (n - 1) n
comment_length-line bytes n t line test = rw (line, test) refl

-- a comment with no carriage return at its end has none before the newline
no_return : (content more : List ℕ)
    → ((front : List ℕ) → content ≡ front ++ carriage_return ∷ [] → ⊥)
    → get_or (slash ∷ slash ∷ content ++ more) (suc (length content)) 0 ≡ carriage_return → ⊥
no_return [] more ends e = omega arith
no_return (c ∷ cs) more ends e =
    let content = c ∷ cs in
    let last : get_or content (length cs) 0 ≡ carriage_return =
    sym (get_or_append_left content more 0 (length cs) (omega arith)) ∙ e in
    let split : content ≡ take (length cs) content ++ get_or content (length cs) 0 ∷ [] =
    sym (take_all (length cs + 1) content (omega arith))
    ∙ take_more content (length cs) 0 (omega arith) in
    ends (take (length cs) content) (split ∙ ap (λ x. take (length cs) content ++ x ∷ []) last)

module _ (content : List ℕ) (one_line : list_all in_line content ≡ true) where
  -- a comment that the source ends
  ended : comment_length (slash ∷ slash ∷ content) ≡ length content + 2
  ended =
      let bytes = slash ∷ slash ∷ content in
      let test : has_return bytes (length bytes) ≡ false =
      and_left (nat_lt (length bytes) (length bytes)) _
      (le-ltb (length bytes) (length bytes) (omega arith)) in
      comment_length-line bytes (length bytes) false (prefix_len_whole in_line bytes one_line) test
      ∙ omega arith

  -- a comment before a newline
  before_newline : (rest : List ℕ)
      → ((front : List ℕ) → content ≡ front ++ carriage_return ∷ [] → ⊥)
      → comment_length (slash ∷ slash ∷ content ++ newline ∷ rest) ≡ length content + 2
  before_newline rest ends =
      let comment = slash ∷ slash ∷ content in
      let bytes = comment ++ newline ∷ rest in
      let n = length comment in
      let place : n - 1 ≡ suc (length content) = omega arith in
      let other : slice_index bytes (n - 1) ≡ carriage_return → ⊥ =
      λ e. no_return content (newline ∷ rest) ends (ap (get_or_zero bytes) (sym place) ∙ e) in
      let test : has_return bytes n ≡ false =
      and_right (nat_lt n (length bytes)) (slice_index bytes (n - 1) == carriage_return)
      (ne_eqb (slice_index bytes (n - 1)) carriage_return other) in
      comment_length-line bytes n false
      (prefix_len_until in_line comment newline rest one_line refl) test ∙ omega arith

  -- a comment before a carriage return and a newline
  before_return : (rest : List ℕ)
      → comment_length (slash ∷ slash ∷ content ++ carriage_return ∷ newline ∷ rest)
      ≡ length content + 2
  before_return rest =
      let comment = slash ∷ slash ∷ content in
      let bytes = comment ++ carriage_return ∷ newline ∷ rest in
      let n = length comment + 1 in
      let within : n < length bytes =
      omega (arith, length-append comment (carriage_return ∷ newline ∷ rest)) in
      let here : slice_index bytes (n - 1) ≡ carriage_return =
      get_or_at comment carriage_return (newline ∷ rest) 0 (n - 1) (omega arith) in
      let test : has_return bytes n ≡ true =
      and_from (nat_lt n (length bytes)) (slice_index bytes (n - 1) == carriage_return)
      (lt-ltb n (length bytes) within)
      (eq-eqb (slice_index bytes (n - 1)) carriage_return here) in
      comment_length-line bytes n true
      (prefix_len_past in_line comment (carriage_return ∷ newline ∷ rest) one_line) test
      ∙ omega arith

  end_found : (after : List ℕ) → EndsComment content after
      → comment_length (slash ∷ slash ∷ content ++ after) ≡ length content + 2
  end_found [] h = ap (λ x. comment_length (slash ∷ slash ∷ x)) (append-nil content) ∙ ended
  end_found (b ∷ rest) h = elim h [
    | inl e ↦ ap (λ x. comment_length (slash ∷ slash ∷ content ++ x ∷ rest)) e.0
        ∙ before_newline rest (λ front split. absurd (false≢true (e.1 front split)))
    | inr e ↦ ap₂ (λ x xs. comment_length (slash ∷ slash ∷ content ++ x ∷ xs)) e.0 e.1.1
        ∙ before_return e.1.0
  ]

pub comment_found : (content after : List ℕ) → IsLineComment content after
    → comment_length (slash ∷ slash ∷ content ++ after) ≡ length content + 2
comment_found content after h =
    end_found content (list_all-from_AllPass in_line content h.one_line) after h.end

-- a line comment stands at the front
pub record CommentAt (bytes : List ℕ) : Type 0 where
  pub content : List ℕ
  pub after : List ℕ
  pub split : bytes ≡ slash ∷ slash ∷ content ++ after
  pub is : IsLineComment content after
  pub long : length content + 2 ≡ comment_length bytes

-- the line that a newline ends ends before it
newline_at : (tail : List ℕ) (n : ℕ) → prefix_len in_line tail ≡ n → n < length tail
    → get_or tail n 0 ≡ newline
newline_at tail n line within =
    let stops : in_line (get_or tail (prefix_len in_line tail) 0) ≡ false =
    prefix_len_stops in_line tail 0 (omega arith) in
    ap (get_or_zero tail) (sym line)
    ∙ eqb-true (get_or tail (prefix_len in_line tail) 0) newline (not-false _ stops)

one_line_taken : (tail : List ℕ) (n : ℕ) → prefix_len in_line tail ≡ n
    → All (λ b. in_line b ≡ true) (take n tail)
one_line_taken tail n line =
    AllPass-from_list_all in_line (take n tail)
    (subst (λ k. list_all in_line (take k tail) ≡ true) line
    (list_all-take_prefix_len in_line tail))

-- where a carriage return ends the line
return_stands : (tail : List ℕ) (n : ℕ) → prefix_len in_line tail ≡ n → n < length tail
    → get_or (slash ∷ slash ∷ tail) (suc n) 0 ≡ carriage_return
    → comment_length (slash ∷ slash ∷ tail) ≡ n + 1 → CommentAt (slash ∷ slash ∷ tail)
return_stands tail zero line within e long = absurd (omega arith)
return_stands tail (suc k) line within e long =
    let rest = drop (k + 1 + 1) tail in
    let last : get_or tail (k + 1) 0 ≡ newline = ap (get_or_zero tail) (omega arith)
    ∙ newline_at tail (suc k) line within in
    let after : drop k tail ≡ carriage_return ∷ newline ∷ rest =
    drop_more tail k 0 (omega arith)
    ∙ ap₂ (λ x xs. x ∷ xs) e
    (drop_more tail (k + 1) 0 (omega arith) ∙ ap (λ x. x ∷ rest) last) in
    record {
      content = take k tail;
      after = drop k tail;
      split = ap (λ x. slash ∷ slash ∷ x) (split_at k tail);
      is = record {
        one_line =
            subst (All (λ b. in_line b ≡ true)) (take-take k (suc k) tail (omega arith))
            (All-take (λ b. in_line b ≡ true) k (take (suc k) tail)
            (one_line_taken tail (suc k) line));
        end = subst (EndsComment (take k tail)) (sym after) (inr (refl, (rest, refl)));
      };
      long = omega (arith, length-take-le k tail (omega arith));
    }

return_before : (tail : List ℕ) (n : ℕ) → n < length tail → (front : List ℕ)
    → take n tail ≡ front ++ carriage_return ∷ []
    → get_or (slash ∷ slash ∷ tail) (suc n) 0 ≡ carriage_return
return_before tail n within front split =
    let bytes = slash ∷ slash ∷ tail in
    let long : n ≡ length front + 1 =
    omega (
      arith,
      length-take-le n tail (omega arith),
      ap length split,
      length-append front (carriage_return ∷ []),
    ) in
    let place : suc n ≡ suc (suc (length front)) = omega arith in
    ap (get_or_zero bytes) place
    ∙ sym (get_or-take n tail (length front) 0 (omega arith))
    ∙ ap (λ x. get_or x (length front) 0) split
    ∙ get_or_push front carriage_return 0 (length front) refl

-- where none does
line_stands : (tail : List ℕ) (n : ℕ) → prefix_len in_line tail ≡ n
    → (n < length tail → get_or (slash ∷ slash ∷ tail) (suc n) 0 ≡ carriage_return → ⊥)
    → comment_length (slash ∷ slash ∷ tail) ≡ n + 2 → CommentAt (slash ∷ slash ∷ tail)
line_stands tail n line ends long = record {
  content = take n tail;
  after = drop n tail;
  split = ap (λ x. slash ∷ slash ∷ x) (split_at n tail);
  is = record {
    one_line = one_line_taken tail n line;
    end = elim (cases_lt n (length tail)) [
      | inl within ↦
          let after : drop n tail ≡ newline ∷ drop (n + 1) tail = drop_more tail n 0 within
          ∙ ap (λ x. x ∷ drop (n + 1) tail) (newline_at tail n line within) in
          subst (EndsComment (take n tail)) (sym after)
          (inl (
            refl,
            λ front split. absurd (ends within (return_before tail n within front split)),
          ))
      | inr past ↦ subst (EndsComment (take n tail)) (sym (drop_all n tail past)) tt
    ];
  };
  long = omega (arith, length-take-le n tail (omega (arith, prefix_len-le-length in_line tail)));
}

pub comment_stands : (tail : List ℕ) → CommentAt (slash ∷ slash ∷ tail)
comment_stands tail =
    let bytes = slash ∷ slash ∷ tail in
    let n = prefix_len in_line tail in
    let m = 1 + (1 + n) in
    let place : m - 1 ≡ suc n = omega arith in
    elim (cases_Bool (has_return bytes m)) [
      | inl test ↦
          let parts =
          and_parts (nat_lt m (length bytes)) (slice_index bytes (m - 1) == carriage_return)
          test in
          let within : m < length bytes = ltb-true m (length bytes) parts.0 in
          let last : get_or bytes (m - 1) 0 ≡ carriage_return =
          eqb-true (slice_index bytes (m - 1)) carriage_return parts.1 in
          return_stands tail n refl (omega arith) (ap (get_or_zero bytes) (sym place) ∙ last)
          (comment_length-line bytes m true refl test ∙ omega arith)
      | inr test ↦
          let none = λ (within : n < length tail) (e : get_or bytes (suc n) 0 ≡ carriage_return).
          both_ways (has_return bytes m) test
          (and_from (nat_lt m (length bytes)) (slice_index bytes (m - 1) == carriage_return)
          (lt-ltb m (length bytes) (omega arith))
          (eq-eqb (slice_index bytes (m - 1)) carriage_return
          (ap (get_or_zero bytes) place ∙ e))) in
          line_stands tail n refl none (comment_length-line bytes m false refl test ∙ omega arith)
    ]
