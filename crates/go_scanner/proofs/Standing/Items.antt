-- What the program finds at the front of some bytes stands there, and what stands there the program
-- finds.
use Rattle.std.proofs.Common.{◌≡◌, ℕ, ◌+◌, ◌<◌, Bool, true, false, ◌&&◌, ◌||◌, List, [], ◌∷◌, ◌++◌}
use Rattle.std.proofs.Common.{length, take, drop, ◌==◌, nat_eq, codes, Some, None, IsUtf8, sym, ap}
use Rattle.std.proofs.Common.{◌∙◌, subst, refl, inl, inr, arith, append_assoc, length-append}
use Rattle.std.specs.List.{starts_with}
use Rattle.std.proofs.lemmas.Bool.{and_parts, and_left, and_right, or_parts, or_from, or_right}
use Rattle.std.proofs.lemmas.Bool.{cases_Bool, eqb-true, eq-eqb, ne_eqb}
use Rattle.std.proofs.lemmas.Bool.Decides.{Decides-eqb}
use Rattle.std.proofs.lemmas.Slice.Eq.{starts_is}
use Rattle.go_ast.specs.Characters.{is_white_space, newline, space, tab, carriage_return}
use Rattle.go_ast.specs.Characters.{byte_order_mark_bytes}
use Rattle.go_ast.specs.Lexical.{Spelling, Item, white_space, byte_order_mark, line_comment}
use Rattle.go_ast.specs.Lexical.{general_comment, spelled, print_item, print_spelling, Stands}
use Rattle.go_ast.specs.Lexical.{IsSpelled, IsLineComment, begins_comment, has_comment_end}
use Rattle.go_ast.specs.Reading.{has_newline}
use Rattle.go_scanner.specs.declared.shape.Shape.{Shape}
use Rattle.go_scanner.specs.declared.shape.Shape.TheVariants.{Blank, Comment, General}
use Rattle.go_scanner.specs.Shapes.{shape_of, item_shape, shape_at, spelling_shape, general_shape}
use Rattle.go_scanner.specs.Shapes.{length_of, comment_length}
use Rattle.go_literals.proofs.Lists.{by_if, same_rests}
use Rattle.go_scanner.proofs.Standing.FirstBytes.{first_byte}
use Rattle.go_scanner.proofs.Standing.Fronts.{SpelledAt, SpelledAt-IsSpelled, IsSpelled-SpelledAt}
use Rattle.go_scanner.proofs.Standing.Comments.{comment_found, comment_stands}
use Rattle.go_scanner.proofs.Standing.Generals.{general_found, general_cases, general_sound}
use Rattle.go_scanner.proofs.Standing.Spellings.{spelling_found, spelling_stands}

-- an item of this shape stands at the front of the bytes
pub record StandsAs (offset : ℕ) (bytes : List ℕ) (shape : Shape) : Type 0 where
  pub item : Item
  pub after : List ℕ
  pub split : bytes ≡ print_item item ++ after
  pub stands : Stands offset item after
  pub same : shape_of item ≡ shape

pub begins_split : (bytes front : List ℕ) → starts_with nat_eq bytes front ≡ true
    → bytes ≡ front ++ drop (length front) bytes
begins_split bytes front h =
    (starts_is Decides-eqb bytes front (starts_with nat_eq bytes front) refl).0 h

module _ (offset b : ℕ) (rest : List ℕ) (shape : Shape) where
  white_space_stands : is_white_space b ≡ true → shape_of (white_space b) ≡ shape
      → StandsAs offset (b ∷ rest) shape
  white_space_stands white same =
      record { item = white_space b; after = rest; split = refl; stands = white; same = same }

  line_comment_stands : starts_with nat_eq (b ∷ rest) (codes "//") ≡ true
      → Comment (comment_length (b ∷ rest)) ≡ shape → StandsAs offset (b ∷ rest) shape
  line_comment_stands test same =
      let bytes : b ∷ rest ≡ codes "//" ++ drop 2 (b ∷ rest) =
      begins_split (b ∷ rest) (codes "//") test in
      let comment = comment_stands (drop 2 (b ∷ rest)) in
      record {
        item = line_comment comment.content;
        after = comment.after;
        split = bytes ∙ comment.split;
        stands = comment.is;
        same = ap Comment comment.long ∙ ap (λ x. Comment (comment_length x)) (sym bytes) ∙ same;
      }

  general_comment_stands : starts_with nat_eq (b ∷ rest) (codes "/*") ≡ true
      → general_shape (drop 2 (b ∷ rest)) ≡ Some shape → StandsAs offset (b ∷ rest) shape
  general_comment_stands test found =
      let bytes : b ∷ rest ≡ codes "/*" ++ drop 2 (b ∷ rest) =
      begins_split (b ∷ rest) (codes "/*") test in
      let tail = drop 2 (b ∷ rest) in
      let end = general_cases tail shape found in
      let n = end.0 in
      let comment = general_sound tail n end.1 in
      record {
        item = general_comment (take n tail);
        after = drop (n + 2) tail;
        split = bytes ∙ ap (λ l. codes "/*" ++ l) comment.split;
        stands = comment.none;
        same = ap (λ k. General (k + 4) (has_newline (take n tail))) comment.size ∙ end.2;
      }

  spelled_stands : IsUtf8 (b ∷ rest) → begins_comment (b ∷ rest) ≡ false
      → spelling_shape b (b ∷ rest) ≡ Some shape → StandsAs offset (b ∷ rest) shape
  spelled_stands utf8 no_comment found =
      let s = spelling_stands b rest utf8 shape found in
      record {
        item = spelled s.spelling;
        after = s.after;
        split = s.stands.split;
        stands = IsSpelled-SpelledAt (b ∷ rest) s.spelling s.after no_comment s.stands;
        same = s.same;
      }

item_sound : (offset : ℕ) (bytes : List ℕ) (shape : Shape) → IsUtf8 bytes
    → item_shape bytes ≡ Some shape → StandsAs offset bytes shape
unfolding item_shape
item_sound offset [] shape utf8 found = cc
item_sound offset (b ∷ rest) shape utf8 found =
    by_if (b == newline) _ _ _ found
    (λ line e. white_space_stands offset b rest shape (or_right _ _ line) (rw line cc))
    (λ line e. by_if (is_white_space b) _ _ _ e
    (λ white e. white_space_stands offset b rest shape white (rw line cc))
    (λ white e. by_if (starts_with nat_eq (b ∷ rest) (codes "//")) _ _ _ e
    (λ comment e. line_comment_stands offset b rest shape comment cc)
    (λ comment e. by_if (starts_with nat_eq (b ∷ rest) (codes "/*")) _ _ _ e
    (λ general e. general_comment_stands offset b rest shape general e)
    (λ general e. spelled_stands offset b rest shape utf8 (or_from _ _ comment general) e))))

pub sound : (offset : ℕ) (bytes : List ℕ) (shape : Shape) → IsUtf8 bytes
    → shape_at (offset == 0) bytes ≡ Some shape → StandsAs offset bytes shape
unfolding shape_at
sound offset bytes shape utf8 found =
    by_if ((offset == 0) && starts_with nat_eq bytes byte_order_mark_bytes) _ _ _ found
    (λ mark e.
    let parts = and_parts (offset == 0) (starts_with nat_eq bytes byte_order_mark_bytes) mark in
    record {
      item = byte_order_mark;
      after = drop 3 bytes;
      split = begins_split bytes byte_order_mark_bytes parts.1;
      stands = eqb-true offset 0 parts.0;
      same = cc;
    })
    (λ mark e. item_sound offset bytes shape utf8 e)

-- where no byte order mark begins, the start of the source is a place like others
pub past_mark : (at_start : Bool) (bytes : List ℕ)
    → (at_start && starts_with nat_eq bytes byte_order_mark_bytes) ≡ false
    → shape_at at_start bytes ≡ item_shape bytes
unfolding shape_at
past_mark at_start bytes h = rw h refl

pub no_mark-low : (b : ℕ) (rest : List ℕ) → (b ≡ 0xEF → ⊥)
    → starts_with nat_eq (b ∷ rest) byte_order_mark_bytes ≡ false
no_mark-low b rest other = and_left (nat_eq 0xEF b) _ (ne_eqb 0xEF b (λ e. other (sym e)))

white_item : (b : ℕ) (rest : List ℕ) → is_white_space b ≡ true
    → item_shape (b ∷ rest) ≡ Some (shape_of (white_space b))
unfolding item_shape
white_item b rest white = elim (cases_Bool (b == newline)) [
  | inl line ↦ rw line refl
  | inr line ↦ rw (white, line) refl
]

white_no_mark : (b : ℕ) → is_white_space b ≡ true → b ≡ 0xEF → ⊥
white_no_mark b white e = let h : is_white_space 0xEF ≡ true = ap is_white_space (sym e) ∙ white in
    cc

line_comment_item : (content after : List ℕ) → IsLineComment content after
    → item_shape (47 ∷ 47 ∷ content ++ after) ≡ Some (shape_of (line_comment content))
unfolding item_shape
line_comment_item content after h = ap (λ n. Some (Comment n)) (comment_found content after h)

general_comment_item : (content after : List ℕ) → has_comment_end content ≡ false
    → item_shape (47 ∷ 42 ∷ content ++ 42 ∷ 47 ∷ after) ≡ Some (shape_of (general_comment content))
unfolding item_shape
general_comment_item content after h = general_found content after h

-- where neither white space nor a comment begins, the program looks for a spelling
pub spelling_item : (b : ℕ) (rest : List ℕ) → is_white_space b ≡ false
    → begins_comment (b ∷ rest) ≡ false → item_shape (b ∷ rest) ≡ spelling_shape b (b ∷ rest)
unfolding item_shape
spelling_item b rest white no_comment =
    let line : (b == newline) ≡ false =
    (or_parts (b == space || b == tab || b == carriage_return) (b == newline) white).1 in
    let comments =
    or_parts (starts_with nat_eq (b ∷ rest) (codes "//"))
    (starts_with nat_eq (b ∷ rest) (codes "/*")) no_comment in
    rw (white, line, comments.0, comments.1) refl

spelled_item : (spelling : Spelling) (after : List ℕ) → IsUtf8 (print_spelling spelling ++ after)
    → IsSpelled spelling after
    → item_shape (print_spelling spelling ++ after) ≡ Some (shape_of (spelled spelling))
spelled_item spelling after utf8 h =
    let first = first_byte spelling h.valid in
    let rest = first.others ++ after in
    let bytes : print_spelling spelling ++ after ≡ first.byte ∷ rest =
    ap (λ x. x ++ after) first.split in
    ap item_shape bytes
    ∙ spelling_item first.byte rest first.white
    (subst (λ x. begins_comment x ≡ false) bytes h.no_comment)
    ∙ spelling_found first.byte rest (subst IsUtf8 bytes utf8) spelling after
    (subst (λ x. SpelledAt x spelling after) bytes (SpelledAt-IsSpelled spelling after h))

mark_found : (after : List ℕ) → shape_at true (byte_order_mark_bytes ++ after) ≡ Some (Blank 3)
unfolding shape_at
mark_found after = refl

general_print : (content after : List ℕ) → print_item (general_comment content) ++ after ≡ 47 ∷ 42
    ∷ content ++ 42 ∷ 47 ∷ after
general_print content after = ap (λ l. 47 ∷ 42 ∷ l) (append_assoc content (42 ∷ 47 ∷ []) after)

pub complete : (offset : ℕ) (item : Item) (after : List ℕ) → IsUtf8 (print_item item ++ after)
    → Stands offset item after
    → shape_at (offset == 0) (print_item item ++ after) ≡ Some (shape_of item)
complete offset (white_space b) after utf8 stands =
    past_mark (offset == 0) (b ∷ after)
    (and_right (offset == 0) _ (no_mark-low b after (white_no_mark b stands)))
    ∙ white_item b after stands
complete offset byte_order_mark after utf8 stands =
    ap (λ t. shape_at t (byte_order_mark_bytes ++ after)) (eq-eqb offset 0 stands)
    ∙ mark_found after
complete offset (line_comment content) after utf8 stands =
    past_mark (offset == 0) (47 ∷ 47 ∷ content ++ after)
    (and_right (offset == 0) _ (no_mark-low 47 (47 ∷ content ++ after) (λ e. omega arith)))
    ∙ line_comment_item content after stands
complete offset (general_comment content) after utf8 stands =
    ap (shape_at (offset == 0)) (general_print content after)
    ∙ past_mark (offset == 0) (47 ∷ 42 ∷ content ++ 42 ∷ 47 ∷ after)
    (and_right (offset == 0) _
    (no_mark-low 47 (42 ∷ content ++ 42 ∷ 47 ∷ after) (λ e. omega arith)))
    ∙ general_comment_item content after stands
complete offset (spelled spelling) after utf8 stands =
    past_mark (offset == 0) (print_spelling spelling ++ after)
    (and_right (offset == 0) _ ((first_byte spelling stands.valid).no_mark after))
    ∙ spelled_item spelling after utf8 stands

-- an item is as long as its shape says
pub length_of-shape_of : (item : Item) → length_of (shape_of item) ≡ length (print_item item)
length_of-shape_of (white_space b) =
    elim (cases_Bool (b == newline)) [ inl line ↦ rw line refl | inr line ↦ rw line refl ]
length_of-shape_of byte_order_mark = refl
length_of-shape_of (line_comment content) = omega arith
length_of-shape_of (general_comment content) = omega (arith, length-append content (codes "*/"))
length_of-shape_of (spelled spelling) = refl

-- an item that stands has a byte
pub length-print_item-pos : (offset : ℕ) (item : Item) (after : List ℕ) → Stands offset item after
    → 0 < length (print_item item)
length-print_item-pos offset (white_space b) after stands = omega arith
length-print_item-pos offset byte_order_mark after stands = omega arith
length-print_item-pos offset (line_comment content) after stands = omega arith
length-print_item-pos offset (general_comment content) after stands = omega arith
length-print_item-pos offset (spelled spelling) after stands =
    let first = first_byte spelling stands.valid in
    omega (arith, ap length first.split)

-- where the program finds nothing, nothing stands
pub none_stands : (offset : ℕ) (bytes : List ℕ) → IsUtf8 bytes → shape_at (offset == 0) bytes ≡ None
    → (item : Item) (after : List ℕ) → bytes ≡ print_item item ++ after → Stands offset item after
    → ⊥
none_stands offset bytes utf8 none item after split stands =
    let found : shape_at (offset == 0) bytes ≡ Some (shape_of item) =
    ap (shape_at (offset == 0)) split
    ∙ complete offset item after (subst IsUtf8 split utf8) stands in
    cc

-- two items that stand at the front of the same bytes are alike in shape, length and what follows
pub record IsAlike (item other : Item) (after rest : List ℕ) : Type 0 where
  pub shapes : shape_of item ≡ shape_of other
  pub lengths : length (print_item item) ≡ length (print_item other)
  pub rests : after ≡ rest

pub one_shape : (offset : ℕ) (item other : Item) (after rest : List ℕ)
    → IsUtf8 (print_item item ++ after) → print_item item ++ after ≡ print_item other ++ rest
    → Stands offset item after → Stands offset other rest → IsAlike item other after rest
one_shape offset item other after rest utf8 split stands stood =
    let found : Some (shape_of item) ≡ Some (shape_of other) =
    sym (complete offset item after utf8 stands) ∙ ap (shape_at (offset == 0)) split
    ∙ complete offset other rest (subst IsUtf8 split utf8) stood in
    let shapes : shape_of item ≡ shape_of other = cc in
    let lengths : length (print_item item) ≡ length (print_item other) =
    sym (length_of-shape_of item) ∙ ap length_of shapes ∙ length_of-shape_of other in
    record {
      shapes = shapes;
      lengths = lengths;
      rests =
          same_rests (print_item item) (print_item other) after rest split lengths;
    }
