-- What a scan has found when it stands at an offset, and how each item takes it on.
use Rattle.std.proofs.Common.{◌≡◌, ◌==◌, ℕ, ◌+◌, ◌<◌, ◌≤◌, true, false, ◌&&◌, nat_eq, inl, inr}
use Rattle.std.proofs.Common.{List, [], ◌∷◌, ◌++◌, length, drop, Option, Some, None, refl, sym}
use Rattle.std.proofs.Common.{◌∙◌, ap, subst, arith}
use Rattle.std.proofs.Common.{zero, suc, ◌||◌, get_or}
use Rattle.std.proofs.lemmas.List.{drop_more, append-nil, append_assoc, drop-drop, drop_all}
use Rattle.std.proofs.lemmas.List.{drop_at}
use Rattle.std.proofs.lemmas.List.{length-append, length-drop}
use Rattle.std.specs.Prelude.{IsUtf8}
use Rattle.std.specs.List.{starts_with, prefix_len}
use Rattle.std.proofs.lemmas.Bool.{cases_Bool, and_left, ne_eqb, or_cases, eqb-true}
use Rattle.std.proofs.lemmas.List.Sums.{prefix_len_passes, prefix_len-le-length}
use Rattle.go_ast.specs.Characters.{byte_order_mark_bytes}
use Rattle.go_ast.specs.declared.token.Token.{Token}
use Rattle.go_ast.specs.declared.token.Comment.{Comment}
use Rattle.go_ast.specs.Lexical.{Item, print_item, Stands}
use Rattle.go_ast.specs.Reading.{Leads, Reads, IsStuckAt, line_ends, tokens_of, comments_of}
use Rattle.go_scanner.specs.declared.shape.Shape.{Shape}
use Rattle.go_scanner.specs.Shapes.{shape_of, item_shape, shape_at, length_of}
use Rattle.go_scanner.specs.declared.shape.Shape.TheVariants.{Blank}
use Rattle.go_scanner.specs.Classes.{is_blank}
use Rattle.go_scanner.specs.Steps.{mark_length, semicolon_of, added_tokens, added_comments}
use Rattle.go_scanner.specs.Steps.{pending_after}
use Rattle.go_scanner.proofs.Standing.Boundaries.{utf8_after}
use Rattle.go_scanner.proofs.Standing.Items.{past_mark, sound, none_stands, length_of-shape_of}
use Rattle.go_scanner.proofs.Standing.Items.{length-print_item-pos}
use Rattle.go_scanner.proofs.ItemShapes.{ends_at, tokens_before, line_ends-shape, tokens_of-shape}
use Rattle.go_scanner.proofs.ItemShapes.{comments_of-shape, semicolon_before, step_tokens}

-- items lead to the offset; the tokens and comments so far go on to those of any items that follow
pub record Progress (bytes : List ℕ) (at : ℕ) (pending : Option ℕ) (tokens : List Token)
    (comments : List Comment) : Type 0 where
  pub within : at ≤ length bytes
  pub utf8 : IsUtf8 (drop at bytes)
  pub items : List Item
  pub leads : Leads 0 items bytes (drop at bytes)
  pub all_tokens : (more : List Item)
      → tokens_of 0 (items ++ more) ≡ tokens
      ++ (semicolon_before pending (line_ends more) ++ tokens_of at more)
  pub all_comments : (more : List Item)
      → comments_of 0 (items ++ more) ≡ comments ++ comments_of at more

-- the offset where items end
abbrev pub end_of : ℕ → List Item → ℕ
end_of offset [] = offset
end_of offset (item ∷ items) = end_of (offset + length (print_item item)) items

pub end_of-length : (offset : ℕ) (items : List Item) (bytes rest : List ℕ)
    → Leads offset items bytes rest → end_of offset items + length rest ≡ offset + length bytes
end_of-length offset [] bytes rest same = ap (λ bs. offset + length bs) (sym same)
end_of-length offset (item ∷ items) bytes rest leads =
    let later = end_of-length (offset + length (print_item item)) items leads.0 rest leads.3 in
    let whole = ap length leads.1 ∙ length-append (print_item item) leads.0 in
    omega arith

-- items that lead on to where others begin
leads_on : (offset : ℕ) (items more : List Item) (bytes mid rest : List ℕ)
    → Leads offset items bytes mid → Leads (end_of offset items) more mid rest
    → Leads offset (items ++ more) bytes rest
leads_on offset [] more bytes mid rest same later =
    subst (λ bs. Leads offset more bs rest) (sym same) later
leads_on offset (item ∷ items) more bytes mid rest leads later = (
  leads.0,
  leads.1,
  leads.2,
  leads_on (offset + length (print_item item)) items more leads.0 mid rest leads.3 later,
)

pub start : (bytes : List ℕ) → IsUtf8 bytes → Progress bytes 0 None [] []
start bytes utf8 = record {
  within = omega arith;
  utf8 = utf8;
  items = [];
  leads = refl;
  all_tokens = λ more. refl;
  all_comments = λ more. refl;
}

after_item : (bytes : List ℕ) (at : ℕ) (pending : Option ℕ) (tokens : List Token)
    (comments : List Comment) (item : Item) (rest : List ℕ)
    → Progress bytes at pending tokens comments → drop at bytes ≡ print_item item ++ rest
    → Stands at item rest
    → Progress bytes (at + length_of (shape_of item)) (pending_after (shape_of item) at pending)
    (tokens ++ added_tokens (shape_of item) at pending)
    (comments ++ added_comments (shape_of item) at)
after_item bytes at pending tokens comments item rest before split stands =
    let shape = shape_of item in
    let size : length (print_item item) ≡ length_of shape = sym (length_of-shape_of item) in
    let parts : length (drop at bytes) ≡ length (print_item item) + length rest =
    ap length split ∙ length-append (print_item item) rest in
    let fits : at ≤ length bytes = before.within in
    let here : end_of 0 before.items ≡ at =
    omega (
      arith,
      end_of-length 0 before.items bytes (drop at bytes) before.leads,
      length-drop at bytes,
    ) in
    let past : rest ≡ drop (at + length_of shape) bytes =
    sym (drop_at (print_item item) rest (length_of shape) size)
    ∙ ap (drop (length_of shape)) (sym split) ∙ drop-drop (length_of shape) at bytes in
    let last : Leads (end_of 0 before.items) (item ∷ []) (drop at bytes)
    (drop (at + length_of shape) bytes) =
    subst (λ n. Leads n (item ∷ []) (drop at bytes) (drop (at + length_of shape) bytes)) (sym here)
    (rest, split, stands, past) in
    record {
      within = omega (arith, length-drop at bytes);
      utf8 = subst IsUtf8 past (utf8_after at item rest stands (subst IsUtf8 split before.utf8));
      items = before.items ++ item ∷ [];
      leads =
          leads_on 0 before.items (item ∷ []) bytes (drop at bytes)
          (drop (at + length_of shape) bytes) before.leads last;
      all_tokens = λ more.
          ap (tokens_of 0) (append_assoc before.items (item ∷ []) more)
          ∙ before.all_tokens (item ∷ more)
          ∙ ap (λ ends. tokens ++ (semicolon_before pending ends ++ tokens_of at (item ∷ more)))
          (line_ends-shape item more)
          ∙ ap (λ later. tokens
          ++ (semicolon_before pending (ends_at shape (line_ends more)) ++ later))
          (tokens_of-shape at item more
          ∙ ap (λ n. tokens_before shape at (line_ends more) (tokens_of (at + n) more)) size)
          ∙ ap (λ later. tokens ++ later)
          (step_tokens shape at pending (line_ends more) (tokens_of (at + length_of shape) more))
          ∙ sym (append_assoc tokens (added_tokens shape at pending) _);
      all_comments = λ more.
          ap (comments_of 0) (append_assoc before.items (item ∷ []) more)
          ∙ before.all_comments (item ∷ more)
          ∙ ap (λ later. comments ++ later)
          (comments_of-shape at item more
          ∙ ap (λ n. added_comments shape at ++ comments_of (at + n) more) size)
          ∙ sym (append_assoc comments (added_comments shape at) _);
    }

-- one item more
pub after : (bytes : List ℕ) (at : ℕ) (pending : Option ℕ) (tokens : List Token)
    (comments : List Comment) (shape : Shape)
    → Progress bytes at pending tokens comments → shape_at (at == 0) (drop at bytes) ≡ Some shape
    → Progress bytes (at + length_of shape) (pending_after shape at pending)
    (tokens ++ added_tokens shape at pending) (comments ++ added_comments shape at)
after bytes at pending tokens comments shape before found =
    let stands = sound at (drop at bytes) shape before.utf8 found in
    subst (λ s. Progress bytes (at + length_of s) (pending_after s at pending)
    (tokens ++ added_tokens s at pending) (comments ++ added_comments s at))
    stands.same
    (after_item bytes at pending tokens comments stands.item stands.after before stands.split
    stands.stands)

-- an item has a byte
pub length_of-pos : (bytes : List ℕ) (at : ℕ) (shape : Shape) → IsUtf8 (drop at bytes)
    → shape_at (at == 0) (drop at bytes) ≡ Some shape → 0 < length_of shape
length_of-pos bytes at shape utf8 found =
    let stands = sound at (drop at bytes) shape utf8 found in
    let size : length_of shape ≡ length (print_item stands.item) = ap length_of (sym stands.same)
    ∙ length_of-shape_of stands.item in
    omega (arith, length-print_item-pos at stands.item stands.after stands.stands)

at_end : (pending : Option ℕ) → semicolon_before pending true ++ [] ≡ semicolon_of pending
at_end None = refl
at_end (Some end) = refl

-- the end
pub finish : (bytes : List ℕ) (at : ℕ) (pending : Option ℕ) (tokens : List Token)
    (comments : List Comment)
    → IsUtf8 bytes → Progress bytes at pending tokens comments → length bytes ≤ at
    → Reads bytes (tokens ++ semicolon_of pending) comments
finish bytes at pending tokens comments utf8 before end = record {
  utf8 = utf8;
  items = before.items;
  leads = subst (λ rest. Leads 0 before.items bytes rest) (drop_all at bytes end) before.leads;
  all_tokens =
      sym (ap (tokens_of 0) (sym (append-nil before.items)) ∙ before.all_tokens []
      ∙ ap (λ later. tokens ++ later) (at_end pending));
  all_comments =
      sym (ap (comments_of 0) (sym (append-nil before.items)) ∙ before.all_comments []
      ∙ append-nil comments);
}

-- a place where nothing stands
pub stuck : (bytes : List ℕ) (at : ℕ) (pending : Option ℕ) (tokens : List Token)
    (comments : List Comment)
    → Progress bytes at pending tokens comments → at < length bytes
    → shape_at (at == 0) (drop at bytes) ≡ None → IsStuckAt bytes at
stuck bytes at pending tokens comments before more nothing = record {
  items = before.items;
  rest = drop at bytes;
  leads = before.leads;
  within = omega (arith, length-drop at bytes);
  place = omega (arith, length-drop at bytes);
  none = none_stands at (drop at bytes) before.utf8 nothing;
}

mark_here : (bytes : List ℕ) → starts_with nat_eq bytes byte_order_mark_bytes ≡ true
    → shape_at true bytes ≡ Some (Blank 3)
unfolding shape_at
mark_here bytes mark = rw mark refl

-- past the byte order mark, if there is one
pub record Reached (bytes : List ℕ) (at : ℕ) (pending : Option ℕ) (tokens : List Token)
    (comments : List Comment) : Type 0 where
  pub progress : Progress bytes at pending tokens comments
  pub no_mark : ((at == 0) && starts_with nat_eq (drop at bytes) byte_order_mark_bytes) ≡ false

-- where the scan stands, an item stands as it does past the start
pub item_here : (bytes : List ℕ) (at : ℕ) (pending : Option ℕ) (tokens : List Token)
    (comments : List Comment) → Reached bytes at pending tokens comments
    → shape_at (at == 0) (drop at bytes) ≡ item_shape (drop at bytes)
item_here bytes at pending tokens comments reached =
    past_mark (at == 0) (drop at bytes) reached.no_mark

no_mark_later : (bytes : List ℕ) (at : ℕ) → 0 < at
    → ((at == 0) && starts_with nat_eq (drop at bytes) byte_order_mark_bytes) ≡ false
no_mark_later bytes at some =
    and_left (at == 0) (starts_with nat_eq (drop at bytes) byte_order_mark_bytes)
    (ne_eqb at 0 (λ e. omega arith))

-- one item more
pub goes_on : (bytes : List ℕ) (at : ℕ) (pending : Option ℕ) (tokens : List Token)
    (comments : List Comment) (shape : Shape)
    → Reached bytes at pending tokens comments → Some shape ≡ item_shape (drop at bytes)
    → Reached bytes (at + length_of shape) (pending_after shape at pending)
    (tokens ++ added_tokens shape at pending) (comments ++ added_comments shape at)
goes_on bytes at pending tokens comments shape reached found =
    let here : shape_at (at == 0) (drop at bytes) ≡ Some shape =
    item_here bytes at pending tokens comments reached ∙ sym found in
    let some = length_of-pos bytes at shape reached.progress.utf8 here in
    record {
      progress = after bytes at pending tokens comments shape reached.progress here;
      no_mark = no_mark_later bytes (at + length_of shape) (omega arith);
    }

pub goes_on_some : (bytes : List ℕ) (at : ℕ) (pending : Option ℕ) (tokens : List Token)
    (comments : List Comment) (shape : Shape)
    → Reached bytes at pending tokens comments → Some shape ≡ item_shape (drop at bytes)
    → 0 < length_of shape
goes_on_some bytes at pending tokens comments shape reached found =
    length_of-pos bytes at shape reached.progress.utf8
    (item_here bytes at pending tokens comments reached ∙ sym found)

-- the start, past the mark
pub begin : (bytes : List ℕ) → IsUtf8 bytes → Reached bytes (mark_length bytes) None [] []
begin bytes utf8 = elim (cases_Bool (starts_with nat_eq bytes byte_order_mark_bytes)) [
  | inr none ↦ rw none (record { progress = start bytes utf8; no_mark = none })
  | inl mark ↦
      let found : shape_at true bytes ≡ Some (Blank 3) = mark_here bytes mark in
      rw mark
      (record {
        progress = after bytes 0 None [] [] (Blank 3) (start bytes utf8) found;
        no_mark = no_mark_later bytes 3 (omega arith);
      })
]

pub same_reached : (bytes : List ℕ) (at there : ℕ) (pending pended : Option ℕ)
    (tokens all : List Token) (comments every : List Comment)
    → Reached bytes at pending tokens comments → there ≡ at → pended ≡ pending → all ≡ tokens
    → every ≡ comments → Reached bytes there pended all every
same_reached bytes at there pending pended tokens all comments every before place wait ts cs =
    rw (place, wait, ts, cs) before

blank_item : (b : ℕ) (rest : List ℕ) → is_blank b ≡ true → item_shape (b ∷ rest) ≡ Some (Blank 1)
unfolding item_shape
blank_item b rest h = elim (or_cases (b == 32 || b == 9) (b == 13) h) [
  | inl e ↦ elim (or_cases (b == 32) (b == 9) e) [
    | inl f ↦ rw (eqb-true b 32 f) refl
    | inr f ↦ rw (eqb-true b 9 f) refl
  ]
  | inr e ↦ rw (eqb-true b 13 e) refl
]

-- past white space up to a newline nothing is added
pub past_some : (bytes : List ℕ) (at : ℕ) (pending : Option ℕ) (tokens : List Token)
    (comments : List Comment) → Reached bytes at pending tokens comments → (k : ℕ)
    → k ≤ prefix_len is_blank (drop at bytes) → Reached bytes (at + k) pending tokens comments
past_some bytes at pending tokens comments reached zero few =
    subst (λ n. Reached bytes n pending tokens comments) (omega arith) reached
past_some bytes at pending tokens comments reached (suc k) few =
    let before = past_some bytes at pending tokens comments reached k (omega arith) in
    let long = prefix_len-le-length is_blank (drop at bytes) in
    let passes : is_blank (get_or (drop at bytes) k 0) ≡ true =
    prefix_len_passes is_blank (drop at bytes) k 0 (omega arith) in
    let here : drop (at + k) bytes ≡ get_or (drop at bytes) k 0 ∷ drop (k + 1) (drop at bytes) =
    sym (drop-drop k at bytes) ∙ drop_more (drop at bytes) k 0 (omega arith) in
    let found : item_shape (drop (at + k) bytes) ≡ Some (Blank 1) =
    ap item_shape here
    ∙ blank_item (get_or (drop at bytes) k 0) (drop (k + 1) (drop at bytes)) passes in
    same_reached bytes (at + k + 1) (at + suc k) pending pending _ _ _ _
    (goes_on bytes (at + k) pending tokens comments (Blank 1) before (sym found)) (omega arith)
    refl (sym (append-nil tokens)) (sym (append-nil comments))

pub past_blanks : (bytes : List ℕ) (at : ℕ) (pending : Option ℕ) (tokens : List Token)
    (comments : List Comment) → Reached bytes at pending tokens comments
    → Reached bytes (at + prefix_len is_blank (drop at bytes)) pending tokens comments
past_blanks bytes at pending tokens comments reached =
    past_some bytes at pending tokens comments reached (prefix_len is_blank (drop at bytes))
    (omega arith)
