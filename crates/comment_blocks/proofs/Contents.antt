-- What the comments of a reading hold is UTF-8.
use Rattle.std.proofs.Common.{◌≡◌, ℕ, ◌+◌, ◌-◌, ◌<◌, ◌≤◌, true, false, List, [], ◌∷◌, ◌++◌, length}
use Rattle.std.proofs.Common.{get_or, drop, refl, sym, ◌∙◌, ap, subst, ⊎_elim, arith, length-append}
use Rattle.std.proofs.Common.{codes, IsUtf8, append_assoc}
use Rattle.std.specs.Prelude.{All}
use Rattle.std.specs.Str.{IsCharBoundary}
use Rattle.std.proofs.lemmas.List.{get_or-drop, drop_at, drop-drop, length-drop}
use Rattle.std.proofs.lemmas.List.Elements.{All-nil, All-cons, All-take, All-drop}
use Rattle.std.proofs.lemmas.Str.{IsCharBoundary-before_ascii, IsCharBoundary-after_ascii}
use Rattle.std.proofs.lemmas.Str.{IsCharBoundary-end, IsUtf8-between}
use Rattle.go_ast.specs.declared.token.Comment.{Comment}
use Rattle.go_ast.specs.Lexical.{Item, white_space, byte_order_mark, line_comment, general_comment}
use Rattle.go_ast.specs.Lexical.{spelled, print_item, EndsComment, Stands}
use Rattle.go_ast.specs.Reading.{Leads, comments_at, comments_of, span}
use Rattle.comment_blocks.specs.Texts.{AreCommentsOf, content_end}
use Rattle.comment_blocks.specs.TextSteps.{HasContent}

-- a byte of what follows an offset
byte_at : (source bytes : List ℕ) (offset k : ℕ) → drop offset source ≡ bytes
    → get_or source (offset + k) 0 ≡ get_or bytes k 0
byte_at source bytes offset k split = sym (get_or-drop offset source k 0)
    ∙ ap (λ l. get_or l k 0) split

-- a comment whose content lies between a byte of ASCII before it and a place where the source may
-- be cut
between : (source : List ℕ) (comment : Comment) → IsUtf8 source
    → comment.span.start + 2 ≤ content_end comment → content_end comment ≤ length source
    → get_or source (comment.span.start + 1) 0 < 128 → IsCharBoundary source (content_end comment)
    → HasContent source comment
between source comment utf8 begin within ascii end =
    let low : IsCharBoundary source (comment.span.start + 2)
    = subst (IsCharBoundary source) (omega arith)
    (IsCharBoundary-after_ascii source (comment.span.start + 1) utf8 (omega arith) ascii) in
    record {
      begin = begin;
      within = within;
      utf8 = IsUtf8-between source (comment.span.start + 2) (content_end comment) utf8 begin low
          end;
    }

line_end : (source content after : List ℕ) (end : ℕ) → end ≤ length source → drop end source ≡ after
    → EndsComment content after → IsCharBoundary source end
line_end source content [] end within split ends =
    let all : length source ≡ end = omega (arith, length-drop end source, ap length split) in
    subst (IsCharBoundary source) all (IsCharBoundary-end source)
line_end source content (b ∷ rest) end within split ends =
    let short : end < length source = omega (arith, length-drop end source, ap length split) in
    let byte : get_or source end 0
    ≡ b = subst (λ k. get_or source k 0 ≡ b) (omega arith)
    (byte_at source (b ∷ rest) end 0 split) in
    let ascii : b < 128 = ⊎_elim (λ h. omega (arith, h.0)) (λ h. omega (arith, h.0)) ends in
    IsCharBoundary-before_ascii source end short (omega arith)

item_content : (source : List ℕ) (item : Item) (start : ℕ) (after : List ℕ) (later : List Comment)
    → IsUtf8 source
    → start + length (print_item item) ≤ length source
    → drop start source ≡ print_item item ++ after → drop (start + length (print_item item)) source
    ≡ after → Stands start item after
    → All (HasContent source) later
    → All (HasContent source)
    (comments_at start (start + length (print_item item)) item ++ later)
item_content source (white_space b) start after later utf8 within split rest stands h = h
item_content source byte_order_mark start after later utf8 within split rest stands h = h
item_content source (spelled spelling) start after later utf8 within split rest stands h = h
item_content source (line_comment content) start after later utf8 within split rest stands h =
    let size = length-append (codes "//") content in
    let end = start + length (codes "//" ++ content) in
    let mark : get_or source (start + 1) 0
    ≡ 47 = byte_at source ((codes "//" ++ content) ++ after) start 1 split in
    All-cons (HasContent source) (record { span = span start end; general = false }) later
    (between source (record { span = span start end; general = false }) utf8 (omega arith) within
    (omega arith)
    (line_end source content after end within rest stands.end))
    h
item_content source (general_comment content) start after later utf8 within split rest stands h =
    let whole = codes "/*" ++ (content ++ codes "*/") in
    let end = start + length whole in
    let size : length whole ≡ 2 + (length content + 2) =
    omega (
      arith,
      length-append (codes "/*") (content ++ codes "*/"),
      length-append content (codes "*/"),
    ) in
    let mark : get_or source (start + 1) 0 ≡ 42 = byte_at source (whole ++ after) start 1 split in
    let close : drop (start + (2 + length content)) source ≡ codes "*/" ++ after
    = sym (drop-drop (2 + length content) start source) ∙ ap (drop (2 + length content)) split
    ∙ ap (drop (2 + length content)) (append_assoc (codes "/*" ++ content) (codes "*/") after)
    ∙ drop_at (codes "/*" ++ content) (codes "*/" ++ after) (2 + length content)
    (length-append (codes "/*") content) in
    let last : get_or source (start + (2 + length content) + 0) 0
    ≡ 42 = byte_at source (codes "*/" ++ after) (start + (2 + length content)) 0 close in
    let at : start + (2 + length content) + 0 ≡ end - 2 = omega (arith, size) in
    let byte : get_or source (end - 2) 0 ≡ 42 = subst (λ k. get_or source k 0 ≡ 42) at last in
    All-cons (HasContent source) (record { span = span start end; general = true }) later
    (between source (record { span = span start end; general = true }) utf8 (omega (arith, size))
    (omega (arith, size)) (omega arith)
    (IsCharBoundary-before_ascii source (end - 2) (omega (arith, size)) (omega arith)))
    h

items_content : (source : List ℕ) (items : List Item) (offset : ℕ) (bytes : List ℕ) → IsUtf8 source
    → offset ≤ length source → drop offset source ≡ bytes
    → Leads offset items bytes [] → All (HasContent source) (comments_of offset items)
items_content source [] offset bytes utf8 within split leads = All-nil (HasContent source)
items_content source (item ∷ items) offset bytes utf8 within split leads =
    let after = leads.0 in
    let here : drop offset source ≡ print_item item ++ after = split ∙ leads.1 in
    let end = offset + length (print_item item) in
    let inside : end ≤ length source =
    omega (
      arith,
      length-drop offset source,
      ap length here,
      length-append (print_item item) after,
    ) in
    let rest : drop end source ≡ after
    = sym (drop-drop (length (print_item item)) offset source)
    ∙ ap (drop (length (print_item item))) here
    ∙ drop_at (print_item item) after (length (print_item item)) refl in
    item_content source item offset after (comments_of end items) utf8 inside here rest leads.2
    (items_content source items end after utf8 inside rest leads.3)

pub contents : (source : List ℕ) (comments : List Comment) → AreCommentsOf source comments
    → All (HasContent source) comments
contents source comments are =
    let all : All (HasContent source) are.all =
    subst (All (HasContent source)) (sym are.read.all_comments)
    (items_content source are.read.items 0 source are.read.utf8 (omega arith) refl are.read.leads)
    in
    subst (All (HasContent source)) (sym are.same)
    (All-take (HasContent source) (are.after - are.first) (drop are.first are.all)
    (All-drop (HasContent source) are.first are.all all))
