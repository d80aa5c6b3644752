-- The text of each token of a reading lies in the source and is UTF-8.
use Rattle.std.proofs.Common.{◌≡◌, ℕ, ◌+◌, ◌≤◌, Bool, true, false, cond, List, [], ◌∷◌, ◌++◌}
use Rattle.std.proofs.Common.{length, drop, IsUtf8, All, sym, ap, subst, ◌∙◌, refl, arith}
use Rattle.std.proofs.Common.{length-append}
use Rattle.std.specs.Prelude.{◌&&◌}
use Rattle.std.specs.Str.{IsCharBoundary}
use Rattle.std.proofs.lemmas.List.{drop_at, drop-drop, length-drop}
use Rattle.std.proofs.lemmas.List.Elements.{All-nil, All-cons}
use Rattle.std.proofs.lemmas.Str.{IsCharBoundary-from_drop, IsUtf8-between}
use Rattle.go_ast.specs.declared.token.Comment.{Comment}
use Rattle.go_ast.specs.declared.token.Span.{Span}
use Rattle.go_ast.specs.declared.token.Token.{Token}
use Rattle.go_ast.specs.declared.token.TokenKind.TheVariants.{AutoSemi}
use Rattle.go_ast.specs.Lexical.{Item, white_space, byte_order_mark, line_comment, general_comment}
use Rattle.go_ast.specs.Lexical.{spelled, print_item, print_spelling}
use Rattle.go_ast.specs.Marks.{text_of}
use Rattle.go_ast.specs.Reading.{Leads, Reads, kind_of, line_ends, takes_semicolon, token_of}
use Rattle.go_ast.specs.Reading.{tokens_at, tokens_of}
use Rattle.go_scanner.proofs.ScanLaws.{utf8_after}

-- the bytes of a span are a text of the source
pub record IsText (bytes : List ℕ) (span : Span) : Type 0 where
  pub ordered : span.start ≤ span.end
  pub inside : span.end ≤ length bytes
  pub utf8 : IsUtf8 (text_of bytes span)

abbrev pub IsTextOf : List ℕ → Token → Type 0
IsTextOf bytes token = IsText bytes token.span

-- the rest of some bytes from an offset on
record IsRest (bytes : List ℕ) (offset : ℕ) (rest : List ℕ) : Type 0 where
  within : offset ≤ length bytes
  here : drop offset bytes ≡ rest
  utf8 : IsUtf8 rest

begins : (bytes rest : List ℕ) (offset : ℕ) → IsRest bytes offset rest → IsCharBoundary bytes offset
begins bytes rest offset at = IsCharBoundary-from_drop bytes offset at.within
    (subst IsUtf8 (sym at.here) at.utf8)

rest_past : (bytes printed after : List ℕ) (offset : ℕ) → IsRest bytes offset (printed ++ after)
    → IsUtf8 after
    → IsRest bytes (offset + length printed) after
rest_past bytes printed after offset at utf8 = record {
  within = omega (
    arith,
    ap length at.here,
    length-append printed after,
    length-drop offset bytes,
    at.within,
  );
  here = sym (drop-drop (length printed) offset bytes) ∙ ap (drop (length printed)) at.here
      ∙ drop_at printed after (length printed) refl;
  utf8 = utf8;
}

text_between : (bytes rest after : List ℕ) (start end : ℕ) → IsUtf8 bytes → start ≤ end
    → IsRest bytes start rest → IsRest bytes end after
    → IsText bytes (record { start = start; end = end })
text_between bytes rest after start end whole ordered from to = record {
  ordered = ordered;
  inside = to.within;
  utf8 = IsUtf8-between bytes start end whole ordered (begins bytes rest start from)
      (begins bytes after end to);
}

semicolon_text : (b : Bool) (bytes after : List ℕ) (end : ℕ) (later : List Token) → IsUtf8 bytes
    → IsRest bytes end after → All (IsTextOf bytes) later
    → All (IsTextOf bytes) ((cond b (token_of AutoSemi end end ∷ []) []) ++ later)
semicolon_text true bytes after end later whole at h =
    All-cons (IsTextOf bytes) (token_of AutoSemi end end) later
    (text_between bytes after after end end whole (omega arith) at at) h
semicolon_text false bytes after end later whole at h = h

item_text : (bytes : List ℕ) (item : Item) (items : List Item) (start : ℕ) (after : List ℕ)
    (later : List Token) → IsUtf8 bytes
    → IsRest bytes start (print_item item ++ after)
    → IsRest bytes (start + length (print_item item)) after → All (IsTextOf bytes) later
    → All (IsTextOf bytes) (tokens_at start (start + length (print_item item)) item items ++ later)
item_text bytes (white_space b) items start after later whole from to h = h
item_text bytes byte_order_mark items start after later whole from to h = h
item_text bytes (line_comment content) items start after later whole from to h = h
item_text bytes (general_comment content) items start after later whole from to h = h
item_text bytes (spelled spelling) items start after later whole from to h =
    let end = start + length (print_spelling spelling) in
    All-cons (IsTextOf bytes) (token_of (kind_of spelling) start end) _
    (text_between bytes _ after start end whole (omega arith) from to)
    (semicolon_text (takes_semicolon spelling && line_ends items) bytes after end later whole to h)

all_texts : (bytes : List ℕ) (items : List Item) (offset : ℕ) (rest : List ℕ) → IsUtf8 bytes
    → IsRest bytes offset rest → Leads offset items rest []
    → All (IsTextOf bytes) (tokens_of offset items)
all_texts bytes [] offset rest whole at h = All-nil (IsTextOf bytes)
all_texts bytes (item ∷ items) offset rest whole at h =
    let end = offset + length (print_item item) in
    let split = subst (IsRest bytes offset) h.1 at in
    let past = rest_past bytes (print_item item) h.0 offset split
    (utf8_after offset item h.0 h.2 split.utf8) in
    item_text bytes item items offset h.0 (tokens_of end items) whole split past
    (all_texts bytes items end h.0 whole past h.3)

pub reading_texts : (bytes : List ℕ) (tokens : List Token) (comments : List Comment)
    → Reads bytes tokens comments → All (IsTextOf bytes) tokens
reading_texts bytes tokens comments read =
    subst (All (IsTextOf bytes)) (sym read.all_tokens)
    (all_texts bytes read.items 0 bytes read.utf8
    (record { within = omega arith; here = refl; utf8 = read.utf8 }) read.leads)
