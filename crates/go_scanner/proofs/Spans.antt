-- The tokens of a reading stand in order, within the source, and read their spellings there.
use Rattle.std.proofs.Common.{◌≡◌, ℕ, ◌+◌, ◌-◌, ◌≤◌, Bool, true, false, List, [], ◌∷◌, ◌++◌}
use Rattle.std.proofs.Common.{length, take, drop, slice_range, sym, ◌∙◌, refl, ap, subst, inl, inr}
use Rattle.std.proofs.Common.{arith, zero-add, length-append, cond}
use Rattle.std.specs.Prelude.{◌&&◌, All}
use Rattle.std.proofs.lemmas.List.{take_at, drop_at, drop-drop}
use Rattle.std.proofs.lemmas.List.Elements.{All-nil, All-cons}
use Rattle.go_ast.specs.declared.token.Token.{Token}
use Rattle.go_ast.specs.declared.token.Comment.{Comment}
use Rattle.go_ast.specs.declared.token.TokenKind.TheVariants.{AutoSemi}
use Rattle.go_ast.specs.Lexical.{Item, white_space, byte_order_mark, line_comment, general_comment}
use Rattle.go_ast.specs.Lexical.{spelled, print_item, print_spelling, Stands}
use Rattle.go_ast.specs.Reading.{Leads, Reads, kind_of, tokens_at, tokens_of, takes_semicolon}
use Rattle.go_ast.specs.Reading.{line_ends, token_of}
use Rattle.go_ast.specs.Tokens.{IsWithin, HasSpelling, AreSpelled}
use Rattle.go_scanner.specs.Results.{AreInOrder}

-- what stands in order from an offset does from an earlier one
from_earlier : (tokens : List Token) (from earlier to : ℕ) → earlier ≤ from
    → AreInOrder from tokens to → AreInOrder earlier tokens to
from_earlier [] from earlier to le h = omega (arith, h)
from_earlier (token ∷ tokens) from earlier to le h = (omega (arith, h.0), h.1, h.2)

-- an automatic semicolon or none, before what stands in order
with_semicolon : (b : Bool) (tokens : List Token) (end to : ℕ) → AreInOrder end tokens to
    → AreInOrder end ((cond b (token_of AutoSemi end end ∷ []) []) ++ tokens) to
with_semicolon true tokens end to h = (omega arith, omega arith, h)
with_semicolon false tokens end to h = h

-- the tokens of an item before what stands in order
item_in_order : (item : Item) (items : List Item) (start end to : ℕ) (later : List Token)
    → start ≤ end → AreInOrder end later to
    → AreInOrder start (tokens_at start end item items ++ later) to
item_in_order (white_space b) items start end to later le h = from_earlier later end start to le h
item_in_order byte_order_mark items start end to later le h = from_earlier later end start to le h
item_in_order (line_comment content) items start end to later le h =
    from_earlier later end start to le h
item_in_order (general_comment content) items start end to later le h =
    from_earlier later end start to le h
item_in_order (spelled spelling) items start end to later le h =
    (omega arith, le, with_semicolon (takes_semicolon spelling && line_ends items) later end to h)

-- the tokens of items that lead to the end of the bytes
in_order : (items : List Item) (offset : ℕ) (bytes : List ℕ) → Leads offset items bytes []
    → AreInOrder offset (tokens_of offset items) (offset + length bytes)
in_order [] offset bytes h = omega arith
in_order (item ∷ items) offset bytes h =
    let end = offset + length (print_item item) in
    let same : end + length h.0 ≡ offset + length bytes =
    omega (arith, ap length h.1, length-append (print_item item) h.0) in
    let later =
    subst (λ to. AreInOrder end (tokens_of end items) to) same (in_order items end h.0 h.3) in
    item_in_order item items offset end (offset + length bytes) (tokens_of end items)
    (omega arith) later

-- the spans of a reading
pub spans : (bytes : List ℕ) (tokens : List Token) (comments : List Comment)
    → Reads bytes tokens comments → AreInOrder 0 tokens (length bytes)
spans bytes tokens comments read =
    rw read.all_tokens
    (subst (λ to. AreInOrder 0 (tokens_of 0 read.items) to) (zero-add (length bytes))
    (in_order read.items 0 bytes read.leads))

ordered : (tokens : List Token) (from to : ℕ) → AreInOrder from tokens to → from ≤ to
ordered [] from to h = h
ordered (token ∷ tokens) from to h = omega (arith, h.0, h.1, ordered tokens token.span.end to h.2)

all_within : (tokens : List Token) (from to : ℕ) → AreInOrder from tokens to
    → All (IsWithin to) tokens
all_within [] from to h = All-nil (IsWithin to)
all_within (token ∷ tokens) from to h =
    All-cons (IsWithin to) token tokens (h.1, ordered tokens token.span.end to h.2)
    (all_within tokens token.span.end to h.2)

pub within : (bytes : List ℕ) (tokens : List Token) (comments : List Comment)
    → Reads bytes tokens comments → All (IsWithin (length bytes)) tokens
within bytes tokens comments read =
    all_within tokens 0 (length bytes) (spans bytes tokens comments read)

-- the text between two offsets
text_at : (bytes printed after : List ℕ) (offset : ℕ) → drop offset bytes ≡ printed ++ after
    → printed ≡ slice_range bytes offset (offset + length printed)
text_at bytes printed after offset split =
    let size : offset + length printed - offset ≡ length printed = omega arith in
    sym (ap (λ n. take n (drop offset bytes)) size ∙ ap (take (length printed)) split
    ∙ take_at printed after (length printed) refl)

with_semicolon_spelled : (b : Bool) (bytes : List ℕ) (end : ℕ) (later : List Token)
    → AreSpelled bytes later
    → AreSpelled bytes ((cond b (token_of AutoSemi end end ∷ []) []) ++ later)
with_semicolon_spelled true bytes end later h =
    All-cons (HasSpelling bytes) (token_of AutoSemi end end) later (inl (refl, refl)) h
with_semicolon_spelled false bytes end later h = h

item_spelled : (bytes : List ℕ) (item : Item) (items : List Item) (start : ℕ) (after : List ℕ)
    (later : List Token) → drop start bytes ≡ print_item item ++ after → Stands start item after
    → AreSpelled bytes later
    → AreSpelled bytes (tokens_at start (start + length (print_item item)) item items ++ later)
item_spelled bytes (white_space b) items start after later split stands h = h
item_spelled bytes byte_order_mark items start after later split stands h = h
item_spelled bytes (line_comment content) items start after later split stands h = h
item_spelled bytes (general_comment content) items start after later split stands h = h
item_spelled bytes (spelled spelling) items start after later split stands h =
    let end = start + length (print_spelling spelling) in
    All-cons (HasSpelling bytes) (token_of (kind_of spelling) start end) _
    (inr (
      spelling,
      record {
        valid = stands.valid;
        same_kind = refl;
        same_text =
            text_at bytes (print_spelling spelling) after start split;
      },
    ))
    (with_semicolon_spelled (takes_semicolon spelling && line_ends items) bytes end later h)

all_spelled : (bytes : List ℕ) (items : List Item) (offset : ℕ) (rest : List ℕ)
    → drop offset bytes ≡ rest → Leads offset items rest []
    → AreSpelled bytes (tokens_of offset items)
all_spelled bytes [] offset rest here h = All-nil (HasSpelling bytes)
all_spelled bytes (item ∷ items) offset rest here h =
    let end = offset + length (print_item item) in
    let split : drop offset bytes ≡ print_item item ++ h.0 = here ∙ h.1 in
    let past : drop end bytes ≡ h.0 =
    sym (drop-drop (length (print_item item)) offset bytes)
    ∙ ap (drop (length (print_item item))) split
    ∙ drop_at (print_item item) h.0 (length (print_item item)) refl in
    item_spelled bytes item items offset h.0 (tokens_of end items) split h.2
    (all_spelled bytes items end h.0 past h.3)

pub spellings : (bytes : List ℕ) (tokens : List Token) (comments : List Comment)
    → Reads bytes tokens comments → AreSpelled bytes tokens
spellings bytes tokens comments read =
    rw read.all_tokens (all_spelled bytes read.items 0 bytes refl read.leads)
