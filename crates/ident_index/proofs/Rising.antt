-- The identifiers of a reading rise by where they begin.
use Rattle.std.proofs.Common.{ℕ, ◌+◌, ◌<◌, ◌≤◌, Bool, true, false, cond, List, [], ◌∷◌, ◌++◌}
use Rattle.std.proofs.Common.{length, All, sym, subst, arith}
use Rattle.std.specs.Prelude.{◌&&◌, AllPairs}
use Rattle.std.proofs.lemmas.List.Elements.{All-cons, All-nil}
use Rattle.std.proofs.lemmas.List.Kept.{AllPairs-cons}
use Rattle.go_ast.specs.declared.token.Token.{Token}
use Rattle.go_ast.specs.declared.token.Comment.{Comment}
use Rattle.go_ast.specs.declared.token.TokenKind.TheVariants.{AutoSemi}
use Rattle.go_ast.specs.Lexical.{Item, white_space, byte_order_mark, line_comment, general_comment}
use Rattle.go_ast.specs.Lexical.{spelled, print_item, Stands}
use Rattle.go_ast.specs.Reading.{Leads, Reads, kind_of, line_ends, takes_semicolon, token_of}
use Rattle.go_ast.specs.Reading.{tokens_at, tokens_of}
use Rattle.go_ast.specs.Tokens.{is_ident}
use Rattle.go_scanner.proofs.ScanLaws.{length-print_item-pos}
use Rattle.ident_index.specs.Hits.{identifiers}

-- the one token begins before the other
abbrev pub Before : Token → Token → Type 0
Before a b = a.span.start < b.span.start

-- tokens that rise, none before an offset
record AreRising (from : ℕ) (tokens : List Token) : Type 0 where
  pairs : AllPairs Before tokens
  later : All (λ token. from ≤ token.span.start) tokens

from_earlier : (from earlier : ℕ) (tokens : List Token) → earlier ≤ from → AreRising from tokens
    → AreRising earlier tokens
from_earlier from earlier tokens le rising =
    record { pairs = rising.pairs; later = λ k d h. omega (arith, le, rising.later k d h) }

one_more : (token : Token) (from : ℕ) (tokens : List Token) (b : Bool) → token.span.start < from
    → AreRising from tokens
    → AreRising token.span.start (cond b (token ∷ tokens) tokens)
one_more token from tokens true before rising = record {
  pairs = AllPairs-cons Before token tokens (λ k d h. omega (arith, before, rising.later k d h))
      rising.pairs;
  later = All-cons (λ (t : Token). token.span.start ≤ t.span.start) token tokens (omega arith)
      (λ k d h. omega (arith, before, rising.later k d h));
}
one_more token from tokens false before rising = from_earlier from token.span.start tokens
    (omega (arith, before)) rising

past_semicolon : (b : Bool) (end : ℕ) (later : List Token) → AreRising end (identifiers later)
    → AreRising end (identifiers ((cond b (token_of AutoSemi end end ∷ []) []) ++ later))
past_semicolon true end later rising = rising
past_semicolon false end later rising = rising

item_rises : (item : Item) (items : List Item) (start : ℕ) (after : List ℕ) (later : List Token)
    → Stands start item after
    → AreRising (start + length (print_item item)) (identifiers later)
    → AreRising start (identifiers (tokens_at start (start + length (print_item item)) item items ++
    later))
item_rises (white_space b) items start after later stands rising = from_earlier _ start
    (identifiers later) (omega arith) rising
item_rises byte_order_mark items start after later stands rising = from_earlier _ start
    (identifiers later) (omega arith) rising
item_rises (line_comment content) items start after later stands rising = from_earlier _ start
    (identifiers later) (omega arith) rising
item_rises (general_comment content) items start after later stands rising = from_earlier _ start
    (identifiers later) (omega arith) rising
item_rises (spelled spelling) items start after later stands rising =
    let end = start + length (print_item (spelled spelling)) in
    one_more (token_of (kind_of spelling) start end) end _ (is_ident (kind_of spelling))
    (omega (arith, length-print_item-pos start (spelled spelling) after stands))
    (past_semicolon (takes_semicolon spelling && line_ends items) end later rising)

items_rise : (items : List Item) (offset : ℕ) (rest : List ℕ) → Leads offset items rest []
    → AreRising offset (identifiers (tokens_of offset items))
items_rise [] offset rest h =
    record {
      pairs = λ i j d l m. absurd (omega arith);
      later = All-nil
          (λ (t : Token). offset ≤ t.span.start);
    }
items_rise (item ∷ items) offset rest h =
    let end = offset + length (print_item item) in
    item_rises item items offset h.0 (tokens_of end items) h.2 (items_rise items end h.0 h.3)

pub reading_rises : (source : List ℕ) (tokens : List Token) (comments : List Comment)
    → Reads source tokens comments → AllPairs Before (identifiers tokens)
reading_rises source tokens comments read =
    subst (λ ts. AllPairs Before (identifiers ts)) (sym read.all_tokens)
    (items_rise read.items 0 source read.leads).pairs
