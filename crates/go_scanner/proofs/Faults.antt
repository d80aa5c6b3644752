-- The fault of bytes at whose front nothing stands: the program and the definition tell the same.
use Rattle.std.proofs.Common.{◌≡◌, ◌==◌, ℕ, Bool, true, false, not, ◌&&◌, ◌||◌, List, [], ◌∷◌}
use Rattle.std.proofs.Common.{◌++◌, length, take, drop, nat_eq, codes, None, IsUtf8, sym, ap, ◌∙◌}
use Rattle.std.proofs.Common.{subst, refl, inl, inr, arith}
use Rattle.std.specs.List.{list_all, starts_with}
use Rattle.std.proofs.lemmas.Bool.{and_parts, and_from, and_right, or_cases, or_left, or_right}
use Rattle.std.proofs.lemmas.Bool.{or_parts, eqb-true, eq-eqb, ne_eqb, not-true, cases_Bool}
use Rattle.std.proofs.lemmas.Bool.{both_ways, false≢true}
use Rattle.std.proofs.lemmas.List.{take_all}
use Rattle.go_ast.specs.Characters.{newline, backslash, single_quote, double_quote, back_quote}
use Rattle.go_ast.specs.Texts.{Piece, plain, pair, print_pieces, is_piece, is_unquoted, ends_line}
use Rattle.go_ast.specs.Texts.{ends_unclosed, IsUnclosed, IsOpenString}
use Rattle.go_ast.specs.Lexical.{is_raw, IsOpenComment}
use Rattle.go_ast.specs.Reading.{IsStuckAt, ScanFault}
use Rattle.go_scanner.specs.Shapes.{shape_at, item_shape, general_shape, fault_at}
use Rattle.go_literals.specs.Extents.{raw_length}
use Rattle.go_scanner.specs.TextBytes.{is_unclosed, opens_string}
use Rattle.go_literals.proofs.Lists.{place_whole, list_all-take_prefix_len}
use Rattle.go_scanner.proofs.Standing.Generals.{general_none}
use Rattle.go_scanner.proofs.Standing.Items.{past_mark, begins_split, no_mark-low}

-- the quotes, as bytes of a line
abbrev is_mark : ℕ → Bool
is_mark quote = quote == single_quote || quote == double_quote

-- one byte of a line that no quote closes
unclosed_nil : (quote : ℕ) (escaped : Bool) → is_unclosed quote escaped [] ≡ true
unfolding is_unclosed
unclosed_nil quote escaped = refl

unclosed_line : (quote : ℕ) (escaped : Bool) (bytes : List ℕ)
    → is_unclosed quote escaped (newline ∷ bytes) ≡ true
unfolding is_unclosed
unclosed_line quote escaped bytes = refl

unclosed_pair : (quote b : ℕ) (bytes : List ℕ) → (b == newline) ≡ false
    → is_unclosed quote true (b ∷ bytes) ≡ is_unclosed quote false bytes
unfolding is_unclosed
unclosed_pair quote b bytes line = rw line refl

unclosed_byte : (quote b : ℕ) (bytes : List ℕ) → (b == newline) ≡ false → (b == quote) ≡ false
    → is_unclosed quote false (b ∷ bytes) ≡ is_unclosed quote (b == backslash) bytes
unfolding is_unclosed
unclosed_byte quote b bytes line other = rw (line, other) refl

unclosed_closed : (quote b : ℕ) (bytes : List ℕ) → (b == newline) ≡ false → (b == quote) ≡ true
    → is_unclosed quote false (b ∷ bytes) ≡ false
unfolding is_unclosed
unclosed_closed quote b bytes line closing = rw (line, closing) refl

-- a line that no quote closes, after a "\" or not
abbrev Pending : ℕ → Bool → List ℕ → Type 0
Pending quote false bytes = IsUnclosed quote bytes
Pending quote true bytes = IsUnclosed quote (backslash ∷ bytes)

unclosed_end : (quote : ℕ) (bytes : List ℕ) → ends_unclosed bytes ≡ true → IsUnclosed quote bytes
unclosed_end quote bytes h =
    record { pieces = []; rest = bytes; split = refl; valid = refl; end = h }

pieces_more : (piece : Piece) (pieces : List Piece) (bytes rest : List ℕ)
    → bytes ≡ print_pieces pieces ++ rest
    → print_pieces (piece ∷ []) ++ bytes ≡ print_pieces (piece ∷ pieces) ++ rest
pieces_more (plain b) pieces bytes rest split = ap (λ l. b ∷ l) split
pieces_more (pair b) pieces bytes rest split = ap (λ l. backslash ∷ b ∷ l) split

unclosed_more : (quote : ℕ) (piece : Piece) (front rest : List ℕ)
    → print_pieces (piece ∷ []) ≡ front → is_piece quote piece ≡ true → IsUnclosed quote rest
    → IsUnclosed quote (front ++ rest)
unclosed_more quote piece front rest printed h later = record {
  pieces = piece ∷ later.pieces;
  rest = later.rest;
  split = ap (λ l. l ++ rest) (sym printed)
      ∙ pieces_more piece later.pieces rest later.rest later.split;
  valid = and_from (is_piece quote piece) (list_all (is_piece quote) later.pieces) h later.valid;
  end = later.end;
}

sound : (quote : ℕ) (escaped : Bool) (bytes : List ℕ) → is_unclosed quote escaped bytes ≡ true
    → Pending quote escaped bytes
sound quote false [] h = unclosed_end quote [] refl
sound quote true [] h = unclosed_end quote (backslash ∷ []) refl
sound quote false (b ∷ bytes) h = elim (cases_Bool (b == newline)) [
  | inl line ↦
      unclosed_end quote (b ∷ bytes)
      (or_left (b == newline) (b == backslash && ends_line bytes) line)
  | inr line ↦ elim (cases_Bool (b == quote)) [
    | inl closing ↦ absurd (false≢true (sym (unclosed_closed quote b bytes line closing) ∙ h))
    | inr unlike ↦ elim (cases_Bool (b == backslash)) [
      | inl escaped ↦
          let later : is_unclosed quote true bytes ≡ true =
          sym (unclosed_byte quote b bytes line unlike
          ∙ ap (λ t. is_unclosed quote t bytes) escaped) ∙ h in
          subst (λ x. IsUnclosed quote (x ∷ bytes)) (sym (eqb-true b backslash escaped))
          (sound quote true bytes later)
      | inr other ↦
          let later : is_unclosed quote false bytes ≡ true =
          sym (unclosed_byte quote b bytes line unlike
          ∙ ap (λ t. is_unclosed quote t bytes) other) ∙ h in
          unclosed_more quote (plain b) (b ∷ []) bytes refl (rw (unlike, other, line) refl)
          (sound quote false bytes later)
    ]
  ]
]
sound quote true (b ∷ bytes) h = elim (cases_Bool (b == newline)) [
  | inl line ↦ unclosed_end quote (backslash ∷ b ∷ bytes) line
  | inr line ↦
      let later : is_unclosed quote false bytes ≡ true = sym (unclosed_pair quote b bytes line)
      ∙ h in
      unclosed_more quote (pair b) (backslash ∷ b ∷ []) bytes refl (ap not line)
      (sound quote false bytes later)
]

-- a quote is neither "\" nor a newline
quote_no_backslash : (quote : ℕ) → is_mark quote ≡ true → (backslash == quote) ≡ false
quote_no_backslash quote q =
    ne_eqb backslash quote (λ e. absurd (both_ways (is_mark quote) (ap is_mark (sym e)) q))

line_complete : (quote : ℕ) (rest : List ℕ) → ends_line rest ≡ true
    → is_unclosed quote true rest ≡ true
line_complete quote [] h = unclosed_nil quote true
line_complete quote (b ∷ rest) h =
    ap (λ x. is_unclosed quote true (x ∷ rest)) (eqb-true b newline h)
    ∙ unclosed_line quote true rest

end_complete : (quote : ℕ) → is_mark quote ≡ true → (rest : List ℕ) → ends_unclosed rest ≡ true
    → is_unclosed quote false rest ≡ true
end_complete quote q [] h = unclosed_nil quote false
end_complete quote q (b ∷ rest) h =
    elim (or_cases (b == newline) (b == backslash && ends_line rest) h) [
      | inl line ↦ ap (λ x. is_unclosed quote false (x ∷ rest)) (eqb-true b newline line)
          ∙ unclosed_line quote false rest
      | inr escaped ↦
          let parts = and_parts (b == backslash) (ends_line rest) escaped in
          ap (λ x. is_unclosed quote false (x ∷ rest)) (eqb-true b backslash parts.0)
          ∙ unclosed_byte quote backslash rest refl (quote_no_backslash quote q)
          ∙ line_complete quote rest parts.1
    ]

pieces_complete : (quote : ℕ) → is_mark quote ≡ true → (pieces : List Piece) (rest : List ℕ)
    → list_all (is_piece quote) pieces ≡ true → ends_unclosed rest ≡ true
    → is_unclosed quote false (print_pieces pieces ++ rest) ≡ true
pieces_complete quote q [] rest h end = end_complete quote q rest end
pieces_complete quote q (plain b ∷ pieces) rest h end =
    let parts = and_parts (is_unquoted quote b) (list_all (is_piece quote) pieces) h in
    let two =
    or_parts (b == quote || b == backslash) (b == newline)
    (not-true (b == quote || b == backslash || b == newline) parts.0) in
    let one = or_parts (b == quote) (b == backslash) two.0 in
    unclosed_byte quote b (print_pieces pieces ++ rest) two.1 one.0
    ∙ ap (λ t. is_unclosed quote t (print_pieces pieces ++ rest)) one.1
    ∙ pieces_complete quote q pieces rest parts.1 end
pieces_complete quote q (pair b ∷ pieces) rest h end =
    let parts = and_parts (not (b == newline)) (list_all (is_piece quote) pieces) h in
    unclosed_byte quote backslash (b ∷ print_pieces pieces ++ rest) refl
    (quote_no_backslash quote q)
    ∙ unclosed_pair quote b (print_pieces pieces ++ rest) (not-true (b == newline) parts.0)
    ∙ pieces_complete quote q pieces rest parts.1 end

complete : (quote : ℕ) (bytes : List ℕ) → is_mark quote ≡ true → IsUnclosed quote bytes
    → is_unclosed quote false bytes ≡ true
complete quote bytes q u = ap (is_unclosed quote false) u.split
    ∙ pieces_complete quote q u.pieces u.rest u.valid u.end

-- a raw text that is open has no back quote
raw_open : (bytes : List ℕ) → (raw_length bytes == length bytes) ≡ true
    → list_all is_raw bytes ≡ true
raw_open bytes h =
    let taken : take (raw_length bytes) bytes ≡ bytes =
    ap (λ n. take n bytes) (eqb-true (raw_length bytes) (length bytes) h)
    ∙ take_all (length bytes) bytes (omega arith) in
    ap (list_all is_raw) (sym taken) ∙ list_all-take_prefix_len is_raw bytes

open_sound : (bytes : List ℕ) → opens_string bytes ≡ true → IsOpenString bytes
open_sound [] h = absurd (false≢true h)
open_sound (b ∷ bytes) h =
    elim (or_cases ((b == single_quote || b == double_quote) && is_unclosed b false bytes)
    (b == back_quote && raw_length bytes == length bytes) h) [
      | inl line ↦ let parts =
          and_parts (b == single_quote || b == double_quote) (is_unclosed b false bytes) line in
          inl (parts.0, sound b false bytes parts.1)
      | inr raw ↦ let parts = and_parts (b == back_quote) (raw_length bytes == length bytes) raw in
          inr (parts.0, raw_open bytes parts.1)
    ]

open_complete : (bytes : List ℕ) → IsOpenString bytes → opens_string bytes ≡ true
open_complete [] h = absurd (false≢true h)
open_complete (b ∷ bytes) h = elim h [
  | inl line ↦ or_left ((b == single_quote || b == double_quote) && is_unclosed b false bytes)
      (b == back_quote && raw_length bytes == length bytes)
      (and_from (b == single_quote || b == double_quote) (is_unclosed b false bytes) line.0
      (complete b bytes line.0 line.1))
  | inr raw ↦ or_right ((b == single_quote || b == double_quote) && is_unclosed b false bytes)
      (b == back_quote && raw_length bytes == length bytes)
      (and_from (b == back_quote) (raw_length bytes == length bytes) raw.0
      (eq-eqb (raw_length bytes) (length bytes)
      (place_whole (λ c. c == back_quote) bytes raw.1)))
]

-- no bytes begin both an open comment and an open string
pub apart : (rest : List ℕ) → IsOpenComment rest → IsOpenString rest → ⊥
apart rest comment string =
    let opens = open_complete rest string in
    let closed : opens_string rest ≡ false = ap opens_string comment.1 in
    both_ways (opens_string rest) closed opens

-- where "/*" begins and nothing stands, the comment has no end
slash_item : (rest : List ℕ) → item_shape (47 ∷ 42 ∷ rest) ≡ general_shape rest
unfolding item_shape
slash_item rest = refl

open_comment : (offset : ℕ) (bytes : List ℕ) → starts_with nat_eq bytes (codes "/*") ≡ true
    → shape_at (offset == 0) bytes ≡ None → IsOpenComment bytes
open_comment offset bytes begins nothing =
    let tail = drop 2 bytes in
    let split : bytes ≡ codes "/*" ++ tail = begins_split bytes (codes "/*") begins in
    let none : general_shape tail ≡ None =
    sym (slash_item tail)
    ∙ sym (past_mark (offset == 0) (47 ∷ 42 ∷ tail)
    (and_right (offset == 0) _ (no_mark-low 47 (42 ∷ tail) (λ e. omega arith))))
    ∙ ap (shape_at (offset == 0)) (sym split) ∙ nothing in
    (tail, split, general_none tail none)

no_comment : (bytes : List ℕ) → starts_with nat_eq bytes (codes "/*") ≡ false → IsOpenComment bytes
    → ⊥
no_comment bytes none comment =
    both_ways (starts_with nat_eq bytes (codes "/*")) none
    (ap (λ l. starts_with nat_eq l (codes "/*")) comment.1)

no_string : (bytes : List ℕ) → opens_string bytes ≡ false → IsOpenString bytes → ⊥
no_string bytes none string = both_ways (opens_string bytes) none (open_complete bytes string)

-- the fault that the program tells
pub fault_found : (bytes : List ℕ) (at : ℕ) → IsUtf8 bytes → IsStuckAt bytes at
    → shape_at (at == 0) (drop at bytes) ≡ None → ScanFault bytes (fault_at at (drop at bytes))
unfolding fault_at
fault_found bytes at valid stuck nothing =
    let rest = drop at bytes in
    elim (cases_Bool (starts_with nat_eq rest (codes "/*"))) [
      | inl comment ↦ rw comment (valid, stuck, open_comment at rest comment nothing)
      | inr other ↦ elim (cases_Bool (opens_string rest)) [
        | inl string ↦ rw (other, string) (valid, stuck, open_sound rest string)
        | inr none ↦
            rw (other, none) (
              valid,
              stuck,
              (λ c. no_comment rest other c),
              (λ s. no_string rest none s),
            )
      ]
    ]
