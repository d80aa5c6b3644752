-- Where an identifier of a reading begins, a character does, and the name that stands there is its
-- text.
use Rattle.std.proofs.Common.{◌≡◌, ℕ, ◌+◌, ◌-◌, ◌≤◌, Bool, true, false, cond, List, [], ◌∷◌, ◌++◌}
use Rattle.std.proofs.Common.{length, take, drop, IsUtf8, All, sym, ap, subst, ◌∙◌, refl, arith}
use Rattle.std.proofs.Common.{inl, inr, length-append}
use Rattle.std.specs.Prelude.{◌&&◌}
use Rattle.std.specs.Str.{IsCharBoundary, encode_utf8_all}
use Rattle.std.proofs.lemmas.Bool.{cases_Bool, false≢true}
use Rattle.std.proofs.lemmas.List.{take_at, drop_at, drop-drop, length-drop}
use Rattle.std.proofs.lemmas.List.Elements.{All-nil, All-cons}
use Rattle.std.proofs.lemmas.Str.{IsCharBoundary-from_drop}
use Rattle.go_ast.specs.declared.token.Token.{Token}
use Rattle.go_ast.specs.declared.token.Comment.{Comment}
use Rattle.go_ast.specs.declared.token.TokenKind.{TokenKind}
use Rattle.go_ast.specs.declared.token.TokenKind.TheVariants.{AutoSemi}
use Rattle.go_scanner.specs.declared.shape.Shape.TheVariants as shapes
use Rattle.go_ast.specs.Lexical.{Spelling, identifier, keyword, operator, integer, float, imaginary}
use Rattle.go_ast.specs.Lexical.{rune, text, raw_text, semicolon, Item, white_space}
use Rattle.go_ast.specs.Lexical.{byte_order_mark, line_comment, general_comment, spelled}
use Rattle.go_ast.specs.Lexical.{begins_number, print_item, print_spelling, Stands, IsSpelled}
use Rattle.go_ast.specs.Reading.{Leads, Reads, kind_of, line_ends, takes_semicolon, token_of}
use Rattle.go_ast.specs.Reading.{tokens_at, tokens_of}
use Rattle.go_ast.specs.Tokens.{is_ident, text_of}
use Rattle.go_scanner.specs.FrontWords.{word_at}
use Rattle.go_scanner.specs.Shapes.{length_of, word_shape}
use Rattle.go_scanner.proofs.ScanLaws.{utf8_after}
use Rattle.go_scanner.proofs.ScanLaws.{begins_word-identifier}
use Rattle.go_scanner.proofs.ScanLaws.{SpelledAt-IsSpelled, whole_run}
use Rattle.go_scanner.proofs.ScanLaws.{same_fronts}
use Rattle.go_scanner.proofs.ScanLaws.{front_split, name_found}
use Rattle.ident_index.specs.Postings.{name_at}

either_length : (b c d : Bool) (one other : TokenKind) (n : ℕ)
    → length_of (cond b (shapes.Token one c n) (shapes.Token other d n)) ≡ n
either_length true c d one other n = refl
either_length false c d one other n = refl

word_length : (word : List ℕ) → length_of (word_shape word) ≡ length word
unfolding word_shape
word_length word = either_length _ _ _ _ _ (length word)

-- the name at the front is the identifier that stands there
word_is : (characters after : List ℕ) → IsUtf8 (encode_utf8_all characters ++ after)
    → IsSpelled (identifier characters) after
    → word_at (encode_utf8_all characters ++ after) ≡ encode_utf8_all characters
word_is characters after utf8 stands =
    let bytes = encode_utf8_all characters ++ after in
    let at = SpelledAt-IsSpelled (identifier characters) after stands in
    let number : begins_number bytes ≡ false = elim (cases_Bool (begins_number bytes)) [
      | inl sure ↦ absurd (false≢true (whole_run bytes (identifier characters) after sure at).0)
      | inr never ↦ never
    ] in
    let word = begins_word-identifier characters after stands.valid.0 stands.valid.1 in
    let shape = name_found bytes utf8 word number (identifier characters) after at in
    let split = front_split bytes utf8 in
    same_fronts bytes (word_at bytes) (encode_utf8_all characters) split.0 after split.1 refl
    (sym (word_length (word_at bytes)) ∙ ap length_of shape)

-- a character begins where the token does, and its text is the name that stands there
pub record IsNamedAt (bytes : List ℕ) (token : Token) : Type 0 where
  pub begin : IsCharBoundary bytes token.span.start
  pub same : name_at bytes token.span.start ≡ text_of bytes token

abbrev pub IsNamedIdent : List ℕ → Token → Type 0
IsNamedIdent bytes token = is_ident token.kind ≡ true → IsNamedAt bytes token

-- the rest of some bytes from an offset on
record IsRest (bytes : List ℕ) (offset : ℕ) (rest : List ℕ) : Type 0 where
  within : offset ≤ length bytes
  here : drop offset bytes ≡ rest
  utf8 : IsUtf8 rest

spelled_named : (bytes : List ℕ) (start : ℕ) (spelling : Spelling) (after : List ℕ)
    → IsRest bytes start (print_spelling spelling ++ after)
    → IsSpelled spelling after → IsNamedIdent bytes
    (token_of (kind_of spelling) start (start + length (print_spelling spelling)))
spelled_named bytes start (identifier characters) after at stands ident =
    let printed = encode_utf8_all characters in
    let size : start + length printed - start ≡ length printed = omega arith in
    record {
      begin = IsCharBoundary-from_drop bytes start at.within (subst IsUtf8 (sym at.here) at.utf8);
      same = ap word_at at.here ∙ word_is characters after at.utf8 stands
          ∙ sym (ap (λ n. take n (drop start bytes)) size ∙ ap (take (length printed)) at.here
          ∙ take_at printed after (length printed) refl);
    }
spelled_named bytes start (keyword word) after at stands ident = absurd (false≢true ident)
spelled_named bytes start (operator mark) after at stands ident = absurd (false≢true ident)
spelled_named bytes start (integer literal) after at stands ident = absurd (false≢true ident)
spelled_named bytes start (float literal) after at stands ident = absurd (false≢true ident)
spelled_named bytes start (imaginary literal) after at stands ident = absurd (false≢true ident)
spelled_named bytes start (rune element) after at stands ident = absurd (false≢true ident)
spelled_named bytes start (text elements) after at stands ident = absurd (false≢true ident)
spelled_named bytes start (raw_text content) after at stands ident = absurd (false≢true ident)
spelled_named bytes start semicolon after at stands ident = absurd (false≢true ident)

semicolon_named : (b : Bool) (bytes : List ℕ) (end : ℕ) (later : List Token)
    → All (IsNamedIdent bytes) later
    → All (IsNamedIdent bytes) ((cond b (token_of AutoSemi end end ∷ []) []) ++ later)
semicolon_named true bytes end later h =
    All-cons (IsNamedIdent bytes) (token_of AutoSemi end end) later
    (λ ident. absurd (false≢true ident)) h
semicolon_named false bytes end later h = h

item_named : (bytes : List ℕ) (item : Item) (items : List Item) (start : ℕ) (after : List ℕ)
    (later : List Token)
    → IsRest bytes start (print_item item ++ after) → Stands start item after
    → All (IsNamedIdent bytes) later
    → All (IsNamedIdent bytes) (tokens_at start (start + length (print_item item)) item items ++
    later)
item_named bytes (white_space b) items start after later at stands h = h
item_named bytes byte_order_mark items start after later at stands h = h
item_named bytes (line_comment content) items start after later at stands h = h
item_named bytes (general_comment content) items start after later at stands h = h
item_named bytes (spelled spelling) items start after later at stands h =
    let end = start + length (print_spelling spelling) in
    All-cons (IsNamedIdent bytes) (token_of (kind_of spelling) start end) _
    (spelled_named bytes start spelling after at stands)
    (semicolon_named (takes_semicolon spelling && line_ends items) bytes end later h)

rest_past : (bytes printed after : List ℕ) (offset : ℕ) → IsRest bytes offset (printed ++ after)
    → IsUtf8 after
    → IsRest bytes (offset + length printed) after
rest_past bytes printed after offset at utf8 = record {
  within = omega (
    arith,
    ap length at.here,
    length-append printed after,
    length-drop offset bytes,
    at.within,
  );
  here = sym (drop-drop (length printed) offset bytes) ∙ ap (drop (length printed)) at.here
      ∙ drop_at printed after (length printed) refl;
  utf8 = utf8;
}

all_named : (bytes : List ℕ) (items : List Item) (offset : ℕ) (rest : List ℕ)
    → IsRest bytes offset rest → Leads offset items rest []
    → All (IsNamedIdent bytes) (tokens_of offset items)
all_named bytes [] offset rest at h = All-nil (IsNamedIdent bytes)
all_named bytes (item ∷ items) offset rest at h =
    let end = offset + length (print_item item) in
    let split = subst (IsRest bytes offset) h.1 at in
    let past = rest_past bytes (print_item item) h.0 offset split
    (utf8_after offset item h.0 h.2 split.utf8) in
    item_named bytes item items offset h.0 (tokens_of end items) split h.2
    (all_named bytes items end h.0 past h.3)

pub reading_named : (bytes : List ℕ) (tokens : List Token) (comments : List Comment)
    → Reads bytes tokens comments
    → All (IsNamedIdent bytes) tokens
reading_named bytes tokens comments read =
    subst (All (IsNamedIdent bytes)) (sym read.all_tokens)
    (all_named bytes read.items 0 bytes (record {
      within = omega arith;
      here = refl;
      utf8 =
          read.utf8;
    }) read.leads)
