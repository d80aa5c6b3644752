-- Where marks may begin, and where they end.
use Rattle.std.proofs.Common.{◌≡◌, ℕ, zero, suc, ◌+◌, ◌<◌, ◌≤◌, true, false, List, []}
use Rattle.std.proofs.Common.{◌∷◌, ◌++◌, length, get_or, take, drop, Option, Some, None, refl, sym}
use Rattle.std.proofs.Common.{◌∙◌, ap, subst, arith, ⊎_elim, ◌==◌, ◌||◌, ◌&&◌, if◌then◌else◌}
use Rattle.std.proofs.Common.{IsUtf8}
use Rattle.std.specs.List.{last_or, list_all}
use Rattle.std.specs.Str.{IsCharBoundary}
use Rattle.std.proofs.lemmas.Bool.{and_left, and_parts, cases_lt, cond-false}
use Rattle.std.proofs.lemmas.Bool.{or_from, or_parts}
use Rattle.std.proofs.lemmas.List.{drop_more, get_or_append_left, get_or-append-add, get_or_at}
use Rattle.std.proofs.lemmas.List.{length-append, length-drop, length-take-le}
use Rattle.std.proofs.lemmas.Str.{IsCharBoundary-after_ascii}
use Rattle.comment_blocks.specs.declared.block.LinkDef.{LinkDef}
use Rattle.comment_links.specs.declared.found.Found.{Found}
use Rattle.comment_links.specs.Marks.{Mark, IsMark, IsQuote, closing_quote}
use Rattle.comment_links.specs.Marks.{is_address_byte, is_address_end, opening_quote}
use Rattle.comment_links.specs.InlinesOf.{address_at, defined_link, doc_link, found_at, or_else}
use Rattle.comment_links.specs.InlinesOf.{quote_at, quote_of}
use Rattle.comment_links.specs.InlineSteps.{HasNone, IsBegin, found_in, mark_of, may_begin}
use Rattle.comment_links.proofs.AddressEnds.{address_is_ascii}
use Rattle.comment_links.proofs.Lists.{found_len, here_from, none_more}

no_quote : (b : ℕ) (tail : List ℕ) → (b == 96) ≡ false → (b == 39) ≡ false
    → quote_at (b ∷ tail) ≡ None
no_quote b [] one two = refl
no_quote b (c ∷ after) one two =
    cond-false (b == 96 && c == 96) (Some (quote_of opening_quote))
    (if b == 39 && c == 39 then Some (quote_of closing_quote) else None)
    (and_left (b == 96) (c == 96) one)
    ∙ cond-false (b == 39 && c == 39) (Some (quote_of closing_quote)) None
    (and_left (b == 39) (c == 39) two)

-- no mark begins with another byte
no_begin : (links : List LinkDef) (address_of : List ℕ → Option (List ℕ)) (before : List ℕ) (b : ℕ)
    (tail : List ℕ) → may_begin b ≡ false → found_at links address_of before (b ∷ tail) ≡ None
unfolding found_at
no_begin links address_of before b tail isnt =
    let all = or_parts (((b == 91 || b == 104) || b == 102) || b == 96) (b == 39) isnt in
    let four = or_parts ((b == 91 || b == 104) || b == 102) (b == 96) all.0 in
    let three = or_parts (b == 91 || b == 104) (b == 102) four.0 in
    let two = or_parts (b == 91) (b == 104) three.0 in
    let address = address_at before (b ∷ tail) in
    let quote = quote_at (b ∷ tail) in
    cond-false (b == 91) (or_else (defined_link links tail) (doc_link address_of before tail))
    (if b == 104 || b == 102 then address else quote) two.0
    ∙ cond-false (b == 104 || b == 102) address quote
    (or_from (b == 104) (b == 102) two.1 three.1)
    ∙ no_quote b tail four.1 all.1

-- a text whose last byte is of ASCII
pub record EndsAscii (text : List ℕ) : Type 0 where
  pub n : ℕ
  pub len : length text ≡ suc n
  pub ascii : get_or text n 0 < 128

bracket_ends : (text : List ℕ) → EndsAscii (91 ∷ (text ++ 93 ∷ []))
bracket_ends text = record {
  n = suc (length text);
  len = omega (arith, length-append text (93 ∷ []));
  ascii = omega (arith, get_or_at text 93 [] 0 (length text) refl);
}

all_at : (bytes : List ℕ) (k : ℕ) → list_all is_address_byte bytes ≡ true → k < length bytes
    → is_address_byte (get_or bytes k 0) ≡ true
all_at [] k all within = absurd (omega arith)
all_at (b ∷ bytes) zero all within =
    (and_parts (is_address_byte b) (list_all is_address_byte bytes) all).0
all_at (b ∷ bytes) (suc k) all within =
    all_at bytes k (and_parts (is_address_byte b) (list_all is_address_byte bytes) all).1
    (omega arith)

address_ends_ascii : (scheme rest : List ℕ) → list_all is_address_byte rest ≡ true
    → 1 ≤ length rest → EndsAscii (scheme ++ rest)
address_ends_ascii scheme [] all some = absurd (omega arith)
address_ends_ascii scheme (x ∷ xs) all some = record {
  n = length scheme + length xs;
  len = omega (arith, length-append scheme (x ∷ xs));
  ascii = subst (λ b. b < 128) (sym (get_or-append-add scheme (x ∷ xs) (length xs) 0))
      (address_is_ascii (get_or (x ∷ xs) (length xs) 0) (all_at (x ∷ xs) (length xs) all
      (omega arith)));
}

some_last : (rest : List ℕ) → is_address_end (last_or None rest) ≡ true → 1 ≤ length rest
some_last [] is = cc
some_last (x ∷ xs) is = omega arith

mark_ends : (links : List LinkDef) (address_of : List ℕ → Option (List ℕ)) (mark : Mark)
    → IsMark links address_of mark → EndsAscii mark.written
mark_ends links address_of mark (IsMark.defined is) =
    subst EndsAscii (sym is.written) (bracket_ends is.text)
mark_ends links address_of mark (IsMark.doc none is) =
    subst EndsAscii (sym is.written) (bracket_ends is.body)
mark_ends links address_of mark (IsMark.address is) =
    subst EndsAscii (sym is.written)
    (address_ends_ascii is.scheme is.rest is.within (some_last is.rest is.last))
mark_ends links address_of mark (IsMark.quote (IsQuote.opening written inline)) =
    subst EndsAscii (sym written) (record { n = 1; len = refl; ascii = omega arith })
mark_ends links address_of mark (IsMark.quote (IsQuote.closing written inline)) =
    subst EndsAscii (sym written) (record { n = 1; len = refl; ascii = omega arith })

module _ (links : List LinkDef) (address_of : List ℕ → Option (List ℕ)) (text : List ℕ) where
  not_found : (place : ℕ) → place < length text → may_begin (get_or text place 0) ≡ false
      → found_in links address_of text place ≡ None
  not_found place within isnt =
      ap (λ t. found_at links address_of (take place text) t) (drop_more text place 0 within)
      ∙ no_begin links address_of (take place text) (get_or text place 0)
      (drop (place + 1) text) isnt

  -- no mark begins before the first place where one may
  pub none_to : (from place : ℕ) → IsBegin text from place
      → HasNone links address_of text from place
  none_to from place begin k behind before =
      not_found k (omega (arith, begin.within)) (begin.none k behind before)

  pub none_on : (from start place : ℕ) → start < length text
      → HasNone links address_of text from start
      → found_in links address_of text start ≡ None → IsBegin text (start + 1) place
      → HasNone links address_of text from place
  none_on from start place within before here begin k behind below = ⊎_elim
      (λ (earlier : k < start). before k behind earlier)
      (λ (later : start ≤ k).
      none_more links address_of text start place here (none_to (start + 1) place begin) k later
      below)
      (cases_lt k start)

  -- a text may be cut where a mark ends
  pub mark_cut : (place : ℕ) (found : Found) → IsUtf8 text → place ≤ length text
      → found_in links address_of text place ≡ Some found
      → IsCharBoundary text (place + found.len)
  mark_cut place found utf8 within is =
      let mark = mark_of (take place text) (drop place text) found in
      let here = here_from links address_of text place found is in
      let ends = mark_ends links address_of mark here.rule in
      let fits = found_len links address_of text place found within is in
      let at : length (take place text) ≡ place = length-take-le place text within in
      let len : length mark.written ≡ found.len =
      length-take-le found.len (drop place text)
      (omega (arith, length-drop place text, fits.1)) in
      let byte : get_or text (place + ends.n) 0 ≡ get_or mark.written ends.n 0 =
      ap (λ t. get_or t (place + ends.n) 0) here.whole
      ∙ ap (λ n. get_or (mark.before ++ (mark.written ++ mark.after)) (n + ends.n) 0) (sym at)
      ∙ get_or-append-add mark.before (mark.written ++ mark.after) ends.n 0
      ∙ get_or_append_left mark.written mark.after 0 ends.n (omega (arith, ends.len)) in
      let next : place + ends.n + 1 ≡ place + found.len = omega (arith, ends.len, len) in
      subst (IsCharBoundary text) next
      (IsCharBoundary-after_ascii text (place + ends.n) utf8
      (omega (arith, ends.len, len, fits.1)) (omega (arith, byte, ends.ascii)))
