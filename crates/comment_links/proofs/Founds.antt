-- What the plain program finds at a place are exactly the marks there.
use Rattle.std.proofs.Common.{◌≡◌, ℕ, ◌+◌, ◌≤◌, true, false, List, [], ◌∷◌}
use Rattle.std.proofs.Common.{◌++◌, length, Option, Some, None, refl, sym, ◌∙◌, ap}
use Rattle.std.proofs.Common.{subst, ⊎_elim, arith, if◌then◌else◌, ◌==◌, ◌||◌, ◌&&◌, codes}
use Rattle.std.proofs.Common.{append_assoc}
use Rattle.std.proofs.lemmas.Bool.{and_parts, cases_Bool, cond-false, cond-true, eqb-true}
use Rattle.std.proofs.lemmas.List.{take-append-drop}
use Rattle.comment_blocks.specs.declared.block.LinkDef.{LinkDef}
use Rattle.comment_links.specs.declared.found.Found.{Found}
use Rattle.comment_links.specs.declared.part.Inline.{Inline}
use Rattle.comment_links.specs.declared.part.Inline.TheVariants as inlines
use Rattle.comment_links.specs.Marks.{Mark, BeginTogether, IsAddress, IsDefinedLink, IsDocLink}
use Rattle.comment_links.specs.Marks.{IsMark, IsQuote, IsScheme, closing_quote, opening_quote}
use Rattle.comment_links.specs.InlinesOf.{address_at, defined_link, doc_link, found_at, or_else}
use Rattle.comment_links.specs.InlinesOf.{quote_at, quote_of, self_link}
use Rattle.comment_links.specs.InlineSteps.{found_of, mark_of}
use Rattle.comment_links.proofs.Halves.{bracket_len, bracket_whole}
use Rattle.comment_links.proofs.BracketLinks.{defined_found, defined_sound, doc_found, doc_sound}
use Rattle.comment_links.proofs.AddressMarks.{address_sound, either_found, ftp_found, http_found}
use Rattle.comment_links.proofs.AddressMarks.{https_found}

-- what is found as a quote is one
quote_sound : (before text : List ℕ) (found : Found) → quote_at text ≡ Some found
    → IsQuote (mark_of before text found)
quote_sound before [] found answer = cc
quote_sound before (a ∷ []) found answer = cc
quote_sound before (a ∷ b ∷ after) found answer =
    let two = a == 96 && b == 96 in
    let other = if a == 39 && b == 39 then Some (quote_of closing_quote) else None in
    ⊎_elim
    (λ (yes : two ≡ true).
    let parts = and_parts (a == 96) (b == 96) yes in
    let written : a ∷ b ∷ [] ≡ 96 ∷ 96 ∷ [] =
    ap (λ n. n ∷ b ∷ []) (eqb-true a 96 parts.0) ∙ ap (λ n. 96 ∷ n ∷ []) (eqb-true b 96 parts.1) in
    let is : ◌≡◌ {A = Option Found} (Some (quote_of opening_quote)) (Some found) =
    sym (cond-true two (Some (quote_of opening_quote)) other yes) ∙ answer in
    let same : quote_of opening_quote ≡ found = cc in
    subst (λ f. IsQuote (mark_of before (a ∷ b ∷ after) f)) same (IsQuote.opening written refl))
    (λ (no : two ≡ false).
    let rest : other ≡ Some found =
    sym (cond-false two (Some (quote_of opening_quote)) other no) ∙ answer in
    ⊎_elim
    (λ (yes : (a == 39 && b == 39) ≡ true).
    let parts = and_parts (a == 39) (b == 39) yes in
    let written : a ∷ b ∷ [] ≡ 39 ∷ 39 ∷ [] =
    ap (λ n. n ∷ b ∷ []) (eqb-true a 39 parts.0) ∙ ap (λ n. 39 ∷ n ∷ []) (eqb-true b 39 parts.1) in
    let is : ◌≡◌ {A = Option Found} (Some (quote_of closing_quote)) (Some found) =
    sym (cond-true (a == 39 && b == 39) (Some (quote_of closing_quote)) None yes) ∙ rest in
    let same : quote_of closing_quote ≡ found = cc in
    subst (λ f. IsQuote (mark_of before (a ∷ b ∷ after) f)) same (IsQuote.closing written refl))
    (λ (none : (a == 39 && b == 39) ≡ false).
    let nothing : ◌≡◌ {A = Option Found} None (Some found) =
    sym (cond-false (a == 39 && b == 39) (Some (quote_of closing_quote)) None none) ∙ rest in cc)
    (cases_Bool (a == 39 && b == 39)))
    (cases_Bool two)

found_same : (mark : Mark) (found : Found) → mark.inline ≡ found.inline
    → length mark.written ≡ found.len → Some found ≡ Some (found_of mark)
found_same mark found inline len =
    ap (λ (i : Inline). Some (record { inline = i; len = found.len })) (sym inline)
    ∙ ap (λ (n : ℕ). Some (record { inline = mark.inline; len = n })) (sym len)

none_from : (o : Option Found) → ((found : Found) → o ≡ Some found → ⊥) → o ≡ None
none_from None none = refl
none_from (Some found) none = absurd (none found refl)

module _ (links : List LinkDef) (address_of : List ℕ → Option (List ℕ)) where
  no_defined : (mark other : Mark) (tail : List ℕ) → defined_link links tail ≡ None
      → mark.written ++ mark.after ≡ 91 ∷ tail → BeginTogether other mark
      → IsDefinedLink links other → ⊥
  no_defined mark other tail none whole together is =
      let there : 91 ∷ (is.text ++ 93 ∷ other.after) ≡ 91 ∷ tail =
      sym (bracket_whole is.text other.after)
      ∙ ap (λ t. t ++ other.after) (sym is.written) ∙ together.rest ∙ whole in
      let same : is.text ++ 93 ∷ other.after ≡ tail = cc in
      let found = defined_found links is.text is.url other.after is.no_bracket is.defined in
      let nothing : ◌≡◌ {A = Option Found} None
      (Some (record { inline = inlines.Link is.text is.url; len = length is.text + 2 })) =
      sym none ∙ ap (defined_link links) (sym same) ∙ found in
      cc

  bracket_sound : (before tail : List ℕ) (found : Found)
      → or_else (defined_link links tail) (doc_link address_of before tail) ≡ Some found
      → IsMark links address_of (mark_of before (91 ∷ tail) found)
  bracket_sound before tail found answer =
      let mark = mark_of before (91 ∷ tail) found in
      either_found (defined_link links tail) (doc_link address_of before tail) found
      (IsMark links address_of mark) answer
      (λ is. IsMark.defined (defined_sound links before tail found is))
      (λ none is. IsMark.doc
      (λ other together. no_defined mark other tail none
      (take-append-drop found.len (91 ∷ tail)) together)
      (doc_sound address_of before tail found is))

  -- what is found is a mark
  pub found_sound : (before text : List ℕ) (found : Found)
      → found_at links address_of before text ≡ Some found
      → IsMark links address_of (mark_of before text found)
  unfolding found_at
  found_sound before [] found answer = cc
  found_sound before (b ∷ tail) found answer =
      let bracket = or_else (defined_link links tail) (doc_link address_of before tail) in
      let quote = quote_at (b ∷ tail) in
      let address = address_at before (b ∷ tail) in
      let other = if b == 104 || b == 102 then address else quote in
      ⊎_elim
      (λ (yes : (b == 91) ≡ true).
      subst (λ n. IsMark links address_of (mark_of before (n ∷ tail) found))
      (sym (eqb-true b 91 yes))
      (bracket_sound before tail found (sym (cond-true (b == 91) bracket other yes) ∙ answer)))
      (λ (no : (b == 91) ≡ false).
      let rest : other ≡ Some found = sym (cond-false (b == 91) bracket other no) ∙ answer in
      ⊎_elim
      (λ (yes : (b == 104 || b == 102) ≡ true).
      IsMark.address (address_sound before (b ∷ tail) found
      (sym (cond-true (b == 104 || b == 102) address quote yes) ∙ rest)))
      (λ (none : (b == 104 || b == 102) ≡ false).
      IsMark.quote (quote_sound before (b ∷ tail) found
      (sym (cond-false (b == 104 || b == 102) address quote none) ∙ rest)))
      (cases_Bool (b == 104 || b == 102)))
      (cases_Bool (b == 91))

  defined_there : (mark : Mark) → IsDefinedLink links mark
      → found_at links address_of mark.before (mark.written ++ mark.after) ≡ Some (found_of mark)
  unfolding found_at
  defined_there mark is =
      let tail = is.text ++ 93 ∷ mark.after in
      let link : Found = record {
        inline = inlines.Link is.text is.url;
        len =
            length is.text + 2;
      } in
      let at : found_at links address_of mark.before (91 ∷ tail) ≡ Some link =
      ap (λ o. or_else o (doc_link address_of mark.before tail))
      (defined_found links is.text is.url mark.after is.no_bracket is.defined) in
      ap (λ t. found_at links address_of mark.before (t ++ mark.after)) is.written
      ∙ ap (found_at links address_of mark.before) (bracket_whole is.text mark.after)
      ∙ at ∙ found_same mark link is.inline (ap length is.written ∙ bracket_len is.text)

  doc_there : (mark : Mark)
      → ((other : Mark) → BeginTogether other mark → IsDefinedLink links other → ⊥)
      → IsDocLink address_of mark
      → found_at links address_of mark.before (mark.written ++ mark.after) ≡ Some (found_of mark)
  unfolding found_at
  doc_there mark none is =
      let tail = is.body ++ 93 ∷ mark.after in
      let link : Found = record {
        inline = inlines.Link is.body is.href;
        len =
            length is.body + 2;
      } in
      let whole : mark.written ++ mark.after ≡ 91 ∷ tail =
      ap (λ t. t ++ mark.after) is.written ∙ bracket_whole is.body mark.after in
      let undefined : defined_link links tail ≡ None =
      none_from (defined_link links tail) (λ found answer.
      none (mark_of mark.before (91 ∷ tail) found)
      (record {
        before = refl;
        rest = take-append-drop found.len (91 ∷ tail) ∙ sym whole;
      })
      (defined_sound links mark.before tail found answer)) in
      let at : found_at links address_of mark.before (91 ∷ tail) ≡ Some link =
      ap (λ o. or_else o (doc_link address_of mark.before tail)) undefined
      ∙ doc_found address_of mark.before is.body is.href mark.after is.no_closing is.free_before
      is.free_after is.address in
      ap (found_at links address_of mark.before) whole
      ∙ at ∙ found_same mark link is.inline (ap length is.written ∙ bracket_len is.body)

  address_whole : (mark : Mark) (is : IsAddress mark) (scheme : List ℕ) → is.scheme ≡ scheme
      → mark.written ++ mark.after ≡ scheme ++ (is.rest ++ mark.after)
  address_whole mark is scheme same =
      ap (λ t. t ++ mark.after) is.written
      ∙ append_assoc is.scheme is.rest mark.after
      ∙ ap (λ t. t ++ (is.rest ++ mark.after)) same

  address_same : (mark : Mark) (is : IsAddress mark) (scheme : List ℕ) → is.scheme ≡ scheme
      → Some (self_link (scheme ++ is.rest)) ≡ Some (found_of mark)
  address_same mark is scheme same =
      ap (λ t. Some (self_link (t ++ is.rest))) (sym same)
      ∙ ap (λ t. Some (self_link t)) (sym is.written)
      ∙ found_same mark (self_link mark.written) is.inline refl

  address_there : (mark : Mark) (is : IsAddress mark) → IsScheme is.scheme
      → found_at links address_of mark.before (mark.written ++ mark.after) ≡ Some (found_of mark)
  unfolding found_at
  address_there mark is (IsScheme.http same) =
      ap (found_at links address_of mark.before) (address_whole mark is (codes "http://") same)
      ∙ http_found mark.before is.rest mark.after is.free_before is.within is.last is.longest
      ∙ address_same mark is (codes "http://") same
  address_there mark is (IsScheme.https same) =
      ap (found_at links address_of mark.before) (address_whole mark is (codes "https://") same)
      ∙ https_found mark.before is.rest mark.after is.free_before is.within is.last is.longest
      ∙ address_same mark is (codes "https://") same
  address_there mark is (IsScheme.ftp same) =
      ap (found_at links address_of mark.before) (address_whole mark is (codes "ftp://") same)
      ∙ ftp_found mark.before is.rest mark.after is.free_before is.within is.last is.longest
      ∙ address_same mark is (codes "ftp://") same

  quote_there : (mark : Mark) → IsQuote mark
      → found_at links address_of mark.before (mark.written ++ mark.after) ≡ Some (found_of mark)
  unfolding found_at
  quote_there mark (IsQuote.opening written inline) =
      ap (λ t. found_at links address_of mark.before (t ++ mark.after)) written
      ∙ found_same mark (quote_of opening_quote) inline (ap length written)
  quote_there mark (IsQuote.closing written inline) =
      ap (λ t. found_at links address_of mark.before (t ++ mark.after)) written
      ∙ found_same mark (quote_of closing_quote) inline (ap length written)

  -- a mark is found
  pub mark_found : (mark : Mark) → IsMark links address_of mark
      → found_at links address_of mark.before (mark.written ++ mark.after) ≡ Some (found_of mark)
  mark_found mark (IsMark.defined is) = defined_there mark is
  mark_found mark (IsMark.doc none is) = doc_there mark none is
  mark_found mark (IsMark.address is) = address_there mark is is.known
  mark_found mark (IsMark.quote is) = quote_there mark is

  scheme_some : (mark : Mark) (is : IsAddress mark) → IsScheme is.scheme
      → 1 ≤ length mark.written
  scheme_some mark is (IsScheme.http same) =
      subst (λ t. 1 ≤ length t)
      (sym (is.written ∙ ap (λ t. t ++ is.rest) same)) (omega arith)
  scheme_some mark is (IsScheme.https same) =
      subst (λ t. 1 ≤ length t)
      (sym (is.written ∙ ap (λ t. t ++ is.rest) same)) (omega arith)
  scheme_some mark is (IsScheme.ftp same) =
      subst (λ t. 1 ≤ length t)
      (sym (is.written ∙ ap (λ t. t ++ is.rest) same)) (omega arith)

  -- a mark has a byte
  pub mark_some : (mark : Mark) → IsMark links address_of mark → 1 ≤ length mark.written
  mark_some mark (IsMark.defined is) =
      subst (λ t. 1 ≤ length t) (sym is.written) (omega arith)
  mark_some mark (IsMark.doc none is) =
      subst (λ t. 1 ≤ length t) (sym is.written) (omega arith)
  mark_some mark (IsMark.address is) = scheme_some mark is is.known
  mark_some mark (IsMark.quote (IsQuote.opening written inline)) =
      subst (λ t. 1 ≤ length t) (sym written) (omega arith)
  mark_some mark (IsMark.quote (IsQuote.closing written inline)) =
      subst (λ t. 1 ≤ length t) (sym written) (omega arith)
