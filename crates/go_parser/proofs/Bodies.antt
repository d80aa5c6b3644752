-- Which body ends the words of a chunk.
use Rattle.std.proofs.Common.{◌≡◌, ◌≢◌, ◌∙◌, ap, sym, refl, subst, ℕ, ◌+◌, ◌-◌, ◌<◌, ◌≤◌, true}
use Rattle.std.proofs.Common.{false}
use Rattle.std.proofs.Common.{List, [], ◌∷◌, ◌++◌, length, Option, Some, None, ◌⊎◌, inl, inr}
use Rattle.std.proofs.Common.{⊎_elim}
use Rattle.std.proofs.Common.{arith}
use Rattle.std.proofs.lemmas.Grind.{common_steps}
use Rattle.go_ast.specs.declared.token.Token.{Token}
use Rattle.go_ast.specs.declared.token.TokenRange.{TokenRange}
use Rattle.go_ast.specs.declared.word.Word.{Word}
use Rattle.go_ast.specs.declared.word.Mark.TheVariants as m
use Rattle.go_ast.specs.Cutting.{Nests, closing_of, range_of}
use Rattle.go_ast.specs.Declarations as g
use Rattle.go_ast.specs.Declarations.{EndsInBody, Precedes, takes_braces}
use Rattle.go_ast.specs.Marks.{closes, opens, words_of}
use Rattle.go_parser.specs.ChunkFacts as facts
use Rattle.go_parser.specs.ChunkFacts.{IsOpened}
use Rattle.go_parser.proofs.DeclLaws.{apart, one-opening, snoc-same}
use Rattle.go_parser.proofs.WordRanges.{range, range-of-words, words-split}

-- the last word closes nothing
not-closed : (us front f : List Word) (last : Word) (t : TokenRange) → EndsInBody us f t
    → us ≡ front ++ last ∷ [] → closes last.mark ≡ false → ⊥
not-closed _ front _ last _ (g.braces f before o inner c t p q n) e h =
    let whole = sym (apart f before o inner c) ∙ e in
    let parts = snoc-same ((f ++ before ∷ []) ++ o ∷ inner) front c last whole in
    let closed = ap (λ w. closes w.mark) (sym parts.1) ∙ ap closes q in
    absurd (cc (closed, h))

pub no-close : (ws front : List Word) (last : Word) → ws ≡ front ++ last ∷ []
    → closes last.mark ≡ false → Precedes ws ws None
no-close ws front last e h = g.without_body (λ f t b. not-closed ws front f last t b e h)

nonempty : (f : List Word) (before : Word) → f ++ before ∷ [] ≡ [] → ⊥
nonempty [] before e = absurd (cc)
nonempty (w ∷ f) before e = absurd (cc)

-- nothing stands before the bracket
not-first : (us f inner : List Word) (o c : Word) (t : TokenRange) → EndsInBody us f t
    → us ≡ o ∷ inner ++ c ∷ [] → opens o.mark ≡ true → Nests 0 inner → ⊥
not-first _ _ inner o c _ (g.braces f before o2 inner2 c2 t p q n) e h k =
    let whole = sym (apart f before o2 inner2 c2) ∙ e in
    let parts = snoc-same ((f ++ before ∷ []) ++ o2 ∷ inner2) (o ∷ inner) c2 c whole in
    let one = one-opening (f ++ before ∷ []) [] o2 o inner2 inner (ap opens p) h n k parts.0 in
    nonempty f before one.0

pub no-before : (ws inner : List Word) (o c : Word) → ws ≡ o ∷ inner ++ c ∷ []
    → opens o.mark ≡ true → Nests 0 inner → Precedes ws ws None
no-before ws inner o c e h k = g.without_body (λ f t b. not-first ws f inner o c t b e h k)

-- a body opens with this bracket after this word
same-body : (us front f inner : List Word) (before o c : Word) (t : TokenRange) → EndsInBody us f t
    → us ≡ front ++ before ∷ o ∷ inner ++ c ∷ [] → opens o.mark ≡ true → Nests 0 inner
    → (takes_braces before ≡ false) × (o.mark ≡ m.OpenBrace)
same-body _ front _ inner before o c _ (g.braces f before2 o2 inner2 c2 t p q n) e h k =
    let whole = sym (apart f before2 o2 inner2 c2) ∙ e ∙ apart front before o inner c in
    let parts = snoc-same ((f ++ before2 ∷ []) ++ o2 ∷ inner2) ((front ++ before ∷ []) ++ o ∷ inner)
    c2 c whole in
    let one = one-opening (f ++ before2 ∷ []) (front ++ before ∷ []) o2 o inner2 inner (ap opens p)
    h n k parts.0 in
    let last = snoc-same f front before2 before one.0 in
    (ap takes_braces (sym last.1) ∙ t, ap (λ w. w.mark) (sym one.1) ∙ p)

no-body : (ws front inner : List Word) (before o c : Word)
    → ws ≡ front ++ before ∷ o ∷ inner ++ c ∷ [] → opens o.mark ≡ true → Nests 0 inner
    → (takes_braces before ≡ true) ⊎ (o.mark ≢ m.OpenBrace) → Precedes ws ws None
no-body ws front inner before o c e h k other = g.without_body (λ f t b.
    let same = same-body ws front f inner before o c t b e h k in
    ⊎_elim (λ takes. absurd (cc (takes, same.0))) (λ differs. differs same.1) other)

-- the words of a range around a place
around : (source : List ℕ) (ts : List Token) (a p c : ℕ) (before : Word) → a < p → p ≤ c
    → c ≤ length ts → words_of source ts (range (p - 1) ((p - 1) + 1)) ≡ before ∷ []
    → (words_of source ts (range a p) ≡ words_of source ts (range a (p - 1)) ++ before ∷ [])
    × (words_of source ts (range a c)
    ≡ (words_of source ts (range a (p - 1)) ++ before ∷ []) ++ words_of source ts (range p c))
around source ts a p c before h k l e =
    let back : (p - 1) + 1 ≡ p = omega (arith, h) in
    let one : words_of source ts (range (p - 1) p) ≡ before ∷ [] =
    ap (λ n. words_of source ts (range (p - 1) n)) (sym back) ∙ e in
    let front = words-split source ts a (p - 1) p (omega (arith, h)) (omega arith)
    (omega (arith, k, l)) ∙ ap (λ ws. words_of source ts (range a (p - 1)) ++ ws) one in (
      front,
      words-split source ts a p c (omega (arith, h)) k l
          ∙ ap (λ ws. ws ++ words_of source ts (range p c)) front,
    )

joined : (ws front back : List Word) (before o : Word) (inner : List Word) (c : Word)
    → ws ≡ (front ++ before ∷ []) ++ back → back ≡ o ∷ inner ++ c ∷ []
    → ws ≡ front ++ before ∷ o ∷ inner ++ c ∷ []
joined ws front back before o inner c e is = rw (e, is) (grind (arith, common_steps))

-- the first word from a place on
pub opening-is : (source : List ℕ) (ts : List Token) (p c : ℕ) (opening o : Word) (us : List Word)
    → p < c → c ≤ length ts → words_of source ts (range p (p + 1)) ≡ opening ∷ []
    → words_of source ts (range p c) ≡ o ∷ us → opening ≡ o
opening-is source ts p c opening o us h l one all =
    let parts = words-split source ts p (p + 1) c (omega arith) (omega (arith, h)) l in
    let begun : opening ∷ words_of source ts (range (p + 1) c) ≡ o ∷ us =
    sym (parts ∙ ap (λ ws. ws ++ words_of source ts (range (p + 1) c)) one) ∙ all in
    cc begun

module _ (source : List ℕ) (ts : List Token) (tokens : TokenRange) (p : ℕ) (before opening : Word)
    (within : tokens.after ≤ length ts) (later : tokens.first < p)
    (first : words_of source ts (range (p - 1) ((p - 1) + 1)) ≡ before ∷ [])
    (second : words_of source ts (range p (p + 1)) ≡ opening ∷ []) where
  abbrev whole : List Word
  whole = words_of source ts tokens

  pub body-is : IsOpened source ts tokens (Some p) → opening.mark ≡ m.OpenBrace
      → takes_braces before ≡ false
      → Precedes whole (words_of source ts (range tokens.first p)) (Some (range p tokens.after))
  body-is (facts.bracket _ o c inner begun ended is h closed n) brace free =
      let cut = around source ts tokens.first p tokens.after before later (omega (arith, ended))
      within first in
      let same = opening-is source ts p tokens.after opening o (inner ++ c ∷ []) ended within second
      is in
      let here : o.mark ≡ m.OpenBrace = ap (λ w. w.mark) (sym same) ∙ brace in
      let close : c.mark ≡ m.CloseBrace = closed ∙ ap closing_of here in
      let front = words_of source ts (range tokens.first (p - 1)) in
      let all : whole ≡ front ++ before ∷ o ∷ inner ++ c ∷ [] =
      joined whole front (words_of source ts (range p tokens.after)) before o inner c cut.1 is in
      let there = range-of-words source ts p tokens.after o (inner ++ c ∷ []) (omega (arith, ended))
      within is in
      subst (λ t. Precedes whole (words_of source ts (range tokens.first p)) (Some t)) there
      (subst (λ us. Precedes whole us (Some (range_of o (inner ++ c ∷ [])))) (sym cut.0)
      (subst (λ us. Precedes us (front ++ before ∷ []) (Some (range_of o (inner ++ c ∷ []))))
      (sym all) (g.with_body (g.braces front before o inner c free here close n))))

  pub body-is-not : IsOpened source ts tokens (Some p)
      → (takes_braces before ≡ true) ⊎ (opening.mark ≢ m.OpenBrace) → Precedes whole whole None
  body-is-not (facts.bracket _ o c inner begun ended is h closed n) other =
      let cut = around source ts tokens.first p tokens.after before later (omega (arith, ended))
      within first in
      let same = opening-is source ts p tokens.after opening o (inner ++ c ∷ []) ended within second
      is in
      let front = words_of source ts (range tokens.first (p - 1)) in
      let all : whole ≡ front ++ before ∷ o ∷ inner ++ c ∷ [] =
      joined whole front (words_of source ts (range p tokens.after)) before o inner c cut.1 is in
      no-body whole front inner before o c all h n
      (⊎_elim (λ takes. inl takes)
      (λ differs. inr (λ e. differs (ap (λ w. w.mark) same ∙ e))) other)

-- a chunk whose last token closes nothing, or the first one
pub nothing-opened : (source : List ℕ) (ts : List Token) (tokens : TokenRange)
    → IsOpened source ts tokens None → Precedes (words_of source ts tokens)
    (words_of source ts tokens) None
nothing-opened source ts tokens (facts.nothing front last e h) =
    no-close (words_of source ts tokens) front last e h

pub first-opened : (source : List ℕ) (ts : List Token) (tokens : TokenRange) (p : ℕ)
    → IsOpened source ts tokens (Some p) → p ≤ tokens.first
    → Precedes (words_of source ts tokens) (words_of source ts tokens) None
first-opened source ts tokens p (facts.bracket _ o c inner begun ended is h closed n) k =
    let same : p ≡ tokens.first = omega (arith, begun, k) in
    no-before (words_of source ts tokens) inner o c
    (ap (λ a. words_of source ts (range a tokens.after)) (sym same) ∙ is) h n
