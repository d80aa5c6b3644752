-- The declaration of a chunk, by the words that are read for it.
use Rattle.std.proofs.Common.{◌≡◌, ◌≢◌, ◌∙◌, sym, refl, subst, ℕ, ◌+◌, ◌<◌, ◌≤◌, Bool, true, false}
use Rattle.std.proofs.Common.{List, [], ◌∷◌, length, Option, Some, None, Result, Ok, Err, IfOk}
use Rattle.std.proofs.Common.{MatchOption, arith}
use Rattle.go_ast.specs.declared.declaration.Decl.{Decl}
use Rattle.go_ast.specs.declared.token.Token.{Token}
use Rattle.go_ast.specs.declared.token.TokenRange.{TokenRange}
use Rattle.go_ast.specs.declared.word.Word.{Word}
use Rattle.go_ast.specs.declared.word.Mark.{Mark}
use Rattle.go_ast.specs.declared.word.Mark.TheVariants as m
use Rattle.go_ast.specs.Cutting.{range_of}
use Rattle.go_ast.specs.Declarations.{IsDecl, Precedes}
use Rattle.go_ast.specs.Marks.{same_mark, words_of}
use Rattle.go_parser.specs.Bodies.{AreReadFor}
use Rattle.go_parser.specs.Reading.{read_by_keyword, read_decl, read_words}
use Rattle.go_parser.proofs.Bodies.{opening-is}
use Rattle.go_parser.proofs.DeclLaws.{decl-read, decl-sound, precedes-begins}
use Rattle.go_parser.proofs.WordRanges.{range, range-of-words, some-words}
use Rattle.type_parser.proofs.GrammarLaws.{differ_marks, marks_are}

by-keyword : (mark : Mark) → mark ≡ m.Func → (tokens : TokenRange) (us vs front : List Word)
    (body : Option TokenRange)
    → read_by_keyword mark tokens us front body ≡ read_by_keyword mark tokens vs front body
by-keyword mark is tokens us vs front body = rw is refl

words-decl : (w : Word) (ws front : List Word) (body : Option TokenRange)
    → AreReadFor (w ∷ ws) front body
    → read_words (range_of w ws) body front ≡ read_decl (w ∷ ws) front body
unfolding read_words read_decl
words-decl w ws front body a = go (same_mark w.mark m.Func) refl
  where
    go : (t : Bool) → same_mark w.mark m.Func ≡ t
        → read_words (range_of w ws) body front ≡ read_decl (w ∷ ws) front body
    go true h =
        let is = marks_are w.mark m.Func h in
        let begun = precedes-begins (w ∷ ws) front body w ws (a.0 is) refl in
        subst (λ us. read_words (range_of w ws) body us ≡ read_decl (w ∷ ws) us body) (sym begun.1)
        (by-keyword w.mark is (range_of w ws) begun.0 ws (w ∷ begun.0) body)
    go false h =
        subst (λ us. read_words (range_of w ws) body us ≡ read_decl (w ∷ ws) us body)
        (sym (a.1 (differ_marks w.mark m.Func h))) refl

abbrev pub Decides : {E : Type 0} → List Word → Result (Option Decl) E → Type 0
Decides ws r = IfOk r (λ o. MatchOption o ((x : Decl) → IsDecl ws x → ⊥) (λ x. IsDecl ws x))

answer : {E : Type 0} (w : Word) (ws front : List Word) (body : Option TokenRange)
    (r : Result (Option Decl) E) → AreReadFor (w ∷ ws) front body
    → IfOk r (λ o. o ≡ read_words (range_of w ws) body front) → Decides (w ∷ ws) r
answer w ws front body (Ok None) a h = λ x d.
    absurd (cc (h, words-decl w ws front body a, decl-read w ws front body x a.0 d))
answer w ws front body (Ok (Some x)) a h =
    decl-sound w ws front body x a.0 (sym (words-decl w ws front body a) ∙ sym h)
answer w ws front body (Err e) a h = tt

-- what is read for a chunk is what it declares
pub decl-answer : {E : Type 0} (source : List ℕ) (ts : List Token) (tokens : TokenRange)
    (front : List Word) (body : Option TokenRange) (r : Result (Option Decl) E)
    → tokens.first < tokens.after → tokens.after ≤ length ts
    → AreReadFor (words_of source ts tokens) front body
    → IfOk r (λ o. o ≡ read_words tokens body front) → Decides (words_of source ts tokens) r
decl-answer source ts tokens front body r some within a h =
    let words = some-words source ts tokens.first tokens.after some within in
    let whole = range-of-words source ts tokens.first tokens.after words.0 words.1
    (omega (arith, some)) within words.2 in
    subst (λ us. Decides us r) (sym words.2)
    (answer words.0 words.1 front body r (subst (λ us. AreReadFor us front body) words.2 a)
    (subst (λ t. IfOk r (λ o. o ≡ read_words t body front)) (sym whole) h))

module _ (source : List ℕ) (ts : List Token) (tokens : TokenRange) (first : Word)
    (some : tokens.first < tokens.after) (within : tokens.after ≤ length ts)
    (is : words_of source ts (range tokens.first (tokens.first + 1)) ≡ first ∷ []) where
  abbrev whole : List Word
  whole = words_of source ts tokens

  pub function-read : (front : List Word) (body : Option TokenRange) → first.mark ≡ m.Func
      → Precedes whole front body → AreReadFor whole front body
  function-read front body func p =
      let words = some-words source ts tokens.first tokens.after some within in
      let same = opening-is source ts tokens.first tokens.after first words.0 words.1 some within is
      words.2 in
      let here : words.0.mark ≡ m.Func = cc (same, func) in
      subst (λ us. AreReadFor us front body) (sym words.2)
      (λ e. subst (λ us. Precedes us front body) words.2 p, λ other. absurd (other here))

  pub other-read : first.mark ≢ m.Func → AreReadFor whole whole None
  other-read other =
      let words = some-words source ts tokens.first tokens.after some within in
      let same = opening-is source ts tokens.first tokens.after first words.0 words.1 some within is
      words.2 in
      let all : AreReadFor (words.0 ∷ words.1) (words.0 ∷ words.1) None =
      (λ e. absurd (other (cc (same, e))), λ e. refl) in
      subst (λ us. AreReadFor us us None) (sym words.2) all
