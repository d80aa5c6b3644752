-- The two seats at a word, taken out and put back.
use Rattle.std.proofs.Common.{◌≡◌, ℕ, ◌+◌, List, [], ◌∷◌, ◌++◌, length, All, sym, ap, ◌∙◌, subst}
use Rattle.std.proofs.Common.{arith, length-append}
use Rattle.std.specs.Prelude.{Some}
use Rattle.std.proofs.lemmas.List.Elements.{All-pop, All-push, All-weaker}
use Rattle.piece_crew.specs.Claims.{AreAllSeats, AreMade, Seat, Word, fresh}

pub put_back : (total : ℕ) (made mid rest one all : List Seat) (a b now_a now_b : Seat)
    → AreMade total 2 made → made ≡ mid ++ b ∷ [] → mid ≡ rest ++ a ∷ []
    → now_a.word ≡ a.word → now_b.word ≡ b.word → one ≡ rest ++ now_a ∷ [] → all ≡ one ++ now_b ∷ []
    → AreAllSeats all
put_back total made mid rest one all a b now_a now_b new cut cut' same_a same_b put put' =
    let word = new.word in
    let IsFresh : Seat → Type 0 = λ seat. seat ≡ fresh word in
    let IsAt : Seat → Type 0 = λ seat. seat.word ≡ word in
    let word_of : Seat → Word = λ seat. seat.word in
    let last = All-pop IsFresh made mid (Some b) cut new.each in
    let first = All-pop IsFresh mid rest (Some a) cut' last.0 in
    let others = All-weaker IsFresh IsAt (λ seat same. ap word_of same) rest first.0 in
    let at_one = All-push IsAt rest now_a others (same_a ∙ ap word_of first.1) in
    let at_all = All-push IsAt (rest ++ now_a ∷ []) now_b at_one (same_b ∙ ap word_of last.1) in
    let long : length made ≡ length rest + 1 + 1 = ap length cut ∙ length-append mid (b ∷ [])
    ∙ ap (λ n. n + 1) (ap length cut' ∙ length-append rest (a ∷ [])) in
    let whole : all ≡ (rest ++ now_a ∷ []) ++ now_b ∷ [] = put'
    ∙ ap (λ seats. seats ++ now_b ∷ []) put in
    let long' : length all ≡ length rest + 1 + 1 = ap length whole
    ∙ length-append (rest ++ now_a ∷ []) (now_b ∷ [])
    ∙ ap (λ n. n + 1) (length-append rest (now_a ∷ [])) in
    let two = new.all in
    let seats = new.made in
    record {
      word = word;
      some = omega arith;
      all = omega arith;
      each = subst (All IsAt) (sym whole)
          at_all;
    }
