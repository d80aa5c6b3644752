-- All the seats of a claim word, while they are joined one after another.
use Rattle.std.proofs.Common.{◌≡◌, ℕ, ◌+◌, ◌<◌, List, [], ◌∷◌, ◌++◌, length, All, sym, ap, ◌∙◌, arith, length-append}
use Rattle.std.specs.Prelude.{Some}
use Rattle.std.proofs.lemmas.List.Elements.{All-pop, All-weaker}
use Rattle.atomic_table.specs.Seated.{TableId}
use Rattle.piece_crew.specs.declared.rule.View.{View}
use Rattle.piece_crew.specs.Claims.{AreAllSeats, HasEnded, Seat, Word, claims_of, times}
use Rattle.piece_crew.specs.Rule.{joined, seat_of}
use Rattle.piece_crew.proofs.Counting.{times-append}

-- a view stands for the seats that aren't left
pub record IsJoined (all rest : List Seat) (id : TableId) (v : View) : Type 0 where
  pub word : All (λ (seat : Seat). seat.word ≡ (seat_of id v).word) rest
  pub total : All (λ (seat : Seat). seat.word.total ≡ v.total) all
  pub some : 0 < v.seats
  pub count : length rest + v.seats ≡ v.made
  pub claims : (x : ℕ) → times x (claims_of rest) + times x v.claimed ≡ times x (claims_of all)
  pub ended : All HasEnded all → 0 < length v.past

times_claims-push : (x : ℕ) (seats : List Seat) (seat : Seat) → times x (claims_of (seats ++ seat ∷ [])) ≡ times x (claims_of seats) + times x seat.claimed
times_claims-push x [] seat = omega (arith, times-append x seat.claimed [])
times_claims-push x (s ∷ ss) seat =
    omega (arith, times-append x s.claimed (claims_of (ss ++ seat ∷ [])), times-append x s.claimed (claims_of ss), times_claims-push x ss seat)

pub joined_first : (all rest : List Seat) (id : TableId) (v : View) → AreAllSeats all → all ≡ rest ++ seat_of id v ∷ [] → v.seats ≡ 1 → IsJoined all rest id v
joined_first all rest id v whole cut one =
    let last = seat_of id v in
    let IsOfWord : Seat → Type 0 = λ seat. seat.word ≡ whole.word in
    let words = All-pop IsOfWord all rest (Some last) cut whole.each in
    let its : last.word ≡ whole.word = words.1 in
    let long : length all ≡ length rest + 1 = ap length cut ∙ length-append rest (last ∷ []) in
    let made : v.made ≡ whole.word.seats = ap (λ (w : Word). w.seats) its in
    let all' = whole.all in
    record {
      word = All-weaker IsOfWord (λ seat. seat.word ≡ last.word) (λ seat same. same ∙ sym its) rest words.0;
      total = All-weaker IsOfWord (λ seat. seat.word.total ≡ v.total) (λ seat same. ap (λ (w : Word). w.total) (same ∙ sym its)) all whole.each;
      some = omega arith;
      count = omega arith;
      claims = λ x. sym (ap (λ seats. times x (claims_of seats)) cut ∙ times_claims-push x rest last);
      ended = λ ended. (All-pop HasEnded all rest (Some last) cut ended).1;
    }

pub joined_more : (all items rest : List Seat) (id other : TableId) (v w : View) → IsJoined all items id v → items ≡ rest ++ seat_of other w ∷ [] → w.seats ≡ 1 → IsJoined all rest id (joined v w)
joined_more all items rest id other v w before cut one =
    let next = seat_of other w in
    let words = All-pop (λ (seat : Seat). seat.word ≡ (seat_of id v).word) items rest (Some next) cut before.word in
    let long : length items ≡ length rest + 1 = ap length cut ∙ length-append rest (next ∷ []) in
    let count = before.count in
    let some = before.some in
    record {
      word = words.0;
      total = before.total;
      some = omega arith;
      count = omega arith;
      claims = λ x.
          let a = before.claims x in
          let b = ap (λ seats. times x (claims_of seats)) cut ∙ times_claims-push x rest next in
          omega (arith, times-append x v.claimed w.claimed);
      ended = λ ended. let a = before.ended ended in omega (arith, length-append v.past w.past);
    }
