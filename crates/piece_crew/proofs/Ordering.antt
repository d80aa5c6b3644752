-- The outputs of all workers, each in the place with its job's number.
use Rattle.std.proofs.Common.{◌≡◌, ◌≢◌, ℕ, ◌+◌, ◌<◌, ◌≤◌, List, [], ◌∷◌, ◌++◌, map, length, get_or, replicate, All, refl, sym, ap, ◌∙◌, subst, arith, length-set, if◌then◌else◌, ◌==◌}
use Rattle.std.specs.Prelude.{MatchOption, Option, Some, None, IsSome, is_some, Result, Ok, IfOk}
use Rattle.std.specs.List.{fold}
use Rattle.std.proofs.lemmas.Bool.Decides.{nat_tests}
use Rattle.std.proofs.lemmas.List.{get_or-set_same, get_or-set_other, get_or-map, get_or_default, get_or_past, length-map, length-replicate, same_lists}
use Rattle.std.proofs.lemmas.List.Elements.{All-head, All-map, All-replicate, All-tail, All-weaker}
use Rattle.std.proofs.lemmas.Option.{slice_get-get_or, slice_get_within, get_or_from_slice_get, same_Some}
use native.Mathlib.Decide.{dec_lt, ℕ_discrete}
use Rattle.piece_crew.specs.Claims.{AreAllSeats, AreMade, HasEnded, IsEachBelow, Seat, Word, claims_of, fresh, once_below, times}
use Rattle.piece_crew.specs.Jobs.{AreInOrder, GivesOne}
use Rattle.piece_crew.specs.Bundles.{AreWorkedOff, IsWorkedOff, place_all, placed}
use Rattle.plain_data.specs.declared.errors.NoMemory.{NoMemory}
use Rattle.piece_crew.specs.declared.order.Bundle.{Bundle}
use Rattle.piece_crew.specs.declared.order.Piece.{Piece}
use Rattle.piece_crew.proofs.Counting.{below-within, times-append}

no_some : {O : Type 0} (output : O) → None ≡ Some output → ⊥
no_some {O} output e = let P : Option O → Type 0 = λ o. MatchOption o (Unit {0}) (λ _. ⊥) in subst P e tt

none_at : {O : Type 0} (places : List (Option O)) (x : ℕ) → All (λ place. place ≡ None) places → Dec (x < length places) → get_or places x None ≡ None
none_at {O} places x none (yes in') = none x None in'
none_at {O} places x none (no past) = get_or_past places x None (omega arith)

none_taken : {O : Type 0} (places : List (Option O)) (x : ℕ) (output : O) → All (λ place. place ≡ None) places → get_or places x None ≡ Some output → ⊥
none_taken {O} places x output none e = no_some output (sym (none_at places x none (dec_lt x (length places))) ∙ e)

not_same : (n x : ℕ) → n ≢ x → times x (n ∷ []) ≡ 0
not_same n x other = grind (arith, nat_tests)

at_word : (word : Word) (seats : List Seat) → All (λ (seat : Seat). seat.word ≡ word) seats → 0 < length seats → (get_or seats 0 (fresh word)).word ≡ word
at_word word seats each some = each 0 (fresh word) some

module _ {O : Type 0} where
  abbrev pub IsTaken : List (Option O) → ℕ → Type 0
  IsTaken places x = (output : O) × (get_or places x None ≡ Some output)

  -- There are so many places. What one has is an output of its job, and each that was meant so many times, and at least
  -- once, has one.
  pub record HasPlaced (gives : ℕ → O → Type 0) (count : ℕ) (meant : ℕ → ℕ) (places : List (Option O)) : Type 0 where
    pub len : length places ≡ count
    pub given : (x : ℕ) (output : O) → get_or places x None ≡ Some output → gives x output
    pub taken : (x : ℕ) → 1 ≤ meant x → IsTaken places x

  given_at : (gives : ℕ → O → Type 0) (places : List (Option O)) (piece : Piece O) → piece.number < length places → gives piece.number piece.output
      → ((x : ℕ) (output : O) → get_or places x None ≡ Some output → gives x output)
      → (x : ℕ) (output : O) → get_or (placed places piece) x None ≡ Some output → Dec (x ≡ piece.number) → gives x output
  given_at gives places piece in' good before x output e (yes same) =
      let here : get_or (placed places piece) x None ≡ Some piece.output =
      ap (λ k. get_or (placed places piece) k None) same ∙ get_or-set_same places piece.number (Some piece.output) None in' in
      subst (λ k. gives k output) (sym same) (subst (gives piece.number) (same_Some piece.output output (sym here ∙ e)) good)
  given_at gives places piece in' good before x output e (no other) =
      before x output (sym (get_or-set_other places piece.number x (Some piece.output) None other) ∙ e)

  taken_at : (places : List (Option O)) (piece : Piece O) (meant : ℕ → ℕ) → piece.number < length places
      → ((x : ℕ) → 1 ≤ meant x → IsTaken places x)
      → (x : ℕ) → 1 ≤ (if piece.number == x then 1 else 0) + meant x → Dec (x ≡ piece.number) → IsTaken (placed places piece) x
  taken_at places piece meant in' before x some (yes same) =
      (piece.output, ap (λ k. get_or (placed places piece) k None) same ∙ get_or-set_same places piece.number (Some piece.output) None in')
  taken_at places piece meant in' before x some (no other) =
      let none : times x (piece.number ∷ []) ≡ 0 = not_same piece.number x (λ e. other (sym e)) in
      let t = before x (omega arith) in
      (t.0, get_or-set_other places piece.number x (Some piece.output) None other ∙ t.1)

  place_keeps : (gives : ℕ → O → Type 0) (count : ℕ) (meant : ℕ → ℕ) (places : List (Option O)) (piece : Piece O) → HasPlaced gives count meant places
      → piece.number < count → gives piece.number piece.output → HasPlaced gives count (λ x. (if piece.number == x then 1 else 0) + meant x) (placed places piece)
  place_keeps gives count meant places piece before in' good =
      let len = before.len in
      let within : piece.number < length places = omega arith in
      record {
        len = length-set places piece.number (Some piece.output) ∙ len;
        given = λ x output e. given_at gives places piece within good before.given x output e (ℕ_discrete x piece.number);
        taken = λ x some. taken_at places piece meant within before.taken x some (ℕ_discrete x piece.number);
      }

  weaker : (gives : ℕ → O → Type 0) (count : ℕ) (meant fewer : ℕ → ℕ) (places : List (Option O)) → ((x : ℕ) → fewer x ≤ meant x) → HasPlaced gives count meant places → HasPlaced gives count fewer places
  weaker gives count meant fewer places le before =
      record { len = before.len; given = before.given; taken = λ x some. before.taken x (let a = le x in omega arith) }

  pieces_keep : (gives : ℕ → O → Type 0) (count : ℕ) (meant : ℕ → ℕ) (places : List (Option O)) (pieces : List (Piece O)) → HasPlaced gives count meant places
      → All (λ piece. piece.number < count) pieces → All (λ piece. gives piece.number piece.output) pieces
      → HasPlaced gives count (λ x. times x (map (λ piece. piece.number) pieces) + meant x) (fold placed places pieces)
  pieces_keep gives count meant places [] before within good = weaker gives count meant (λ x. 0 + meant x) places (λ x. omega arith) before
  pieces_keep gives count meant places (piece ∷ pieces) before within good =
      let IsWithin : Piece O → Type 0 = λ piece. piece.number < count in
      let IsGiven : Piece O → Type 0 = λ piece. gives piece.number piece.output in
      let meant' : ℕ → ℕ = λ x. (if piece.number == x then 1 else 0) + meant x in
      let later : ℕ → ℕ = λ x. times x (map (λ piece. piece.number) pieces) + meant' x in
      let more = place_keeps gives count meant places piece before (All-head IsWithin piece pieces within) (All-head IsGiven piece pieces good) in
      let rest = pieces_keep gives count meant' (placed places piece) pieces more (All-tail IsWithin piece pieces within) (All-tail IsGiven piece pieces good) in
      weaker gives count later (λ x. times x (map (λ piece. piece.number) (piece ∷ pieces)) + meant x) (fold placed (placed places piece) pieces) (λ x. omega arith) rest

  bundles_keep : (gives : ℕ → O → Type 0) (word : Word) (meant : ℕ → ℕ) (places : List (Option O)) (bundles : List (Bundle O)) → HasPlaced gives word.total meant places
      → All (IsWorkedOff gives word) bundles → HasPlaced gives word.total (λ x. times x (claims_of (map (λ bundle. bundle.seat) bundles)) + meant x) (fold place_all places bundles)
  bundles_keep gives word meant places [] before each = weaker gives word.total meant (λ x. 0 + meant x) places (λ x. omega arith) before
  bundles_keep gives word meant places (bundle ∷ bundles) before each =
      let first = All-head (IsWorkedOff gives word) bundle bundles each in
      let numbers : ℕ → ℕ = λ x. times x (map (λ piece. piece.number) bundle.pieces.items) + meant x in
      let more = pieces_keep gives word.total meant places bundle.pieces.items before first.within first.given in
      let rest = bundles_keep gives word numbers (place_all places bundle) bundles more (All-tail (IsWorkedOff gives word) bundle bundles each) in
      let later : List Seat = map (λ bundle. bundle.seat) bundles in
      weaker gives word.total (λ x. times x (claims_of later) + numbers x) (λ x. times x (claims_of (bundle.seat ∷ later)) + meant x) (fold place_all (place_all places bundle) bundles)
      (λ x. let a = times-append x bundle.seat.claimed (claims_of later) in let b = ap (times x) first.numbers in omega arith) rest

  empty_places : (gives : ℕ → O → Type 0) (count : ℕ) → HasPlaced gives count (λ _. 0) (replicate count None)
  empty_places gives count = record {
    len = length-replicate count None;
    given = λ x output e. absurd (none_taken (replicate count None) x output (All-replicate (λ place. place ≡ None) count None refl) e);
    taken = λ x some. absurd (omega arith);
  }

  -- where the claims are the numbers below the count, each place is taken
  pub all_placed : (gives : ℕ → O → Type 0) (count : ℕ) (bundles : List (Bundle O)) → AreWorkedOff gives count bundles → IsEachBelow count (claims_of (map (λ bundle. bundle.seat) bundles))
      → HasPlaced gives count (λ x. once_below x count) (fold place_all (replicate count None) bundles)
  all_placed gives count bundles worked claims =
      let word = worked.word in
      let P : ℕ → Type 0 = λ n. HasPlaced gives n (λ x. times x (claims_of (map (λ bundle. bundle.seat) bundles)) + 0) (fold place_all (replicate n None) bundles) in
      let all = subst P worked.total (bundles_keep gives word (λ _. 0) (replicate word.total None) bundles (empty_places gives word.total) worked.each) in
      weaker gives count _ (λ x. once_below x count) (fold place_all (replicate count None) bundles) (λ x. let a = claims x in omega arith) all

  -- so the outputs are all there
  pub all_taken : (gives : ℕ → O → Type 0) (count : ℕ) (places : List (Option O)) → HasPlaced gives count (λ x. once_below x count) places → All IsSome places
  all_taken gives count places placed' k d in' =
      let len = placed'.len in
      let one = below-within k count (omega arith) in
      let t = placed'.taken k (omega arith) in
      ap is_some (get_or_default places k d None in' ∙ t.1)

  -- and each stands in its job's place
  pub in_order : (gives : ℕ → O → Type 0) (count : ℕ) (places : List (Option O)) (outputs : List O) → HasPlaced gives count (λ x. once_below x count) places → map Some outputs ≡ places
      → (length outputs ≡ count) × AreInOrder gives outputs
  in_order gives count places outputs placed' same = (
    sym (length-map outputs Some) ∙ ap length same ∙ placed'.len,
    λ x output there.
        placed'.given x output
        (ap (λ all. get_or all x None) (sym same) ∙ get_or-map Some outputs x output None (slice_get_within outputs x output there) ∙ ap Some (get_or_from_slice_get outputs x output output there)),
  )

  words_of : (gives : ℕ → O → Type 0) (count : ℕ) (bundles : List (Bundle O)) (worked : AreWorkedOff gives count bundles) → All (λ (seat : Seat). seat.word ≡ worked.word) (map (λ bundle. bundle.seat) bundles)
  words_of gives count bundles worked =
      let word = worked.word in
      All-map (λ (seat : Seat). seat.word ≡ word) (λ bundle. bundle.seat) bundles
      (All-weaker (IsWorkedOff gives word) (λ bundle. bundle.seat.word ≡ word) (λ bundle done. done.at_word) bundles worked.each)

  pub seats_are : (bundles : List (Bundle O)) (empty taken all : List Seat) → all ≡ taken → taken ≡ empty ++ map (λ bundle. bundle.seat) bundles → empty ≡ [] → all ≡ map (λ bundle. bundle.seat) bundles
  seats_are bundles empty taken all e t none = e ∙ t ∙ ap (λ before. before ++ map (λ bundle. bundle.seat) bundles) none

  -- the seats that the workers bring back are all those at their word
  pub seats_of : (gives : ℕ → O → Type 0) (count : ℕ) (bundles : List (Bundle O)) (seats : List Seat) → AreWorkedOff gives count bundles → seats ≡ map (λ bundle. bundle.seat) bundles → AreAllSeats seats
  seats_of gives count bundles seats worked same =
      subst AreAllSeats (sym same) (record {
        word = worked.word;
        some = worked.some;
        all = length-map bundles (λ bundle. bundle.seat) ∙ worked.all;
        each = words_of gives count bundles worked;
      })

  -- and have claimed each job
  claimed_all : (gives : ℕ → O → Type 0) (count n : ℕ) (bundles : List (Bundle O)) → AreWorkedOff gives count bundles
      → (All HasEnded (map (λ bundle. bundle.seat) bundles) → All (λ (seat : Seat). n ≡ seat.word.total) (map (λ bundle. bundle.seat) bundles)) → n ≡ count
  claimed_all gives count n bundles worked ends =
      let word = worked.word in
      let seats : List Seat = map (λ bundle. bundle.seat) bundles in
      let ended = All-map HasEnded (λ bundle. bundle.seat) bundles
      (All-weaker (IsWorkedOff gives word) (λ bundle. HasEnded bundle.seat) (λ bundle done. done.ended) bundles worked.each) in
      let long : length seats ≡ word.seats = length-map bundles (λ bundle. bundle.seat) ∙ worked.all in
      let have = worked.some in
      ends ended 0 (fresh word) (omega arith) ∙ ap (λ (w : Word). w.total) (at_word word seats (words_of gives count bundles worked) (omega arith)) ∙ worked.total

  pub finished : (gives : ℕ → O → Type 0) (count n : ℕ) (bundles : List (Bundle O)) (seats : List Seat) (empty places : List (Option O)) → AreWorkedOff gives count bundles
      → seats ≡ map (λ bundle. bundle.seat) bundles → IsEachBelow n (claims_of seats) → (All HasEnded seats → All (λ (seat : Seat). n ≡ seat.word.total) seats)
      → empty ≡ replicate count None → places ≡ fold place_all empty bundles
      → HasPlaced gives count (λ x. once_below x count) places
  finished gives count n bundles seats empty places worked same claims ends none put =
      let mapped : List Seat = map (λ bundle. bundle.seat) bundles in
      let Ends : List Seat → Type 0 = λ all. All HasEnded all → All (λ (seat : Seat). n ≡ seat.word.total) all in
      let whole : n ≡ count = claimed_all gives count n bundles worked (subst Ends same ends) in
      let claims' = subst (λ k. IsEachBelow k (claims_of mapped)) whole (subst (λ all. IsEachBelow n (claims_of all)) same claims) in
      subst (HasPlaced gives count (λ x. once_below x count)) (sym (put ∙ ap (λ from. fold place_all from bundles) none)) (all_placed gives count bundles worked claims')

  -- what each seat's worker gave, where memory was wanting to none
  pub worked_off : (gives : ℕ → O → Type 0) (count workers : ℕ) (seats : List Seat) (results : List (Result (Bundle O) NoMemory)) (bundles : List (Bundle O)) → 1 ≤ workers
      → AreMade count workers seats → length results ≡ length seats
      → ((k : ℕ) (r : Result (Bundle O) NoMemory) (s : Seat) → k < length seats → IfOk (get_or results k r) (IsWorkedOff gives (get_or seats k s).word))
      → map Ok bundles ≡ results → AreWorkedOff gives count bundles
  worked_off gives count workers seats results bundles some made long each same =
      let word = made.word in
      let len : length bundles ≡ length seats = sym (length-map bundles Ok) ∙ ap length same ∙ long in
      let all = made.all in
      let seats' = made.made in
      record {
        word = word;
        total = made.numbers;
        some = omega arith;
        all = omega arith;
        each = λ k d in'.
            let within : k < length seats = omega arith in
            let bundle = get_or bundles k d in
            let is : get_or results k (Ok d) ≡ Ok bundle = ap (λ list. get_or list k (Ok d)) (sym same) ∙ get_or-map Ok bundles k d (Ok d) in' in
            let its : (get_or seats k (fresh word)).word ≡ word = ap (λ (seat : Seat). seat.word) (made.each k (fresh word) within) in
            let P : Result (Bundle O) NoMemory → Type 0 = λ r. IfOk r (IsWorkedOff gives word) in
            subst P is (subst (λ w. IfOk (get_or results k (Ok d)) (IsWorkedOff gives w)) its (each k (Ok d) (fresh word) within));
      }

  -- outputs in order are the only ones, where no job gives two
  pub same_outputs : (gives : ℕ → O → Type 0) (count : ℕ) (these those : List O) → GivesOne gives → length these ≡ count → length those ≡ count → AreInOrder gives these → AreInOrder gives those → these ≡ those
  same_outputs gives count these those one long long' order order' =
      same_lists these those (long ∙ sym long') (λ k d in'.
      one k (get_or these k d) (get_or those k d) (order k (get_or these k d) (slice_get-get_or these k d in')) (order' k (get_or those k d) (slice_get-get_or those k d (omega arith))))
