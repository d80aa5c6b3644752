-- The text of a connection as the loop makes it, by the number of the next request, and that it is
-- the text of the definitions.
use Rattle.std.proofs.Common.{◌≡◌, ℕ, zero, suc, ◌+◌, Bool, true, false, ◌||◌, List, [], ◌∷◌, take}
use Rattle.std.proofs.Common.{refl, ap, arith, eq-eqb, ◌==◌}
use Rattle.std.specs.Prelude.{if◌then◌else◌, map}
use Rattle.std.specs.List.{enumerate_from, zip}
use Rattle.std.proofs.lemmas.Bool.{ne_eqb}
use Rattle.http_wire.specs.declared.request.Request.{Request}
use Rattle.session.specs.Text.{Replier, is_last, answerable, up_to_close, reply_to, replies}

-- of these requests, the first of which has this number, those that are answered
abbrev pub answerable_from : ℕ → List Request → List Request
answerable_from number [] = []
answerable_from number (request ∷ requests) =
    request ∷ (if is_last number request then [] else answerable_from (number + 1) requests)

-- from the request with this number on there is room for `room` requests and one more
answerable_from-take : (number room : ℕ) (requests : List Request) → number + room ≡ 1000
    → answerable_from number requests ≡ take (suc room) (up_to_close requests)
answerable_from-take number room [] fits = refl
answerable_from-take number zero (request ∷ requests) fits = ap (λ rest. request ∷ rest)
    (by request.close)
  where
    full : (number == 1000) ≡ true
    full = eq-eqb number 1000 (omega arith)

    by : (close : Bool) → (if close || number == 1000 then [] else answerable_from
        (number + 1) requests) ≡ []
    by true = refl
    by false = rw full refl
answerable_from-take number (suc room) (request ∷ requests) fits =
    ap (λ rest. request ∷ rest) (by request.close (answerable_from-take (number + 1) room requests
    (omega arith)))
  where
    more : (number == 1000) ≡ false
    more = ne_eqb number 1000 (λ is. omega arith)

    by : (close : Bool) → answerable_from (number + 1) requests ≡ take (suc room)
        (up_to_close requests)
        → (if close || number == 1000 then [] else answerable_from (number + 1) requests)
        ≡ take (suc room) (if close then [] else up_to_close requests)
    by true later = refl
    by false later = rw more later

pub answerable-counted : (requests : List Request)
    → answerable_from 1 requests ≡ answerable requests
answerable-counted requests = answerable_from-take 1 999 requests (omega arith)

-- the replies to the first of these requests, one for each entry; the first request has this number
abbrev pub replies_from : {E : Type 0}
    → Replier E → List E → ℕ → List Request → List ℕ → List (List ℕ)
replies_from reply history number [] entries = []
replies_from reply history number (request ∷ requests) [] = []
replies_from reply history number (request ∷ requests) (entry ∷ entries) =
    reply_to reply history number request entry
    ∷ replies_from reply history (number + 1) requests entries

replies_from-map : {E : Type 0} (reply : Replier E) (history : List E) (number : ℕ)
    (requests : List Request) (entries : List ℕ)
    → replies_from reply history number requests entries
    ≡ map (λ one. reply_to reply history one.0.0 one.0.1 one.1)
    (zip (enumerate_from number requests) entries)
replies_from-map reply history number [] entries = refl
replies_from-map reply history number (request ∷ requests) [] = refl
replies_from-map reply history number (request ∷ requests) (entry ∷ entries) =
    ap (λ rest. reply_to reply history number request entry ∷ rest)
    (replies_from-map reply history (number + 1) requests entries)

pub replies-counted : {E : Type 0} (reply : Replier E) (history : List E)
    (requests : List Request) (entries : List ℕ)
    → replies_from reply history 1 requests entries ≡ replies reply history requests entries
replies-counted reply history requests entries =
    replies_from-map reply history 1 requests entries
