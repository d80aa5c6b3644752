-- The text of a connection, one request at a time.
use Rattle.std.proofs.Common.{◌≡◌, ℕ, zero, suc, ◌+◌, ◌<◌, ◌≤◌, Bool, true, false, cond, ◌||◌, eqb}
use Rattle.std.proofs.Common.{List, [], ◌∷◌, ◌++◌, length, take, drop, Option, refl, sym, ap, ◌∙◌}
use Rattle.std.proofs.Common.{arith, append_assoc, append-nil}
use Rattle.std.specs.Prelude.{IsSome, All, slice_get}
use Rattle.std.specs.Option.{option_map_or}
use Rattle.std.specs.List.{concat}
use Rattle.std.proofs.lemmas.Bool.{false≢true}
use Rattle.std.proofs.lemmas.Bool.Decides.{nat_tests}
use Rattle.std.proofs.lemmas.List.Elements.{All-head, All-tail}
use Rattle.http_wire.specs.declared.request.Request.{Request}
use Rattle.session.specs.Text.{Replier, is_last, edition_at, reply_by, some_closes}
use Rattle.session.proofs.Counted.{answerable_from, replies_from}

-- ---- a history that grew

slice_get-grown : {E : Type 0} (history more : List E) (place : ℕ)
    → IsSome (slice_get history place)
    → slice_get (history ++ more) place ≡ slice_get history place
slice_get-grown [] more place known = absurd (false≢true known)
slice_get-grown (x ∷ history) more zero known = refl
slice_get-grown (x ∷ history) more (suc place) known = slice_get-grown history more place known

pub edition_at-grown : {E : Type 0} (history more : List E) (entry : ℕ)
    → IsSome (edition_at history entry)
    → edition_at (history ++ more) entry ≡ edition_at history entry
edition_at-grown history more zero known = absurd (false≢true known)
edition_at-grown history more (suc place) known = slice_get-grown history more place known

module _ {E : Type 0} (reply : Replier E) where
  -- the replies stay when the history grows
  pub replies-grown : (history more : List E) (number : ℕ) (requests : List Request)
      (entries : List ℕ)
      → All (λ entry. IsSome (edition_at history entry)) entries
      → replies_from reply (history ++ more) number requests entries ≡ replies_from reply history
      number requests entries
  replies-grown history more number [] entries known = refl
  replies-grown history more number (request ∷ requests) [] known = refl
  replies-grown history more number (request ∷ requests) (entry ∷ entries) known =
      let P : ℕ → Type 0 = λ entry. IsSome (edition_at history entry) in
      let here = edition_at-grown history more entry (All-head P entry entries known) in
      let first : reply_by reply (history ++ more) entry request (is_last number request)
      ≡ reply_by reply history entry request (is_last number request) =
      ap (λ (w : Option E). option_map_or (λ (edition : E). reply entry edition request
      (is_last number request)) w []) here in
      let rest = replies-grown history more (number + 1) requests entries
      (All-tail P entry entries known) in
      cc (first, rest)

  -- only as many requests count as there are entries
  pub replies-front : (history : List E) (number : ℕ) (requests more : List Request)
      (entries : List ℕ)
      → length entries ≤ length requests
      → replies_from reply history number (requests ++ more) entries ≡ replies_from reply history
      number requests entries
  replies-front history number [] [] [] short = refl
  replies-front history number [] (request ∷ more) [] short = refl
  replies-front history number [] more (entry ∷ entries) short = absurd (omega arith)
  replies-front history number (request ∷ requests) more [] short = refl
  replies-front history number (request ∷ requests) more (entry ∷ entries) short =
      let rest = replies-front history (number + 1) requests more entries (omega arith) in cc (rest)

  -- one request more, and its entry
  pub replies-push : (history : List E) (number : ℕ) (requests : List Request) (entries : List ℕ)
      (request : Request) (entry : ℕ)
      → length entries ≡ length requests
      → replies_from reply history number (requests ++ request ∷ []) (entries ++ entry ∷ [])
      ≡ replies_from reply history number requests entries
      ++ reply_by reply history entry request (is_last (number + length requests) request) ∷ []
  replies-push history number [] [] request entry same =
      ap (λ w. reply_by reply history entry request (is_last w request) ∷ []) (omega arith)
  replies-push history number [] (other ∷ entries) request entry same = absurd (omega arith)
  replies-push history number (first ∷ requests) [] request entry same = absurd (omega arith)
  replies-push history number (first ∷ requests) (other ∷ entries) request entry same =
      let counted : (number + 1) + length requests ≡ number + length (first ∷ requests) =
      omega arith in
      let rest = replies-push history (number + 1) requests entries request entry (omega arith) in
      ap (λ w. reply_by reply history other first (is_last number first) ∷ w)
      (rest ∙ ap (λ w. replies_from reply history (number + 1) requests entries ++ reply_by reply
      history entry request (is_last w request) ∷ []) counted)

  pub length-replies : (history : List E) (number : ℕ) (requests : List Request) (entries : List ℕ)
      → length entries ≤ length requests → length (replies_from reply history number requests
      entries) ≡ length entries
  length-replies history number [] [] short = refl
  length-replies history number [] (entry ∷ entries) short = absurd (omega arith)
  length-replies history number (request ∷ requests) [] short = refl
  length-replies history number (request ∷ requests) (entry ∷ entries) short =
      ap suc (length-replies history (number + 1) requests entries (omega arith))

pub concat-push : (texts : List (List ℕ)) (text : List ℕ) → concat (texts ++ text ∷ [])
    ≡ concat texts ++ text
concat-push [] text = append-nil text
concat-push (first ∷ texts) text = ap (λ w. first ++ w) (concat-push texts text)
    ∙ sym (append_assoc first (concat texts) text)

pub concat-split : (count : ℕ) (texts : List (List ℕ)) → concat texts ≡ concat (take count texts)
    ++ concat (drop count texts)
concat-split zero texts = refl
concat-split (suc count) [] = refl
concat-split (suc count) (text ∷ texts) =
    ap (λ w. text ++ w) (concat-split count texts)
    ∙ sym (append_assoc text (concat (take count texts)) (concat (drop count texts)))

-- ---- the requests that are answered

-- a close after others
pub closes_last : (a b c : Bool) → b ≡ true → (a || (b || c)) ≡ true
closes_last true b c e = refl
closes_last false true c e = refl
closes_last false false c e = absurd (false≢true e)

no_close_here : (request : Request) (requests : List Request) → some_closes (request ∷ requests)
    ≡ false
    → (request.close ≡ false) × (some_closes requests ≡ false)
no_close_here request requests none = by_case request.close (some_closes requests) none
  where
    by_case : (a b : Bool) → (a || b) ≡ false → (a ≡ false) × (b ≡ false)
    by_case true b e = absurd (false≢true (sym e))
    by_case false b e = (refl, e)

below_limit : (number : ℕ) (request : Request) → request.close ≡ false → number < 1000
    → is_last number request ≡ false
below_limit number request open_still below =
    let apart : eqb number 1000 ≡ false = grind (arith, nat_tests) in cc

-- while none closes and there is room for more, all are answered, and those that follow as well
pub answerable-open : (number : ℕ) (given more : List Request) → some_closes given ≡ false
    → number + length given ≤ 1000
    → answerable_from number (given ++ more) ≡ given ++ answerable_from (number + length given) more
answerable-open number [] more none room = ap (λ w. answerable_from w more) (omega arith)
answerable-open number (request ∷ given) more none room =
    let parts = no_close_here request given none in
    let here : is_last number request ≡ false = below_limit number request parts.0 (omega arith) in
    let rest = answerable-open (number + 1) given more parts.1 (omega arith) in
    let counted : (number + 1) + length given ≡ number + length (request ∷ given) = omega arith in
    ap (λ w. request ∷ cond w [] (answerable_from (number + 1) (given ++ more))) here
    ∙ ap (λ w. request ∷ w) (rest ∙ ap (λ w. given ++ answerable_from w more) counted)

-- after the last one none is answered
pub answerable-last : (number : ℕ) (request : Request) (more : List Request)
    → is_last number request ≡ true
    → answerable_from number (request ∷ more) ≡ request ∷ []
answerable-last number request more last =
    ap (λ w. request ∷ cond w [] (answerable_from (number + 1) more)) last

-- 1,000 of which none closes are all that are answered
pub answerable-full : (number : ℕ) (request : Request) (given more : List Request) → some_closes
    (request ∷ given) ≡ false
    → number + length given ≡ 1000 → answerable_from number ((request ∷ given) ++ more) ≡ request
    ∷ given
answerable-full number request [] more none room =
    let limit : number ≡ 1000 = omega arith in
    let at : eqb number 1000 ≡ true = grind (arith, nat_tests) in
    let last : is_last number request ≡ true = at_limit request.close (eqb number 1000) at in
    answerable-last number request more last
  where
    at_limit : (a b : Bool) → b ≡ true → (a || b) ≡ true
    at_limit true b e = refl
    at_limit false b e = e
answerable-full number request (following ∷ given) more none room =
    let parts = no_close_here request (following ∷ given) none in
    let here : is_last number request ≡ false = below_limit number request parts.0 (omega arith) in
    let rest = answerable-full (number + 1) following given more parts.1 (omega arith) in
    ap (λ w. request ∷ cond w [] (answerable_from (number + 1) ((following ∷ given) ++ more))) here
    ∙ ap (λ w. request ∷ w) rest
