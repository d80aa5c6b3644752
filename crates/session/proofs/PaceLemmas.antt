-- How a session reads ahead.
use Rattle.std.proofs.Common.{◌⊎◌, ◌≡◌, ℕ, ◌+◌, ◌<◌, ◌≤◌, false, List, [], ◌∷◌, ◌++◌, length, take}
use Rattle.std.proofs.Common.{drop, refl, sym, ap, ◌∙◌, subst, arith, length-append, inl, inr}
use Rattle.std.proofs.Common.{⊎_elim}
use Rattle.std.proofs.Math.Seq.{drop-append_seam}
use Rattle.std.proofs.lemmas.Bool.{cases_lt}
use Rattle.std.proofs.lemmas.List.{drop-append-le, take-append-drop, take-append-le, take_at}
use Rattle.httparse.specs.Grammar.{print_request}
use Rattle.http_wire.specs.declared.request.Request.{Request}
use Rattle.http_wire.specs.Requests.{waits, Unfinished, HasGiven, none_yet, one_more}
use Rattle.session.specs.Pace.{IsPaced}
use Rattle.session.proofs.StreamLaws.{Requests-split}

-- nothing is read
pub IsPaced-nothing : IsPaced [] 0
IsPaced-nothing = record {
  before = [];
  last = [];
  all = refl;
  short = omega arith;
  requests = [];
  undecided = waits [] (record { short = omega arith; undecided = inl refl });
  few = omega arith;
}

pub IsPaced-weaker : (read : List ℕ) (few many : ℕ) → few ≤ many → IsPaced read few
    → IsPaced read many
IsPaced-weaker read few many more paced = record {
  before = paced.before;
  last = paced.last;
  all = paced.all;
  short = paced.short;
  requests = paced.requests;
  undecided = paced.undecided;
  few = omega (arith, paced.few);
}

-- ---- what follows the head that was read ahead

-- the bytes given so far end before the last read, or less than it remains
places : (before last : List ℕ) (given : List Request) (rest : List ℕ)
    → HasGiven (before ++ last) given rest
    → ((r : List ℕ) × HasGiven before given r × (rest ≡ r ++ last)) ⊎ (length rest < length last)
unfolding print_request
places before last _ _ none_yet = inl (before, none_yet, refl)
places before last _ _ (one_more given rest request after so_far x) =
    ⊎_elim (λ within. step within.0 within.1 within.2)
    (λ behind. inr (omega (arith, shorter, behind))) (places before last given rest so_far)
  where
    text : List ℕ
    text = print_request x.head

    shorter : length after < length rest
    shorter =
        let whole : length rest ≡ length (print_request x.head) + length after =
        ap length x.reads.1 ∙ length-append (print_request x.head) after in
        let some : 1 ≤ length (print_request x.head) = simp length-append (omega arith) in
        omega arith

    step : (r : List ℕ) → HasGiven before given r → rest ≡ r ++ last
        → ((r : List ℕ) × HasGiven before (given ++ request ∷ []) r × (after ≡ r ++ last))
        ⊎ (length after < length last)
    step r so is =
        let same : r ++ last ≡ print_request x.head ++ after = sym is ∙ x.reads.1 in
        let n : ℕ = length (print_request x.head) in
        let sizes : length r + length last ≡ n + length after =
        sym (length-append r last) ∙ ap length same ∙ length-append (print_request x.head) after in
        ⊎_elim (λ long. inr (omega (arith, sizes, long))) (λ short. inl (within r so same short))
        (cases_lt (length r) n)
      where
        within : (r : List ℕ) → HasGiven before given r → r ++ last ≡ print_request x.head ++ after
            → length (print_request x.head) ≤ length r
            → (r : List ℕ) × HasGiven before (given ++ request ∷ []) r × (after ≡ r ++ last)
        within r so same short =
            let n : ℕ = length (print_request x.head) in
            let first : take n r ≡ print_request x.head =
            sym (take-append-le n r last short) ∙ ap (take n) same
            ∙ take_at (print_request x.head) after n refl in
            let left : drop n r ++ last ≡ after =
            sym (drop-append-le n r last short) ∙ ap (drop n) same
            ∙ drop-append_seam (print_request x.head) after in
            let whole : r ≡ print_request x.head ++ drop n r =
            sym (take-append-drop n r) ∙ ap (λ w. w ++ drop n r) first in (
              drop n r,
              one_more given r request (drop n r) so (record {
                head = x.head;
                reads = (x.reads.0, whole);
                rules = x.rules;
                is = x.is;
              }),
              sym left,
            )

-- after a request more than `count` less than one read remains
pub less_than_a_read : (read : List ℕ) (count : ℕ) (given : List Request) (rest : List ℕ)
    → IsPaced read count → HasGiven read given rest → count < length given
    → length rest < 4096
less_than_a_read read count given rest paced gives more =
    ⊎_elim (λ within. absurd (few within.0 within.1)) (λ less. omega (arith, less, paced.short))
    (places paced.before paced.last given rest
    (subst (λ w. HasGiven w given rest) paced.all gives))
  where
    few : (r : List ℕ) → HasGiven paced.before given r → ⊥
    few r so =
        let split = Requests-split paced.before r false given paced.requests Unfinished so
        paced.undecided in
        let counted : length paced.requests ≡ length given + length split.0 =
        ap length split.1 ∙ length-append given split.0 in
        absurd (omega (arith, counted, paced.few, more))
