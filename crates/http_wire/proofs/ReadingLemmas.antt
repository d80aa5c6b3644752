-- What the first bytes of a rest say of the rest.
use Rattle.std.proofs.Common.{◌≡◌, ℕ, ◌+◌, ◌<◌, ◌≤◌, Bool, true, false, List, [], ◌++◌, length, take, drop, min, refl, sym, ap, ◌∙◌, subst, arith, length-take}
use Rattle.std.proofs.lemmas.List.{take-append-drop, drop-append-le, take_all, append-nil}
use Rattle.std.proofs.Common.{inl, inr, ⊎_elim, ◌⊎◌, length-append}
use Rattle.std.proofs.lemmas.Bool.{cases_lt, false≢true}
use Rattle.std.specs.Bool.{IsTrue}
use Rattle.httparse.specs.Grammar.{print_request, HasNoRequest}
use Rattle.http_wire.specs.declared.request.Request.{Request}
use Rattle.http_wire.specs.declared.heads.Next.{Next}
use Rattle.http_wire.specs.declared.heads.Next.TheVariants as answers
use Rattle.http_wire.specs.Requests.{StreamEnd, BeginsWith, StandsHead, HasNoHead, BreaksRule, IsHopeless, breaks_rule, hopeless, too_long, cut_off, IsUndecided, Clean, Bad, Unfinished, Requests, refused, ends, waits, HasGiven, one_more, has_other_byte}
use Rattle.http_wire.specs.Reading.{Reading, Answers, AnswersOfAll, answer_of}
use Rattle.http_wire.proofs.AheadLemmas.{none_if_undecided}
use Rattle.http_wire.proofs.LineLemmas.{IsHopeless-append}
use Rattle.http_wire.proofs.StreamLemmas.{HasNoHead-from_hopeless, front_within, BeginsWith-append, BreaksRule-append, HasNoHead-from_broken, HasNoHead-not_begins, no_head_at_end, Requests_unique, Requests-after_given}

pub begins_from_front : (rest : List ℕ) (n len : ℕ) (request : Request) → len ≤ length (take n rest)
    → BeginsWith (take n rest) request (drop len (take n rest))
    → BeginsWith rest request (drop len rest)
begins_from_front rest n len request inside x =
    let whole : take n rest ++ drop n rest ≡ rest = take-append-drop n rest in
    let remaining : drop len (take n rest) ++ drop n rest ≡ drop len rest =
    sym (drop-append-le len (take n rest) (drop n rest) inside) ∙ ap (drop len) whole in
    subst (λ w. BeginsWith w request (drop len rest)) whole
    (subst (BeginsWith (take n rest ++ drop n rest) request) remaining
    (BeginsWith-append (take n rest) request (drop len (take n rest)) (drop n rest) x))

pub stands_from_front : (rest : List ℕ) (n : ℕ) → StandsHead (take n rest) → StandsHead rest
stands_from_front rest n x = (
  x.0,
  x.1 ++ drop n rest,
  subst (λ w. BeginsWith w x.0 (x.1 ++ drop n rest)) (take-append-drop n rest)
      (BeginsWith-append (take n rest) x.0 x.1 (drop n rest) x.2),
)

pub bad_from_front : (rest : List ℕ) (n : ℕ) (ended : Bool) → BreaksRule (take n rest)
    → Requests rest ended [] Bad
bad_from_front rest n ended broken =
    let here : BreaksRule rest = subst BreaksRule (take-append-drop n rest)
    (BreaksRule-append (take n rest) (drop n rest) broken) in
    refused rest ended (HasNoHead-from_broken rest here) (breaks_rule here)

pub bad_if_hopeless : (rest : List ℕ) (n : ℕ) (ended : Bool) → IsHopeless (take n rest)
    → Requests rest ended [] Bad
bad_if_hopeless rest n ended front =
    let here : IsHopeless rest = subst IsHopeless (take-append-drop n rest)
    (IsHopeless-append (take n rest) (drop n rest) front) in
    refused rest ended (HasNoHead-from_hopeless rest here) (hopeless here)

-- ---- no head of the grammar stands in as many first bytes as a head may have

pub no_head_in_rest : (rest : List ℕ) (n : ℕ) → n ≡ min (length rest) 8192
    → HasNoRequest (take n rest) → HasNoHead rest
no_head_in_rest rest n is none =
    λ head after reads rules.
    let size = rules.size in
    let text = print_request head in
    let whole : length rest ≡ length text + length after = ap length reads.1
    ∙ length-append text after in
    let inside : length text ≤ length (take n rest) = rw (length-take n rest) (omega arith) in
    none head (drop (length text) (take n rest)) (
      reads.0,
      front_within (take n rest) (drop n rest) text after
          (take-append-drop n rest ∙ reads.1) inside,
    )

pub bad_when_over : (rest : List ℕ) (n : ℕ) (ended : Bool) → n ≡ min (length rest) 8192
    → IsUndecided (take n rest)
    → (8192 ≤ length rest) ⊎ (IsTrue ended × IsTrue (has_other_byte rest))
    → Requests rest ended [] Bad
bad_when_over rest n ended is undecided over =
    refused rest ended (no_head_in_rest rest n is (none_if_undecided (take n rest) undecided))
    (⊎_elim too_long (λ both. cut_off both.0 both.1) over)

short_otherwise : (rest : List ℕ) (ended : Bool)
    → ((8192 ≤ length rest) ⊎ (IsTrue ended × IsTrue (has_other_byte rest)) → ⊥)
    → length rest < 8192
short_otherwise rest ended sound =
    ⊎_elim (λ short. short) (λ long. absurd (sound (inl long))) (cases_lt (length rest) 8192)

blank_otherwise : (rest : List ℕ)
    → ((8192 ≤ length rest) ⊎ (IsTrue true × IsTrue (has_other_byte rest)) → ⊥)
    → has_other_byte rest ≡ false
blank_otherwise rest sound = by_test (has_other_byte rest) refl
  where
    by_test : (other : Bool) → has_other_byte rest ≡ other → has_other_byte rest ≡ false
    by_test true is = absurd (sound (inr (refl, is)))
    by_test false is = is

pub clean_otherwise : (rest : List ℕ) (ended : Bool)
    → ((8192 ≤ length rest) ⊎ (IsTrue ended × IsTrue (has_other_byte rest)) → ⊥) → ended ≡ true
    → Requests rest ended [] Clean
clean_otherwise rest true sound over = ends rest (record {
  short = short_otherwise rest true sound;
  blank = blank_otherwise rest sound;
})
clean_otherwise rest false sound over = absurd (false≢true over)

pub unfinished_otherwise : (rest : List ℕ) (n : ℕ) (ended : Bool) → n ≡ min (length rest) 8192
    → IsUndecided (take n rest)
    → ((8192 ≤ length rest) ⊎ (IsTrue ended × IsTrue (has_other_byte rest)) → ⊥) → ended ≡ false
    → Requests rest ended [] Unfinished
unfinished_otherwise rest n false is undecided sound open_still =
    let short : length rest < 8192 = short_otherwise rest false sound in
    waits rest (record {
      short = short;
      undecided = subst IsUndecided (take_all n rest (omega arith)) undecided;
    })
unfinished_otherwise rest n true is undecided sound open_still =
    absurd (false≢true (sym open_still))

-- ---- all that was fed

with_end : (old : Reading) (remaining fed : List ℕ) (given : List Request) (end : StreamEnd)
    → (remaining ≡ old.rest) × Requests old.rest old.ended [] end → HasGiven fed given old.rest
    → HasGiven fed given remaining × Requests fed old.ended given end
with_end old remaining fed given end answer before = (
  subst (HasGiven fed given) (sym answer.0) before,
  subst (λ w. Requests fed old.ended w end) (append-nil given)
      (Requests-after_given fed old.rest old.ended given [] end before answer.1),
)

pub answers_of_all : (old : Reading) (next : Next) (remaining fed : List ℕ) (given : List Request)
    → Answers old next remaining → HasGiven fed given old.rest
    → AnswersOfAll fed given old.ended next remaining
answers_of_all old (answers.Head request) remaining fed given answer before =
    one_more given old.rest request remaining before answer
answers_of_all old answers.More remaining fed given answer before =
    with_end old remaining fed given Unfinished answer before
answers_of_all old answers.Clean remaining fed given answer before =
    with_end old remaining fed given Clean answer before
answers_of_all old answers.Bad remaining fed given answer before =
    with_end old remaining fed given Bad answer before

pub short_while_unfinished : (rest : List ℕ) (ended : Bool) → Requests rest ended [] Unfinished
    → length rest < 8192
short_while_unfinished rest _ (waits _ awaits) = awaits.short

pub short_after_more : (old : Reading) (next : Next) (remaining : List ℕ)
    → Answers old next remaining → next ≡ answers.More
    → length remaining < 8192
short_after_more old next remaining answer is =
    let more : Answers old answers.More remaining =
    subst (λ w. Answers old w remaining) is answer in
    subst (λ w. length w < 8192) (sym more.0) (short_while_unfinished old.rest old.ended more.1)

-- ---- the answer is the only one

pub answer_is : (old : Reading) (next : Next) (remaining : List ℕ) (end : StreamEnd)
    → Answers old next remaining
    → Requests old.rest old.ended [] end → next ≡ answer_of end
answer_is old (answers.Head request) remaining end answer all =
    absurd (HasNoHead-not_begins old.rest request remaining
    (no_head_at_end old.rest old.ended end all) answer)
answer_is old answers.More remaining end answer all =
    ap answer_of (Requests_unique old.rest old.ended [] [] Unfinished end answer.1 all).1
answer_is old answers.Clean remaining end answer all =
    ap answer_of (Requests_unique old.rest old.ended [] [] Clean end answer.1 all).1
answer_is old answers.Bad remaining end answer all =
    ap answer_of (Requests_unique old.rest old.ended [] [] Bad end answer.1 all).1

pub no_end_at_head : (rest : List ℕ) (ended : Bool) (end : StreamEnd) → StandsHead rest
    → Requests rest ended [] end → ⊥
no_end_at_head rest ended end stands all =
    HasNoHead-not_begins rest stands.0 stands.1 (no_head_at_end rest ended end all) stands.2
