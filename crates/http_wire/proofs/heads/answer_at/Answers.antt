use Rattle.std.proofs.Common.{sym, refl, ◌∙◌, arith, length-take}
use Rattle.std.proofs.lemmas.Bool.{false≢true}
use Rattle.http_wire.proofs.FrontLemmas.{on_err}
use Rattle.http_wire.proofs.ReadingLemmas.{begins_from_front, stands_from_front, bad_from_front, bad_if_hopeless, bad_when_over, clean_otherwise, unfinished_otherwise}
use Rattle.http_wire.proofs.heads.answer_at.Goals as goal

pub returns-in_err-request-clause-memory : goal.returns-in_err-request-clause-memory
returns-in_err-request-clause-memory c = on_err _ _
    (stands_from_front _ _ c.in_err-request.ensures.memory)

pub returns-in-Head : goal.returns-in-Head
returns-in-Head c =
    let front = rw c.in-Head.is at c.in_ok-request.ensures.front in
    let inside = front.0 in
    record {
      within = omega (arith, length-take c.min.result c.args.rest.now);
      answer = begins_from_front c.args.rest.now c.min.result c.in-Head.len c.in-Head.request
          front.0 front.1;
      memory = tt;
    }

pub returns-in-Broken-clause-answer : goal.returns-in-Broken-clause-answer
returns-in-Broken-clause-answer c =
    (refl, bad_from_front _ c.min.result _ (rw c.in-Broken.is at c.in_ok-request.ensures.front))

pub returns-in-Hopeless-clause-answer : goal.returns-in-Hopeless-clause-answer
returns-in-Hopeless-clause-answer c =
    (refl, bad_if_hopeless _ c.min.result _ (rw c.in-Hopeless.is at c.in_ok-request.ensures.front))

pub returns-in-NoHead-clause-answer : goal.returns-in-NoHead-clause-answer
returns-in-NoHead-clause-answer c = (
  refl,
  bad_when_over _ c.min.result _ c.min.ensures
      (rw c.in-NoHead.is at c.in_ok-request.ensures.front) (c.is_over.ensures.0 c.if-is_over.true),
)

pub returns-in-NoHead-2-clause-answer : goal.returns-in-NoHead-2-clause-answer
returns-in-NoHead-2-clause-answer c = (
  refl,
  clean_otherwise _ _
      (λ over. false≢true (sym c.if-is_over.false ∙ c.is_over.ensures.1 over)) c.if-ended.true,
)

pub returns-in-NoHead-3-clause-answer : goal.returns-in-NoHead-3-clause-answer
returns-in-NoHead-3-clause-answer c = (
  refl,
  unfinished_otherwise _ c.min.result _ c.min.ensures
      (rw c.in-NoHead-3.is at c.in_ok-request.ensures.front)
      (λ over. false≢true (sym c.if-is_over.false ∙ c.is_over.ensures.1 over)) c.if-ended.false,
)
