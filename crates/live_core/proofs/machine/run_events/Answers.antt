use Rattle.std.proofs.Common.{◌≡◌, ℕ, ◌+◌, ◌<◌, List, [], ◌∷◌, ◌++◌, length, drop, sym, ap, ◌∙◌, arith, add-one, get_or, append_assoc}
use Rattle.std.proofs.Math.Seq.{drop-cons}
use Rattle.std.proofs.Math.ListN.{drop_of_length-le}
use Rattle.std.proofs.lemmas.List.{append-nil}
use Rattle.live_core.specs.declared.event.Event.{Event}
use Rattle.live_core.specs.declared.event.Event.TheVariants.{Scan}
use Rattle.live_core.specs.declared.event.Answer.{Answer}
use Rattle.live_core.specs.Events.{answer_of, answers_from, core_answers, past_after}
use Rattle.live_core.proofs.machine.run_events.Goals as goal

pub loop-event-init : goal.loop-event-init
loop-event-init c = record {
  past = [];
  after = c.in_ok-core.ensures;
  answers = ap (λ (a : List Answer). a ++ core_answers c.args.sources c.args.events.now)
      c.new-answers.ensures;
  editions = let one : c.in_ok-core.core.editions ≡ 1 = (c.in_ok-core.ensures).editions in
      omega arith;
}

pub step-requires : goal.step-requires
step-requires c = let few = c.loop-event.invariant.editions in omega arith

-- one more event is answered
one_more : (sources : ℕ) (past all : List Event) (index : ℕ) (answers : List Answer)
    (given : Answer) (goal_list : List Answer)
    → index < length all → given ≡ answer_of sources past (get_or all index (Scan 0 0))
    → answers ++ answers_from sources past (drop index all) ≡ goal_list
    → (answers ++ given ∷ []) ++ answers_from sources (past_after sources past
    (get_or all index (Scan 0 0))) (drop (index + 1) all) ≡ goal_list
one_more sources past all index answers given goal_list below is so_far =
    let event = get_or all index (Scan 0 0) in
    let after = answers_from sources (past_after sources past event) (drop (index + 1) all) in
    let rest : drop index all ≡ event ∷ drop (index + 1) all =
    drop-cons all index (Scan 0 0) below ∙ ap (λ n. event ∷ drop n all) (sym (add-one index)) in
    append_assoc answers (given ∷ []) after
    ∙ ap (λ g. answers ++ g ∷ after) is
    ∙ sym (ap (λ l. answers ++ answers_from sources past l) rest)
    ∙ so_far

pub loop-event-preserved : goal.loop-event-preserved
loop-event-preserved c =
    let before = c.loop-event.invariant in
    record {
      past = past_after c.args.sources before.past
          (get_or c.args.events.now c.loop-event.event-index (Scan 0 0));
      after = c.in_ok-step.ensures.after c.args.sources before.past before.after;
      answers = rw c.in_ok-push.ensures.ok
          (one_more c.args.sources before.past c.args.events.now c.loop-event.event-index
          c.loop-event.answers c.in_ok-step.field-0 _ c.loop-event-test.true
          (c.in_ok-step.ensures.answer c.args.sources before.past before.after) before.answers);
      editions = let grown = c.in_ok-step.ensures.editions in let few = before.editions in
          omega arith;
    }

pub returns : goal.returns
returns c =
    let before = c.loop-event.invariant in
    sym (append-nil c.loop-event.answers)
    ∙ sym (ap (λ l. c.loop-event.answers ++ answers_from c.args.sources before.past l)
    (drop_of_length-le c.args.events.now c.loop-event-test.false))
    ∙ before.answers
