-- Each way out of the session, and one request more.
use Rattle.std.proofs.Common.{⊎_elim, inl, inr, Option, List, ℕ, Err, rules, subst, arith}
use Rattle.std.proofs.lemmas.Result.{err_from_is_err_and}
use Rattle.session.proofs.Progress.{Progress-more, Progress-nothing}
use Rattle.session.proofs.SessionEnds.{Session-at, Session-full, Session-unanswered}
use Rattle.session.proofs.SessionEnds.{Session-refused, Session-unrefused, Session-closed}
use Rattle.session.proofs.SessionEnds.{Session-clean, Session-unheard, Session-unentered}
use Rattle.session.proofs.SessionEnds.{Session-unbegun}
use Rattle.session.proofs.ReplyLemmas.{newest_reply, OnlySees-none, OnlySees-then, known_entry}
use Rattle.session.proofs.ReplyLemmas.{newest_reply-made}
use Rattle.http_wire.specs.Reply.{bad_reply_bytes}
use Rattle.link_io.specs.Streams.{Adds}
use Rattle.session.specs.Steps.{Writes}
use Rattle.session.proofs.serve.answer_requests.Goals as goal

pub returns-in_err-heads-clause-session : goal.returns-in_err-heads-clause-session
returns-in_err-heads-clause-session g c =
    let p = err_from_is_err_and c.from_residual.result c.from_residual.ensures.1 in
    rw (p.1, p.2) (Session-unbegun _ _ _)

pub returns-in_err-request-clause-session : goal.returns-in_err-request-clause-session
returns-in_err-request-clause-session g c =
    let p = err_from_is_err_and c.from_residual-in_err-request.result
    c.from_residual-in_err-request.ensures.1 in
    Session-at _ _ _ _ _ _ (rw (p.1, p.2, c.next_head.ensures.only_reads.held)
    (Session-unheard _ _ _ _ _ _ _ _ _ _ _ c.loop-answered.invariant.progress (omega arith) _
    c.in_err-request.ensures.hears (c.next_head.ensures.end c.loop-answered.invariant.end)))

pub returns-in_err-refuse-in-Bad-clause-session : goal.returns-in_err-refuse-in-Bad-clause-session
returns-in_err-refuse-in-Bad-clause-session g c =
    let hears = rw c.in-Bad.is at c.in_ok-request.ensures.hears in
    let p = err_from_is_err_and c.from_residual-in_err-refuse-in-Bad.result
    c.from_residual-in_err-refuse-in-Bad.ensures.1 in
    Session-at _ _ _ _ _ _ (rw (p.1, p.2, c.refuse.ensures.only_writes.remaining)
    (Session-unrefused _ _ _ _ _ _ _ _ _ _ _ _ c.loop-answered.invariant.progress
    (omega arith) hears (c.next_head.ensures.end c.loop-answered.invariant.end) _
    (subst (λ (w : Option (List ℕ)). Writes bad_reply_bytes w (g.L.Sink.held c.refuse.new.link)
    (Err c.in_err-refuse-in-Bad.field-0.0)) c.next_head.ensures.only_reads.held
    c.in_err-refuse-in-Bad.ensures.writes)))

pub returns-in-Bad-clause-session : goal.returns-in-Bad-clause-session
returns-in-Bad-clause-session g c =
    let hears = rw c.in-Bad.is at c.in_ok-request.ensures.hears in
    Session-at _ _ _ _ _ _ (rw c.refuse.ensures.only_writes.remaining
    (Session-refused _ _ _ _ _ _ _ _ _ _ _ _ c.loop-answered.invariant.progress (omega arith) hears
    (c.next_head.ensures.end c.loop-answered.invariant.end)
    (rw c.next_head.ensures.only_reads.held at c.in_ok-refuse-in-Bad.ensures.writes)))

pub returns-in-Clean-clause-session : goal.returns-in-Clean-clause-session
returns-in-Clean-clause-session g c =
    let hears = rw c.in-Clean.is at c.in_ok-request.ensures.hears in
    Session-at _ _ _ _ _ _ (rw c.next_head.ensures.only_reads.held
    (Session-clean _ _ _ _ _ _ _ _ _ _ _ c.loop-answered.invariant.progress (omega arith) hears
    (c.next_head.ensures.end c.loop-answered.invariant.end)))

pub returns-in_err-entered-clause-session : goal.returns-in_err-entered-clause-session
returns-in_err-entered-clause-session g c =
    let hears = rw c.in-Head.is at c.in_ok-request.ensures.hears in
    let p = err_from_is_err_and c.from_residual-in_err-entered.result
    c.from_residual-in_err-entered.ensures.1 in
    Session-at _ _ _ _ _ _ (rw (p.1, p.2, c.next_head.ensures.only_reads.held)
    (Session-unentered _ _ _ _ _ _ _ _ _ _ _ _ _ c.loop-answered.invariant.progress
    (omega arith) hears (c.next_head.ensures.end c.loop-answered.invariant.end)
    c.in_err-entered.ensures.only_sees.later (⊎_elim
    inl (λ gains. inr (known_entry _ _ c.in_err-entered.ensures.only_sees.view gains.0 gains.1
    c.in_err-entered.ensures.only_sees.told)) c.in_err-entered.ensures.refused)))

pub returns-in_err-answer-clause-session : goal.returns-in_err-answer-clause-session
returns-in_err-answer-clause-session g c =
    let hears = rw c.in-Head.is at c.in_ok-request.ensures.hears in
    let enters = known_entry _ _ c.in_ok-entered.ensures.only_sees.view
    c.in_ok-entered.ensures.entry
    c.in_ok-entered.ensures.informed c.in_ok-entered.ensures.only_sees.told in
    let made = newest_reply-made (g.R.Responder.reply_of c.args.site.now) c.enter.new.self
    c.in-Head.request c.is_last-last.result _ _ c.in_ok-entered.ensures.newest
    c.in_ok-entered.ensures.number in
    let p = err_from_is_err_and c.from_residual-in_err-answer.result
    c.from_residual-in_err-answer.ensures.1 in
    let writes = subst (λ (w : List ℕ). Writes w (g.L.Sink.held c.next_head.new.link)
    (g.L.Sink.held c.answer.new.link) (Err c.in_err-answer.field-0.0)) made
    c.in_err-answer.ensures.writes in
    Session-at _ _ _ _ _ _ (rw (p.1, p.2, c.answer.ensures.only_writes.remaining)
    (Session-unanswered _ _ _ _ _ _ _ _ _ _ _ _ _ _ _ c.loop-answered.invariant.progress
    (omega arith) hears (c.next_head.ensures.end c.loop-answered.invariant.end)
    enters c.in_ok-entered.ensures.only_sees.later c.is_last-last.ensures _
    (subst (λ (w : Option (List ℕ)). Writes (newest_reply (g.R.Responder.reply_of c.args.site.now)
    c.enter.new.self c.in-Head.request c.is_last-last.result) w
    (g.L.Sink.held c.answer.new.link) (Err c.in_err-answer.field-0.0))
    c.next_head.ensures.only_reads.held writes)))

pub returns-then-request-clause-session : goal.returns-then-request-clause-session
returns-then-request-clause-session g c =
    let hears = rw c.in-Head.is at c.in_ok-request.ensures.hears in
    let enters = known_entry _ _ c.in_ok-entered.ensures.only_sees.view
    c.in_ok-entered.ensures.entry
    c.in_ok-entered.ensures.informed c.in_ok-entered.ensures.only_sees.told in
    let made = newest_reply-made (g.R.Responder.reply_of c.args.site.now) c.enter.new.self
    c.in-Head.request c.is_last-last.result _ _ c.in_ok-entered.ensures.newest
    c.in_ok-entered.ensures.number in
    let adds = subst (λ (w : List ℕ). Adds (g.L.Sink.held c.next_head.new.link) w
    (g.L.Sink.held c.answer.new.link)) made c.in_ok-answer.ensures.writes in
    Session-at _ _ _ _ _ _ (rw c.answer.ensures.only_writes.remaining
    (Session-closed _ _ _ _ _ _ _ _ _ _ _ _ _ _ _ c.loop-answered.invariant.progress
    (omega arith) hears (c.next_head.ensures.end c.loop-answered.invariant.end)
    enters c.in_ok-entered.ensures.only_sees.later c.is_last-last.ensures
    (rw c.next_head.ensures.only_reads.held at adds) c.if-request.true))

pub loop-answered-init : goal.loop-answered-init
loop-answered-init g c = record {
  progress = rw c.in_ok-heads.ensures.rest (Progress-nothing _ _ _ _);
  end = search rules;
  read_faults = search rules;
  write_faults = search rules;
  same_references = search rules;
  looks = search rules;
  only_sees = OnlySees-none _ c.view_holds.ensures;
}

pub loop-answered-preserved : goal.loop-answered-preserved
loop-answered-preserved g c =
    let hears = rw c.in-Head.is at c.in_ok-request.ensures.hears in
    let enters = known_entry _ _ c.in_ok-entered.ensures.only_sees.view
    c.in_ok-entered.ensures.entry
    c.in_ok-entered.ensures.informed c.in_ok-entered.ensures.only_sees.told in
    let made = newest_reply-made (g.R.Responder.reply_of c.args.site.now) c.enter.new.self
    c.in-Head.request c.is_last-last.result _ _ c.in_ok-entered.ensures.newest
    c.in_ok-entered.ensures.number in
    let adds = subst (λ (w : List ℕ). Adds (g.L.Sink.held c.next_head.new.link) w
    (g.L.Sink.held c.answer.new.link)) made c.in_ok-answer.ensures.writes in
    record {
      progress = rw c.answer.ensures.only_writes.remaining
          (Progress-more _ _ _ _ _ _ _ _ _ _ _ _ _ _ _ c.loop-answered.invariant.progress hears
          enters c.in_ok-entered.ensures.only_sees.later c.is_last-last.ensures
          (rw c.next_head.ensures.only_reads.held at adds) c.if-request.false);
      end = rw c.answer.ensures.only_writes.remaining
          (c.next_head.ensures.end c.loop-answered.invariant.end);
      read_faults = search rules;
      write_faults = search rules;
      same_references = search rules;
      looks = search rules;
      only_sees = OnlySees-then _ _ _ c.loop-answered.invariant.only_sees
          c.in_ok-entered.ensures.only_sees;
    }

pub returns-clause-session : goal.returns-clause-session
returns-clause-session g c =
    Session-at _ _ _ _ _ _ (Session-full _ _ _ _ _ _ _ _ _ c.loop-answered.invariant.progress
    (omega arith) c.loop-answered.invariant.end
    )
