use Rattle.std.proofs.Common.{inl, sym, ap, ◌∙◌, drop, take, Err, arith}
use Rattle.std.proofs.lemmas.Bool.{false≢true}
use Rattle.http_wire.specs.Front.{request_at}
use Rattle.http_wire.specs.Requests.{StandsHead}
use Rattle.http_wire.proofs.FrontLemmas.{never_too_many, begins_at, breaks_at, on_err}
use Rattle.http_wire.proofs.AheadLemmas.{undecided_if_partial}
use Rattle.http_wire.proofs.front.read_front.Goals as goal

pub returns-in_err-request-clause-memory : goal.returns-in_err-request-clause-memory
returns-in_err-request-clause-memory c =
    let complete = rw c.in-Ok-Complete.field-0-is at c.in-Ok-Complete.ensures.complete in
    let within = rw c.in-Ok-Complete.field-0-is at c.in-Ok-Complete.ensures.within in
    let head = c.in-Ok-Complete.head in
    let inside = within.section.len_fits in
    let stands : StandsHead c.args.bytes.now = (
      request_at c.args.bytes.now head (take head.headers _),
      drop head.len c.args.bytes.now,
      begins_at _ _ head complete.0 complete.1 (omega arith)
          (c.keeps_field_rules.ensures.0 c.if-not-keeps_field_rules.false),
    ) in
    on_err _ _ stands

pub returns-then-not-keeps_field_rules-clause-front : goal.returns-then-not-keeps_field_rules-clause-front
returns-then-not-keeps_field_rules-clause-front c =
    let complete = rw c.in-Ok-Complete.field-0-is at c.in-Ok-Complete.ensures.complete in
    breaks_at _ _ c.in-Ok-Complete.head complete.0 complete.1
    (λ rules. false≢true
    (sym c.if-not-keeps_field_rules.true ∙ c.keeps_field_rules.ensures.1 rules))

pub returns-clause-front : goal.returns-clause-front
returns-clause-front c =
    let complete = rw c.in-Ok-Complete.field-0-is at c.in-Ok-Complete.ensures.complete in
    let within = rw c.in-Ok-Complete.field-0-is at c.in-Ok-Complete.ensures.within in
    let head = c.in-Ok-Complete.head in
    let inside = within.section.len_fits in (
      inside,
      rw c.in_ok-request.ensures
          (begins_at _ _ head complete.0 complete.1 (omega arith)
          (c.keeps_field_rules.ensures.0 c.if-not-keeps_field_rules.false)),
    )

pub returns-in-Ok-Partial-clause-front : goal.returns-in-Ok-Partial-clause-front
returns-in-Ok-Partial-clause-front c =
    let partial = rw c.in-Ok-Partial.field-0-is at c.in-Ok-Partial.ensures.partial in
    let unfinished = rw c.in-Ok-Partial.field-0-is at c.in-Ok-Partial.ensures.unfinished in
    undecided_if_partial c.args.bytes.now partial unfinished

pub returns-in-Err-clause-front : goal.returns-in-Err-clause-front
returns-in-Err-clause-front c =
    let bytes = c.args.bytes.now in
    let never = (rw c.in-Err.is at c.parse_request.ensures.invalid)
    (λ is. never_too_many bytes _
    (c.parse_request.ensures.too_many
    (c.in-Err.is ∙ ap Err is)) c.requires.short c.requires.room) in
    record { line = sym c.has_line.ensures ∙ c.if-has_line.true; never = never }

pub returns-in-Err-2-clause-front : goal.returns-in-Err-2-clause-front
returns-in-Err-2-clause-front c = inl (sym c.has_line.ensures ∙ c.if-has_line.false)
