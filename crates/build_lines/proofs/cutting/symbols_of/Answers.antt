use Rattle.std.proofs.Common.{◌≡◌, subst}
use Rattle.std.specs.Str.Iter.{chars_rest}
use Rattle.std.specs.Result.{IfOk}
use Rattle.build_lines.specs.Tags.{holds}
use Rattle.build_lines.proofs.CutText.{ends_at, goes_past, stops_at}
use Rattle.build_lines.proofs.cutting.symbols_of.Goals as goal

pub returns-then-not-branch : goal.returns-then-not-branch
returns-then-not-branch c =
    stops_at (holds c.args.config.now) (chars_rest c.loop-c.c-iterator)
    (chars_rest c.next.new.self) c.in-Some.c c.loop-c.cutting c.take.new.self _
    c.in_ok-take.field-0 c.loop-c.invariant c.in-Some.ensures.steps.0 c.if-not-branch.true
    c.in_ok-take.ensures

pub loop-c-preserved : goal.loop-c-preserved
loop-c-preserved c =
    goes_past (holds c.args.config.now) (chars_rest c.loop-c.c-iterator)
    (chars_rest c.next.new.self) c.in-Some.c c.loop-c.cutting c.take.new.self _
    c.in_ok-take.field-0 c.loop-c.invariant c.in-Some.ensures.steps.0 c.if-not-branch.false
    c.in_ok-take.ensures

pub returns : goal.returns
returns c =
    subst (λ all. IfOk c.end.result (λ symbols. symbols ≡ all))
    (ends_at (holds c.args.config.now)
    (chars_rest c.loop-c.c-iterator) c.loop-c.cutting _ c.loop-c.invariant
    c.in-None.ensures.steps.0.0) c.end.ensures
