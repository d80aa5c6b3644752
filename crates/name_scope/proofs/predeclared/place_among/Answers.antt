use Rattle.std.proofs.Common.{◌+◌, [], Some, ap, sym, ◌∙◌}
use Rattle.name_scope.proofs.Lists.{first_at, next_at}
use Rattle.name_scope.proofs.predeclared.place_among.Goals as goal

pub returns-then-eq : goal.returns-then-eq
returns-then-eq c =
    ap Some c.loop-known.invariant.0
    ∙ first_at c.args.name.now c.args.names.now c.loop-known.known-index
    (record { ref_ptr = (0, 0); now = [] }) c.loop-known-test.true (sym c.eq.ensures
    ∙ c.if-eq.true) c.loop-known.invariant.1

pub loop-known-preserved : goal.loop-known-preserved
loop-known-preserved c = (
  ap (λ n. n + 1) c.loop-known.invariant.0,
  next_at c.args.name.now c.args.names.now c.loop-known.known-index
      (record { ref_ptr = (0, 0); now = [] }) c.loop-known-test.true (sym c.eq.ensures
      ∙ c.if-eq.false) c.loop-known.invariant.1,
)
