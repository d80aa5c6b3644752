-- Where a read stops is after the position, and not after the end.
use Rattle.std.proofs.Common.{arith, ◌-◌}
use Rattle.link_io.specs.Memory.{cuts_after}
use Rattle.link_io.proofs.Stops.{least-le, least-positive}
use Rattle.link_io.proofs.memory.count_to_stop.Goals as goal

pub returns-clause-within : goal.returns-clause-within
returns-clause-within c =
    omega (
      arith,
      c.requires,
      c.reach.ensures,
      least-le (cuts_after c.args.position c.args.cuts.now)
          (c.args.end - c.args.position),
    )

pub returns-clause-progress : goal.returns-clause-progress
returns-clause-progress c =
    λ room before. omega (
      arith,
      c.reach.ensures,
      least-positive c.args.position c.args.cuts.now
          (c.args.end - c.args.position) (omega arith),
    )
