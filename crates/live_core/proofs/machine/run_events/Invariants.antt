use Rattle.std.proofs.Common.{◌≡◌, ◌+◌, ◌≤◌, List, ◌++◌, drop}
use Rattle.live_core.specs.declared.event.Event.{Event}
use Rattle.live_core.specs.Events.{answers_from, core_answers}
use Rattle.live_core.specs.State.{IsAfter}
use Rattle.live_core.proofs.machine.run_events.Given as goal

-- the core is after some past, over which the rest of the events completes the answers
abbrev pub invariant-loop-event : goal.invariant-loop-event
invariant-loop-event l = record {
  past : List Event;
  after : IsAfter l.sources past l.core;
  answers : l.answers ++ answers_from l.sources past (drop l.event-index l.events) ≡ core_answers
      l.sources l.events;
  editions : l.core.editions ≤ l.event-index + 1;
}
