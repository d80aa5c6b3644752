use Rattle.std.proofs.Common.{◌≡◌, ◌-◌, ◌<◌, ◌≤◌, length, get_or, true}
use Rattle.comment_links.specs.InlineSteps.{HasNone, IsClosing, may_begin}
use Rattle.comment_links.proofs.reading.next_mark.Given as goal

-- no mark begins before the place, and one may begin there
abbrev pub invariant-loop-start : goal.invariant-loop-start
invariant-loop-start g l = record {
  behind : l.from ≤ l.start;
  within : l.start ≤ length l.text;
  begin : l.start < length l.text → may_begin (get_or l.text l.start 0) ≡ true;
  none : HasNone l.definitions (g.N.Names.address_of l.names) l.text l.from l.start;
  closing : IsClosing l.text l.start l.closing;
}

abbrev pub decreases-loop-start : goal.decreases-loop-start
decreases-loop-start g l = length l.text - l.start
