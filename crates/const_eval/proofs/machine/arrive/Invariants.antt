use Rattle.std.proofs.Common.{◌≡◌, reverse, length, take}
use Rattle.const_eval.specs.Machine.{values, arrive}
use Rattle.const_eval.proofs.machine.arrive.Given as goal

abbrev pub invariant-loop-last : goal.invariant-loop-last
invariant-loop-last l = record {
  front : l.rest ≡ take (length l.rest) l.fn.frames;
  same : arrive values (reverse l.rest) l.value ≡ arrive values (reverse l.fn.frames) l.fn.operand;
}

abbrev pub decreases-loop-last : goal.decreases-loop-last
decreases-loop-last l = length l.rest
