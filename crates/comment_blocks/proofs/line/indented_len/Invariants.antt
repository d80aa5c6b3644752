use Rattle.std.proofs.Common.{◌≡◌, ◌==◌, ◌+◌, ◌≤◌, length}
use Rattle.std.specs.Prelude.{if◌then◌else◌}
use Rattle.comment_blocks.specs.LineSteps.{reach, texts}
use Rattle.comment_blocks.proofs.line.indented_len.Given as goal

-- the lines up to the last indented one so far, or in the rest
abbrev pub invariant-loop-rest : goal.invariant-loop-rest
invariant-loop-rest l = record {
  left : l.seen + length l.rest ≡ length l.lines;
  within : l.len ≤ l.seen;
  reached : (if reach (texts l.rest) == 0 then l.len else l.seen + reach (texts l.rest))
      ≡ reach (texts l.lines);
}

abbrev pub decreases-loop-rest : goal.decreases-loop-rest
decreases-loop-rest l = length l.rest
