use Rattle.std.proofs.Common.{◌≡◌, ◌++◌, length, string_bytes}
use Rattle.std.specs.List.{join_with_byte}
use Rattle.comment_blocks.specs.LineSteps.{texts}
use Rattle.comment_blocks.proofs.plain.joined.Given as goal

-- the text so far and that of the rest are all
abbrev pub invariant-loop-rest : goal.invariant-loop-rest
invariant-loop-rest l = string_bytes l.text ++ join_with_byte 10 (texts l.rest)
    ≡ join_with_byte 10 (texts l.lines)

abbrev pub decreases-loop-rest : goal.decreases-loop-rest
decreases-loop-rest l = length l.rest
