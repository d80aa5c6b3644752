use Rattle.std.proofs.Common.{◌≡◌, ◌++◌, length}
use denote.Shadow.{shadow}
use denote.Text.{Utf8}
use Rattle.comment_blocks.specs.Texts.{lines_of}
use Rattle.comment_blocks.specs.LineSteps.{texts}
use Rattle.comment_blocks.proofs.line.lines_of.Given as goal

-- the lines so far and those of the rest are all
abbrev pub invariant-loop-end : goal.invariant-loop-end
invariant-loop-end l = shadow (Utf8 l.rest)
    × (texts l.lines.items ++ lines_of l.rest ≡ lines_of l.text)

abbrev pub decreases-loop-end : goal.decreases-loop-end
decreases-loop-end l = length l.rest
