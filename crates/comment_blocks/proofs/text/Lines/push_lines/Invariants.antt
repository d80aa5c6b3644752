use Rattle.std.proofs.Common.{◌≡◌, length}
use denote.Shadow.{shadow}
use denote.Text.{Utf8}
use Rattle.comment_blocks.specs.Texts.{lines_of}
use Rattle.comment_blocks.specs.TextSteps.{after_lines}
use Rattle.comment_blocks.proofs.text.Lines.push_lines.Given as goal

-- the lines of the rest make the whole of what stands before them
abbrev pub invariant-loop-end : goal.invariant-loop-end
invariant-loop-end l = shadow (Utf8 l.rest)
    × (after_lines l.self (lines_of l.rest) ≡ after_lines l.fn.self (lines_of l.text))

abbrev pub decreases-loop-end : goal.decreases-loop-end
decreases-loop-end l = length l.rest
