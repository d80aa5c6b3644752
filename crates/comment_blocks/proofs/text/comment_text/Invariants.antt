use Rattle.std.proofs.Common.{◌≡◌, drop}
use Rattle.std.specs.List.{flat_map}
use Rattle.comment_blocks.specs.Texts.{lines_of_comment}
use Rattle.comment_blocks.specs.TextSteps.{after_lines, nothing}
use Rattle.comment_blocks.proofs.text.comment_text.Given as goal

-- the comments from the place on make the whole of what stands before them
abbrev pub invariant-loop-comment : goal.invariant-loop-comment
invariant-loop-comment l =
    after_lines l.lines (flat_map (lines_of_comment l.source) (drop l.comment-index l.comments))
    ≡ after_lines nothing (flat_map (lines_of_comment l.source) l.comments)
