use Rattle.std.proofs.Common.{◌≡◌, take, filter}
use Rattle.build_lines.specs.BuildLines.{first_token, is_build_line}
use Rattle.build_lines.proofs.build_line.build_lines.Given as goal

-- the build lines of the comments so far
abbrev pub invariant-loop-comment : goal.invariant-loop-comment
invariant-loop-comment l = l.lines.items
    ≡ filter (is_build_line l.source (first_token l.scanned.tokens))
    (take l.comment-index l.scanned.comments)
