use Rattle.std.proofs.Common.{◌+◌, ◌∙◌}
use Rattle.build_lines.proofs.CutBytes.{last_some, to_end}
use Rattle.build_lines.proofs.part.after_last.Goals as goal

pub returns-in-Some : goal.returns-in-Some
returns-in-Some c =
    to_end (c.in-Some.place + 1) c.args.bytes.now
    ∙ last_some c.args.byte c.args.bytes.now c.in-Some.place c.in-Some.ensures.0
    c.in-Some.ensures.1
