use Rattle.std.proofs.Common.{take, drop, sym, ◌∙◌, take-append-drop}
use Rattle.godoc_commands.proofs.find.write_part.Goals as goal

pub returns-clause-front : goal.returns-clause-front
returns-clause-front g c =
    let lines = c.in_ok-lines.lines.items in
    let part = rw c.as_slice.ensures.value at c.in-Err.ensures.failed in record {
      front = take part.0 lines;
      rest = drop part.0 lines;
      all = sym c.in_ok-lines.ensures ∙ sym (take-append-drop part.0 lines);
      added = part.2;
    }
