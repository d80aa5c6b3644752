use Rattle.std.proofs.Common.{◌==◌, ◌∙◌, ap}
use Rattle.std.specs.List.{before_first}
use Rattle.build_lines.specs.FileNames.{stem_of, without_test}
use Rattle.build_lines.proofs.file_name.stem_of.Goals as goal

pub returns : goal.returns
unfolding stem_of
returns c = c.without_test.ensures
    ∙ ap without_test (c.before_first.ensures
    ∙ ap (before_first (λ b. b == 46)) c.after_last.ensures)
