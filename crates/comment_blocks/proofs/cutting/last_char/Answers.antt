use Rattle.std.proofs.Common.{None, ◌∙◌, ap}
use Rattle.std.specs.List.{last_or}
use Rattle.std.specs.Str.{chars}
use Rattle.comment_blocks.proofs.LastChars.{last_from}
use Rattle.comment_blocks.proofs.cutting.last_char.Goals as goal

pub returns : goal.returns
returns c =
    c.last_of.ensures ∙ ap (λ t. last_or None (chars t)) c.cut.ensures.back
    ∙ last_from c.args.text.now c.last_start.result c.utf8.text c.last_start.ensures.start
    c.last_start.ensures.before
