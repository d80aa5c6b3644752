use Rattle.std.proofs.Common.{subst}
use Rattle.build_lines.specs.Expressions.{IsMalformed}
use Rattle.build_lines.specs.Judging.{IsValue}
use Rattle.build_lines.specs.Tags.{holds}
use Rattle.build_lines.proofs.CommentPlaces.{malformed_first}
use Rattle.build_lines.proofs.judge.judge.Goals as goal

pub returns-in-None : goal.returns-in-None
returns-in-None c =
    let malformed = subst IsMalformed c.expression_text.ensures
    (subst (IsValue (holds c.args.config.now) c.expression_text.result.now) c.in-None.is
    c.in_ok-expression_value-in-len1-up.ensures) in
    malformed_first c.args.source.now c.args.config.now c.args.by_name c.args.lines.now _
    c.bad_line.result c.in-len1-up.len_at_least malformed c.bad_line.ensures
