use Rattle.std.proofs.Common.{◌∙◌}
use Rattle.go_scanner.proofs.Newlines.{one_more, no_more}
use Rattle.go_scanner.proofs.lines.line_starts.Goals as goal

pub loop-line-preserved : goal.loop-line-preserved
loop-line-preserved c =
    let before = c.loop-line.invariant in
    one_more _ _ _ _ _ before.within before.starts c.in-Some.ensures c.in_ok-push-2.ensures.items

pub returns : goal.returns
returns c =
    c.from_vec.ensures
    ∙ no_more c.args.source.now _ c.loop-line.at c.loop-line.invariant.starts
    c.in_default.ensures
