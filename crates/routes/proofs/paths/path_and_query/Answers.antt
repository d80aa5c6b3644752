use Rattle.std.proofs.Common.{arith}
use Rattle.std.proofs.lemmas.Str.Pattern.{strip_prefix_char}
use Rattle.routes.proofs.TextLemmas.{after_slash_is, not_absolute}
use Rattle.routes.proofs.paths.path_and_query.Goals as goal

pub returns-in-None : goal.returns-in-None
returns-in-None c =
    let target = c.args.target.now in
    let lacks = rw c.in-None.is at c.strip_prefix.ensures.cases in
    rw (not_absolute target lacks)
    (after_slash_is target c.strip_prefix-in-None.result
    (strip_prefix_char 47 target c.strip_prefix-in-None.result c.strip_prefix-in-None.ensures.cases
    (omega arith)))
