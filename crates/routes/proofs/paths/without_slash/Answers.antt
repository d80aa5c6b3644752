use Rattle.std.proofs.Common.{arith}
use Rattle.std.proofs.lemmas.Str.Pattern.{strip_suffix_char}
use Rattle.routes.proofs.TextLemmas.{without_slash_some, without_slash_none}
use Rattle.routes.proofs.paths.without_slash.Goals as goal

pub returns-in-Some : goal.returns-in-Some
returns-in-Some c =
    let cases = rw c.in-Some.is at
    (strip_suffix_char 47 c.args.text.now c.strip_suffix.result c.strip_suffix.ensures.cases
    (omega arith)) in
    without_slash_some c.args.text.now _ cases

pub returns-in-None : goal.returns-in-None
returns-in-None c =
    let cases = rw c.in-None.is at
    (strip_suffix_char 47 c.args.text.now c.strip_suffix.result c.strip_suffix.ensures.cases
    (omega arith)) in
    without_slash_none c.args.text.now cases
