use Rattle.std.proofs.Common.{codes}
use Rattle.std.proofs.lemmas.Str.Pattern.{ends_text}
use Rattle.tree_io.proofs.path.has_go_suffix.Goals as goal

pub returns : goal.returns
returns c = ends_text _ (codes ".go") c.args.path.now c.ends_with.ensures.cases
