use Rattle.std.proofs.Common.{codes}
use Rattle.std.proofs.lemmas.Str.Pattern.{ends_text}
use Rattle.corpus.proofs.accepted.is_test_path.Goals as goal

pub returns : goal.returns
returns c = ends_text _ (codes "_test.go") c.args.path.now c.ends_with.ensures.cases
