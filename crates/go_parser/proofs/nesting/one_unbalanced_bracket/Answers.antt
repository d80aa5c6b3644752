use Rattle.go_parser.proofs.BracketLaws.{nested-or-not, not-both, one-fault}
use Rattle.go_parser.proofs.nesting.one_unbalanced_bracket.Goals as goal

pub returns-clause-never_both : goal.returns-clause-never_both
returns-clause-never_both c = not-both

pub returns-clause-once : goal.returns-clause-once
returns-clause-once c = one-fault

pub returns-clause-either : goal.returns-clause-either
returns-clause-either c = nested-or-not
