use Rattle.go_parser.proofs.FileLaws.{file-not-fault, file-or-fault, one-file, one-file-fault}
use Rattle.go_parser.proofs.laws.one_file_or_fault.Goals as goal

pub returns-clause-either : goal.returns-clause-either
returns-clause-either c = file-or-fault

pub returns-clause-one_file : goal.returns-clause-one_file
returns-clause-one_file c = one-file

pub returns-clause-one_fault : goal.returns-clause-one_fault
returns-clause-one_fault c = λ source tokens x y p q. one-file-fault source tokens x y p q

pub returns-clause-not_both : goal.returns-clause-not_both
returns-clause-not_both c = λ source tokens f x s p. file-not-fault source tokens f x s p
