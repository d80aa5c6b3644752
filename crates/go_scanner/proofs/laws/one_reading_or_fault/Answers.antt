use Rattle.go_scanner.proofs.OneReading as law
use Rattle.go_scanner.proofs.laws.one_reading_or_fault.Goals as goal

pub returns-clause-either : goal.returns-clause-either
returns-clause-either c = law.read_or_faulty

pub returns-clause-one_reading : goal.returns-clause-one_reading
returns-clause-one_reading c = law.one_reading

pub returns-clause-one_fault : goal.returns-clause-one_fault
returns-clause-one_fault c = law.one_fault

pub returns-clause-not_both : goal.returns-clause-not_both
returns-clause-not_both c = law.not_both
