use Rattle.corpus_piece.proofs.OneOutcome as law
use Rattle.corpus_piece.proofs.OneOutcome.{Laws}
use Rattle.corpus_piece.proofs.laws.one_outcome.Goals as goal

pub returns : goal.returns
returns c =
    let laws : Laws = record {
      read_or_faulty = c.one_reading_or_fault.ensures.either;
      file_or_faulty = c.one_file_or_fault.ensures.either;
      one_expression = c.one_expression.ensures;
      one_reading = c.one_reading_or_fault.ensures.one_reading;
      one_scan_fault = c.one_reading_or_fault.ensures.one_fault;
      read_not_faulty = c.one_reading_or_fault.ensures.not_both;
      one_file = c.one_file_or_fault.ensures.one_file;
      one_file_fault = c.one_file_or_fault.ensures.one_fault;
      file_not_faulty = c.one_file_or_fault.ensures.not_both;
    } in
    record { one = law.one_outcome laws; some = law.some_outcome laws }
