-- Cited by public clauses.
pub mod Admissions
pub mod BuildLines
pub mod Expressions
pub mod FileNames
pub mod Tags
-- Cited by private clauses and proofs.
pub mod Cuttings
pub mod Evaluations
pub mod Judging
pub mod Reading
