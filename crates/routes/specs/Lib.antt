-- Cited by public clauses.
pub mod Targets
-- Cited by private clauses and proofs.
pub mod Rows
