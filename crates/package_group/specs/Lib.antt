-- Cited by public clauses.
pub mod Groups
-- Cited by private clauses and proofs.
pub mod Steps
