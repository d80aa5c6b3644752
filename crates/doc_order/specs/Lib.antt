-- Cited by public clauses.
pub mod Documentation
-- Cited by private clauses and proofs.
pub mod Slots
