-- Cited by public clauses.
pub mod Corpora
pub mod Snapshots
-- Cited by private clauses and proofs.
pub mod Codes
pub mod Steps
