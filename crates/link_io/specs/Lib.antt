-- Cited by public clauses.
pub mod Beside
pub mod Memory
pub mod Streams
-- Cited by private clauses and proofs.
pub mod Attempts
