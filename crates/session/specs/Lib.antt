-- Cited by public clauses.
pub mod Pace
pub mod Session
pub mod Text
-- Cited by private clauses and proofs.
pub mod Incoming
pub mod Steps
