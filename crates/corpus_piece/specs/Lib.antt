-- Cited by public clauses.
pub mod Outcomes
pub mod Pieces
-- Cited by private clauses and proofs.
pub mod Accepted
pub mod Codes
pub mod Refusals
pub mod Steps
