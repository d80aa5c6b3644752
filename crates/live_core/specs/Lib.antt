-- Cited by public clauses.
pub mod Events
pub mod State
pub mod Trail
-- Cited by private clauses and proofs.
pub mod Steps
