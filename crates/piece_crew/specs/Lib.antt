-- Cited by public clauses.
pub mod Claims
pub mod Jobs
-- Cited by private clauses and proofs.
pub mod Bundles
pub mod Rule
