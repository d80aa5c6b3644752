-- Cited by public clauses.
pub mod Scopes
-- Cited by private clauses and proofs.
pub mod Tables
