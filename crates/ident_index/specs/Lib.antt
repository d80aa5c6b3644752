-- Cited by public clauses.
pub mod Hits
pub mod Naming
pub mod Postings
-- Cited by private clauses and proofs.
pub mod Places
pub mod Tables
