-- Cited by public clauses.
pub mod Cut
pub mod Reading
pub mod TypeParams
-- Cited by private clauses and proofs.
pub mod Entries
pub mod Matching
pub mod Members
pub mod Parts
