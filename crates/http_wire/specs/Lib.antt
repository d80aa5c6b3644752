-- Cited by public clauses.
pub mod Fields
pub mod Head
pub mod Reading
pub mod Reply
pub mod Requests
-- Cited by private clauses and proofs.
pub mod Front
