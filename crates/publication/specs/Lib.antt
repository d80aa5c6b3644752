-- Cited by public clauses.
pub mod View
-- Cited by private clauses and proofs.
pub mod Codes
pub mod Chronicle
pub mod Slots
pub mod Rule
pub mod Readers
pub mod Publishers
