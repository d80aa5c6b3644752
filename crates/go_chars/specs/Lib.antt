-- Cited by public clauses.
pub mod Identifiers
pub mod Letters
