-- Cited by public clauses.
pub mod Escape
