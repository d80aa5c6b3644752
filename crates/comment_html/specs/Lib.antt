-- Cited by public clauses.
pub mod Escapes
pub mod Html
pub mod Parts
