-- Cited by public clauses.
pub mod Extents
pub mod Literals
pub mod Options
pub mod Reading
