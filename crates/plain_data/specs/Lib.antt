-- Cited by public clauses.
pub mod Causes
pub mod Counts
-- For types that hold themselves in a sequence.
pub mod formers
