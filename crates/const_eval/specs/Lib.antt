-- Cited by public clauses.
pub mod Constants
pub mod Expressions
pub mod Lengths
pub mod Lexemes
pub mod Operators
-- Cited by private clauses and proofs.
pub mod Machine
pub mod Names
pub mod Progress
pub mod Reading
pub mod Values
