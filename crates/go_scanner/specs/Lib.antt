-- Cited by public clauses.
pub mod FrontWords
pub mod Results
pub mod LineIndex
-- Cited by private clauses and proofs.
pub mod Bases
pub mod Classes
pub mod Marks
pub mod NumberBytes
pub mod Shapes
pub mod Steps
pub mod TextBytes
