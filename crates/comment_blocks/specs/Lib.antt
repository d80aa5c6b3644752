-- Cited by public clauses.
pub mod Blocks
pub mod Groups
pub mod Kinds
pub mod Lists
pub mod Spans
pub mod Texts
-- Cited by private clauses and proofs.
pub mod GroupSteps
pub mod LineSteps
pub mod TextSteps
