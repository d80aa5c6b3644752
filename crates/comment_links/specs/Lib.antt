-- Cited by public clauses.
pub mod Inlines
pub mod InlinesOf
pub mod Marks
-- Cited by private clauses and proofs.
pub mod InlineSteps
