-- Cited by public clauses.
pub mod Notes
pub mod Sentences
pub mod Synopses
-- Cited by private clauses and proofs.
pub mod SentenceSteps
