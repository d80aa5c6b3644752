-- Cited by public clauses.
pub mod Changes
pub mod Defaults
pub mod Faults
pub mod Find
pub mod Limits
pub mod Outcome
pub mod Pages
pub mod Replies
pub mod Serving
pub mod Status
pub mod Words
-- Cited by private clauses and proofs.
pub mod Asked
pub mod HitLines
pub mod Steps
