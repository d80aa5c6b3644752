-- Cited by public clauses.
pub mod Path
pub mod Sources
pub mod Scans
pub mod Entries
pub mod MemTree
pub mod FsTree
pub mod Places
pub mod Walks
-- Cited by private clauses and proofs.
pub mod Files
