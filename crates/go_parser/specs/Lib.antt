-- Cited by public clauses.
pub mod Results
pub mod ChunkFacts
-- Cited by private clauses and proofs.
pub mod Bodies
pub mod Cutter
pub mod Parsing
pub mod Reading
