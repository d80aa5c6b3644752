-- Cited by public clauses.
pub mod Characters
pub mod Chunks
pub mod Cutting
pub mod Declarations
pub mod Files
pub mod Lexical
pub mod Marks
pub mod Numbers
pub mod Position
pub mod Reading
pub mod Texts
pub mod Tokens
pub mod TypeParameters
pub mod Types
-- For types that hold themselves in a value with several owners.
pub mod formers
