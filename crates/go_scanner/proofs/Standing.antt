-- The plain program and the definition of items give the same answers: what the program finds at
-- the front of some bytes stands there, and what stands there the program finds.
pub mod Boundaries
pub mod Comments
pub mod Digits
pub mod FirstBytes
pub mod Floats
pub mod Fronts
pub mod Generals
pub mod Items
pub mod Names
pub mod Numbers
pub mod Operators
pub mod Spellings
pub mod Texts
