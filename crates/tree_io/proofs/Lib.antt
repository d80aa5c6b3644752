pub mod Laws
mod Dedup
mod FileMaps
mod Leading
pub mod Reading
mod Segments
