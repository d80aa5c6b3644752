mod Codes
mod DigitRuns
mod Found
mod RuneBytes
mod StringScan
mod Values
pub mod Ascii
pub mod Characters
pub mod Escapes
pub mod IntegerLaws
pub mod Lists
pub mod Options
pub mod Places
pub mod Quoted
pub mod RuneLaws
