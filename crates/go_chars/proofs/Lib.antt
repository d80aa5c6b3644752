mod Ascii
mod Words
pub mod CharLaws
