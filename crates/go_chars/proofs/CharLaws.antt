-- What the crates above use in their proofs: the letters and digits of ASCII.
pub use Rattle.go_chars.proofs.Ascii.{ascii_letters, ascii_digits, mark_no_letter}
