-- What the crates above use in their proofs: what is known of an accepted file.
pub use Rattle.corpus_piece.proofs.AcceptedFiles.{accepted_read}
