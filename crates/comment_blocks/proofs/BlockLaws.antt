-- What the crates above use in their proofs: where a text may be cut.
pub use Rattle.comment_blocks.proofs.Boundaries.{before_stop, behind_some, bracket_is_ascii}
pub use Rattle.comment_blocks.proofs.LineCuts.{cut_at}
