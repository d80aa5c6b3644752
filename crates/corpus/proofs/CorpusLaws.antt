-- What the crates above use in their proofs: the pieces of a set of sources, one more and all; what
-- is known of the files that a corpus keeps; the hits under a name; and that the numbers of its
-- files are those of its sources.
pub use Rattle.corpus.proofs.HitsByName.{has_hits_by_name}
pub use Rattle.corpus.proofs.Inputs.{length-files}
pub use Rattle.corpus.proofs.KeptFiles.{IsAcceptedIn, faults_in_range, kept_are_accepted}
pub use Rattle.corpus.proofs.PieceLists.{input_more, inputs_all}
