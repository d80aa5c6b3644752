-- What the crates above use in their proofs: a source has one reading or one fault, where its lines
-- and columns are, where its tokens lie, and what stands at the front of a part of it.
pub use Rattle.go_scanner.proofs.OneReading.{not_both, one_reading, read_or_faulty}
pub use Rattle.go_scanner.proofs.Positions.{AreLineStarts-line_starts, position_is}
pub use Rattle.go_scanner.proofs.Spans.{within}
pub use Rattle.go_scanner.proofs.Standing.Boundaries.{utf8_after}
pub use Rattle.go_scanner.proofs.Standing.FirstBytes.{begins_word-identifier}
pub use Rattle.go_scanner.proofs.Standing.Fronts.{SpelledAt-IsSpelled, whole_run}
pub use Rattle.go_scanner.proofs.Standing.Items.{length-print_item-pos}
pub use Rattle.go_literals.proofs.Lists.{same_fronts}
pub use Rattle.go_scanner.proofs.Standing.Names.{front_split, name_found}
