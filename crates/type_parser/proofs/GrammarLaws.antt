-- What the crates above use in their proofs: what words spell is what is read from them, how words
-- are cut, and steps that may give nothing.
pub use Rattle.type_parser.proofs.Options.{bind_some, map_some, guard_some, choice, only_some}
pub use Rattle.type_parser.proofs.Options.{not_empty_some, not_empty-is, each-sound, each-complete}
pub use Rattle.type_parser.proofs.Options.{each-stops, each-ends}
pub use Rattle.type_parser.proofs.Closing.{marks_are, marks_same, marks_differ, differ_marks}
pub use Rattle.type_parser.proofs.Closing.{some-is, pair-is}
pub use Rattle.type_parser.proofs.Closed.{enclosed-sound, enclosed-complete, alone-sound}
pub use Rattle.type_parser.proofs.Closed.{opens-with}
pub use Rattle.type_parser.proofs.Closed.{alone-complete}
pub use Rattle.type_parser.proofs.Pieces.{pieces-more, pieces-last, piece-then, piece-all}
pub use Rattle.type_parser.proofs.Pieces.{no-pieces}
pub use Rattle.type_parser.proofs.Pieces.{split-then, split-none}
pub use Rattle.type_parser.proofs.WordMatching.{opens-not-closes, closes-not-opens, one-less}
pub use Rattle.type_parser.proofs.ParamLaws.{Reads, signature-begins}
pub use Rattle.type_parser.proofs.TypeLaws.{type-sound, type-complete, type-reads, one-type}
pub use Rattle.type_parser.proofs.TypeParamLaws.{read_signature-sound, read_signature-complete}
pub use Rattle.type_parser.proofs.TypeParamLaws.{read_declared-sound, read_declared-complete}
pub use Rattle.type_parser.proofs.TypeParamLaws.{read_entries-sound, read_entries-complete}
pub use Rattle.type_parser.proofs.TypeParamLaws.{read_type_params-sound, read_type_params-complete}
pub use Rattle.type_parser.proofs.TypeParamLaws.{one-declared, one-entries, once, answers}
pub use Rattle.type_parser.proofs.EntryLists.{from-place, length-reverse}
