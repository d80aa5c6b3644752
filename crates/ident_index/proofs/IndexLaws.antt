-- What the crates above use in their proofs: the hits of sources with readings have names, which
-- are the texts of their identifiers, and rise; what a table has under a name, that it is the only
-- one, and how many hits it has.
pub use Rattle.ident_index.proofs.Finding.{hits_of_table}
pub use Rattle.ident_index.proofs.OneTable.{same_table}
pub use Rattle.ident_index.proofs.Texts.{hits_begin, hits_of_text, hits_of_texts, hits_rise}
pub use Rattle.ident_index.proofs.Texts.{names_of_texts, texts_rise}
pub use Rattle.ident_index.proofs.Totals.{total_of_table}
