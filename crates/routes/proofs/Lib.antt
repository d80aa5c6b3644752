mod RowLemmas
mod TableLemmas
mod TextLemmas
