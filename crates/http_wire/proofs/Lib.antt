mod AheadLemmas
mod ExistenceLemmas
mod FieldLemmas
mod FrontLemmas
mod LineLemmas
mod ReadingLemmas
mod ReplyLemmas
pub mod RequestLaws
mod StreamLemmas
