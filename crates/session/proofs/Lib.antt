-- Laws of sessions, for the crates above.
pub mod SessionLaws
mod AnsweredLemmas
mod Counted
mod ExchangeLemmas
mod IncomingLemmas
mod PaceLemmas
mod Progress
mod ReplyLemmas
mod SessionEnds
mod StreamLaws
mod TextLemmas
