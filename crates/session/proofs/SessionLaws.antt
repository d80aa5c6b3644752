-- Laws of sessions, for the crates above.
pub use Rattle.session.proofs.ExchangeLemmas.{Exchange-unbegun, Exchange-grown}
pub use Rattle.session.proofs.SessionEnds.{Session-at, Session-unbegun}
pub use Rattle.session.proofs.TextLemmas.{edition_at-grown}
