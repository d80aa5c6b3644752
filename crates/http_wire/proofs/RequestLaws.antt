-- Laws of the requests in a stream, for the crates above.
pub use Rattle.http_wire.proofs.StreamLemmas.{BeginsWith_unique, HasNoHead-not_begins, no_head_at_end, HasGiven-append, Requests_unique, Requests-append_bad}
