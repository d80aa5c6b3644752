-- Cited by private clauses and proofs. What the parser's offsets say of a stream's first bytes.
use Rattle.std.specs.Prelude.{ℕ, ◌≤◌, List, length, drop, map}
use Rattle.httparse.specs.declared.spans.HeaderSpan.{HeaderSpan}
use Rattle.httparse.specs.declared.spans.RequestSpans.{RequestSpans}
use Rattle.httparse.specs.Spans.{span_bytes, header_bytes}
use Rattle.http_wire.specs.declared.front.Front.{Front}
use Rattle.http_wire.specs.declared.front.Front.TheVariants as fronts
use Rattle.http_wire.specs.declared.request.Request.{Request}
use Rattle.http_wire.specs.Fields.{NameAndValue}
use Rattle.http_wire.specs.Head.{closes, verb_of}
use Rattle.http_wire.specs.Requests.{BeginsWith, BreaksRule, IsHopeless, IsUndecided}

-- the fields that the spans cover
abbrev pub fields_at : List ℕ → List HeaderSpan → List NameAndValue
fields_at buffer spans = map (header_bytes buffer) spans

-- the request whose parts the spans cover
abbrev pub request_at : List ℕ → RequestSpans → List HeaderSpan → Request
request_at buffer head spans = record {
  verb = verb_of (span_bytes buffer head.method);
  target = span_bytes buffer head.path;
  close = closes head.version (fields_at buffer spans);
}

-- what the result says of the bytes
abbrev pub IsFront : List ℕ → Front → Type 0
IsFront bytes (fronts.Head request len) =
    (len ≤ length bytes) × BeginsWith bytes request (drop len bytes)
IsFront bytes fronts.Broken = BreaksRule bytes
IsFront bytes fronts.Hopeless = IsHopeless bytes
IsFront bytes fronts.NoHead = IsUndecided bytes
