-- What the parser's answer says of the front of a stream.
use Rattle.std.proofs.Common.{◌≡◌, ℕ, ◌+◌, ◌*◌, ◌<◌, ◌≤◌, List, [], ◌∷◌, length, take, drop, sym, ap, ap₂, ◌∙◌, subst, arith, length-append, Result, Ok, Err}
use Rattle.std.specs.Prelude.{All, OnErr}
use Rattle.std.proofs.lemmas.List.Elements.{All-tail}
use Rattle.std.specs.List.{flat_map}
use Rattle.httparse.specs.declared.spans.HeaderSpan.{HeaderSpan}
use Rattle.httparse.specs.declared.spans.RequestSpans.{RequestSpans}
use Rattle.httparse.specs.Grammar.{LineEnd, crlf, lf, print_end, Field, IsField, print_field, RequestHead, print_request}
use Rattle.httparse.specs.Spans.{IsRequestAt, RequestExceeds}
use Rattle.http_wire.specs.Fields.{fields_of}
use Rattle.http_wire.specs.Head.{KeepsFieldRules, KeepsRules, closes, verb_of}
use Rattle.http_wire.specs.Front.{fields_at, request_at}
use Rattle.http_wire.specs.Requests.{BeginsWith, BreaksRule}

-- ---- how many fields a head can have

-- each field takes at least three bytes
fields_fit : (fields : List Field) → All IsField fields
    → 3 * length fields ≤ length (flat_map print_field fields)
fields_fit [] all = omega arith
fields_fit (field ∷ fields) all =
    let first : IsField field = all 0 field (omega arith) in
    let name : 0 < length field.name = first.name.0 in
    let rest : 3 * length fields ≤ length (flat_map print_field fields) =
    fields_fit fields (All-tail IsField field fields all) in
    let end = end_fits field.end in
    simp length-append (omega arith)
  where
    end_fits : (end : LineEnd) → 1 ≤ length (print_end end)
    end_fits crlf = omega arith
    end_fits lf = omega arith

section_fits : (head : RequestHead) → length (flat_map print_field head.fields) ≤ length
    (print_request head)
unfolding print_request
section_fits head = simp length-append (omega arith)

-- so few bytes never hold too many fields for the room
pub never_too_many : (bytes : List ℕ) (room : ℕ) → RequestExceeds room bytes → length bytes ≤ 8192
    → room ≡ 2731 → ⊥
never_too_many bytes room (front, rest, is, head, reads, many) short room_is =
    let whole : length bytes ≡ length front + length rest = ap length is
    ∙ length-append front rest in
    let text : length front + 1 ≡ length (print_request head) + 0 =
    sym (length-append front (10 ∷ [])) ∙ ap length reads.1
    ∙ length-append (print_request head) [] in
    let fields = fields_fit head.fields reads.0.fields in
    let section = section_fits head in
    omega arith

-- ---- a head, and what its spans cover

pub rules_from_fields : (bytes : List ℕ) (spans : List HeaderSpan) (found : RequestSpans)
    (head : RequestHead)
    → IsRequestAt bytes spans found head → found.len ≤ 8192
    → KeepsFieldRules found.version (fields_at bytes (take found.headers spans)) → KeepsRules head
rules_from_fields bytes spans found head at short rules =
    let len = at.len in
    record {
      size = omega arith;
      rules = subst (λ v. KeepsFieldRules v (fields_of head)) at.version
          (subst (KeepsFieldRules found.version) at.fields rules);
    }

pub fields_from_rules : (bytes : List ℕ) (spans : List HeaderSpan) (found : RequestSpans)
    (head : RequestHead)
    → IsRequestAt bytes spans found head → KeepsRules head
    → KeepsFieldRules found.version (fields_at bytes (take found.headers spans))
fields_from_rules bytes spans found head at rules =
    subst (KeepsFieldRules found.version) (sym at.fields)
    (subst (λ v. KeepsFieldRules v (fields_of head)) (sym at.version) rules.rules)

-- the fields keep the rules: the head is a request
pub begins_at : (bytes : List ℕ) (spans : List HeaderSpan) (found : RequestSpans)
    (head : RequestHead)
    → IsRequestAt bytes spans found head → found.len ≤ 8192
    → KeepsFieldRules found.version (fields_at bytes (take found.headers spans))
    → BeginsWith bytes (request_at bytes found (take found.headers spans)) (drop found.len bytes)
begins_at bytes spans found head at short rules = record {
  head = head;
  reads = at.reads;
  rules = rules_from_fields bytes spans found head at short rules;
  is = cc (ap verb_of at.method, at.path, ap₂ closes at.version at.fields);
}

-- they don't: the head breaks a rule
pub breaks_at : (bytes : List ℕ) (spans : List HeaderSpan) (found : RequestSpans)
    (head : RequestHead)
    → IsRequestAt bytes spans found head
    → (KeepsFieldRules found.version (fields_at bytes (take found.headers spans)) → ⊥)
    → BreaksRule bytes
breaks_at bytes spans found head at broken = (
  head,
  drop found.len bytes,
  at.reads,
  λ rules. broken
      (fields_from_rules bytes spans found head at rules),
)

-- a fact holds at an error, whichever it is
pub on_err : {T E : Type 0} (r : Result T E) (P : Type 0) → P → OnErr r P
on_err (Ok x) P fact = tt
on_err (Err e) P fact = fact
