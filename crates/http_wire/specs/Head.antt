-- Cited by public clauses. The request heads that are answered: those of the grammar of `httparse`
-- (RFC 9112, sections 2 to 5) that keep the rules below. The limits are the project's own.
use Rattle.std.specs.Prelude.{◌≡◌, ℕ, ◌≤◌, Bool, false, ◌||◌, ◌==◌}
use Rattle.std.specs.Prelude.{List, length, codes, if◌then◌else◌}
use Rattle.std.specs.List.{list_any}
use Rattle.std.specs.Str.{bytes_eq}
use Rattle.httparse.specs.Grammar.{RequestHead, print_request}
use Rattle.http_wire.specs.declared.request.Verb.{Verb}
use Rattle.http_wire.specs.declared.request.Verb.TheVariants as verbs
use Rattle.http_wire.specs.declared.request.Request.{Request}
use Rattle.http_wire.specs.Fields.{NameAndValue, fields_of, count_named}
use Rattle.http_wire.specs.Fields.{announces_body, asks_close}

-- the most bytes of a head, with the empty lines before it
abbrev pub head_limit : ℕ
head_limit = 8192

-- the most fields of a head
abbrev pub field_limit : ℕ
field_limit = 64

-- The rules on the version 1.minor and the fields of a head.
pub record KeepsFieldRules (minor : ℕ) (fields : List NameAndValue) : Type 0 where
  pub few : length fields ≤ field_limit
  -- exactly one Host, and with version 1.0 at most one (RFC 9112, section 3.2)
  pub one_host : count_named (codes "host") fields ≤ 1
  pub host : minor ≡ 1 → count_named (codes "host") fields ≡ 1
  -- no body (RFC 9112, section 6)
  pub no_coding : count_named (codes "transfer-encoding") fields ≡ 0
  pub no_length : list_any announces_body fields ≡ false

-- The rules on a head. The empty lines before it count.
pub record KeepsRules (head : RequestHead) : Type 0 where
  pub size : length (print_request head) ≤ head_limit
  pub rules : KeepsFieldRules head.minor (fields_of head)

-- the verb that a method spells (RFC 9110, section 9.1); methods are compared with their case
abbrev pub verb_of : List ℕ → Verb
verb_of method =
    if bytes_eq method (codes "GET") then verbs.Get
    else (if bytes_eq method (codes "HEAD") then verbs.Head else verbs.Other)

-- the connection closes after the reply: the version is 1.0, or a field asks for it (RFC 9112,
-- section 9.3)
abbrev pub closes : ℕ → List NameAndValue → Bool
closes minor fields = minor == 0 || list_any asks_close fields

-- the request of a head
abbrev pub request_of : RequestHead → Request
request_of head = record {
  verb = verb_of head.method;
  target = head.target;
  close = closes head.minor (fields_of head);
}
