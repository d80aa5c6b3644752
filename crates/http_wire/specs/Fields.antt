-- Cited by public clauses. What the fields of a request's head say of the connection and of a body.
use Rattle.std.specs.Prelude.{ℕ, Bool, not, ◌&&◌, ◌==◌, List, map, count_by, codes}
use Rattle.std.specs.List.{list_any, slice_split}
use Rattle.std.specs.Str.{bytes_eq, str_to_ascii_lowercase}
use Rattle.httparse.specs.Ascii.{comma}
use Rattle.httparse.specs.Grammar.{RequestHead, trim_ows}
use Rattle.httparse.specs.Spans.{name_and_value}

-- a field's name, and its value without the white space around it
abbrev pub NameAndValue : Type 0
NameAndValue = List ℕ × List ℕ

-- the fields of a head, in their order
abbrev pub fields_of : RequestHead → List NameAndValue
fields_of head = map name_and_value head.fields

-- the field has this name, which is in lower case; names are compared without case (RFC 9110,
-- section 5.1)
abbrev pub is_named : List ℕ → NameAndValue → Bool
is_named name field = bytes_eq (str_to_ascii_lowercase field.0) name

-- how many of the fields have this name
abbrev pub count_named : List ℕ → List NameAndValue → ℕ
count_named name fields = count_by (is_named name) fields

-- the field announces a body: it is a Content-Length other than `0` (RFC 9110, section 8.6)
abbrev pub announces_body : NameAndValue → Bool
announces_body field =
    is_named (codes "content-length") field && not (bytes_eq field.1 (codes "0"))

-- the parts of a value between its commas (RFC 9110, section 5.6.1)
unfoldable pub between_commas : List ℕ → List (List ℕ)
between_commas value = slice_split (λ b. b == comma) value

-- the text is the option `close`, in any case, with or without white space around it
abbrev pub is_close : List ℕ → Bool
is_close text = bytes_eq (str_to_ascii_lowercase (trim_ows text)) (codes "close")

-- the field asks for a close: it is a Connection that names the option (RFC 9112, section 9.6)
abbrev pub asks_close : NameAndValue → Bool
asks_close field = is_named (codes "connection") field && list_any is_close (between_commas field.1)
