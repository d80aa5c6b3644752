-- Cited by public clauses. What a request asks for, by the table of routes. The routes are the
-- project's own.
use Rattle.std.specs.Prelude.{ℕ, ◌-◌, ◌==◌, Bool, ◌&&◌, nat_eq, nat_lt, nat_le, if◌then◌else◌}
use Rattle.std.specs.Prelude.{List, [], ◌∷◌, length, take, drop, codes}
use Rattle.std.specs.Prelude.{Option, Some, None, option_map}
use Rattle.std.specs.Char.{is_ascii_digit}
use Rattle.std.specs.List.{before_first, after_first, ends_with, find, list_all, starts_with}
use Rattle.std.specs.Str.{byte, bytes_eq, is_utf8}
use Rattle.std.specs.Str.Lossy.{utf8_lossy}
use Rattle.std.specs.Str.Parse.{digits_value}
use Rattle.form_urlencoded.specs.Form.{decode, raw_pairs}
use Rattle.go_chars.specs.Identifiers.{is_name}
use Rattle.http_wire.specs.declared.request.Request.{Request}
use Rattle.http_wire.specs.declared.request.Verb.{Verb}
use Rattle.http_wire.specs.declared.request.Verb.TheVariants as verbs
use Rattle.percent_encoding.specs.Percent.{percent_decode}
use Rattle.routes.specs.declared.router.Page.{Page}
use Rattle.routes.specs.declared.router.Page.TheVariants as pages
use Rattle.routes.specs.declared.target.Target.{Target}
use Rattle.routes.specs.declared.target.Target.TheVariants as targets

-- ---- the parts of a target (RFC 9112, section 3.2)

abbrev pub is_slash : ℕ → Bool
is_slash b = b == byte "/"

abbrev pub is_question_mark : ℕ → Bool
is_question_mark b = b == byte "?"

-- what follows a leading slash
abbrev pub after_slash : List ℕ → Option (List ℕ)
after_slash [] = None
after_slash (b ∷ rest) = if is_slash b then Some rest else None

-- what follows the leading slash of a target; in absolute form that is the slash after the
-- authority, and nothing follows where there is none
abbrev pub path_and_query : List ℕ → Option (List ℕ)
path_and_query target =
    if starts_with nat_eq target (codes "http://")
    then Some (after_first is_slash (drop 7 target)) else after_slash target

-- the path, which ends before the first `?`, and the query after that (RFC 3986, section 3.4)
abbrev pub path_of : List ℕ → List ℕ
path_of rest = before_first is_question_mark rest

abbrev pub query_of : List ℕ → List ℕ
query_of rest = after_first is_question_mark rest

-- ---- the table of routes, for a path without its leading slash

-- a pattern is one path, or all that begin with a folder's prefix and have at least one more byte
pub data Pattern : Type 0 where
  exactly below : List ℕ → Pattern

-- the path has this prefix and at least one more byte
abbrev pub is_below : List ℕ → List ℕ → Bool
is_below prefix path = starts_with nat_eq path prefix && nat_lt (length prefix) (length path)

-- the pattern matches the path
abbrev pub matches : Pattern → List ℕ → Bool
matches (exactly text) path = bytes_eq text path
matches (below prefix) path = is_below prefix path

-- the table, with a page for each pattern
abbrev pub route_table : List (Pattern × Page)
route_table =
    (exactly (codes ""), pages.List)
    ∷ (exactly (codes "pkg"), pages.List)
    ∷ (exactly (codes "pkg/"), pages.List)
    ∷ (below (codes "pkg/"), pages.Package)
    ∷ (below (codes "src/"), pages.Source)
    ∷ (exactly (codes "search"), pages.Search)
    ∷ (exactly (codes "faults"), pages.Faults)
    ∷ []

-- the page of the first row whose pattern matches the path
abbrev pub page_at : List ℕ → Option Page
page_at path = option_map (λ row. row.1) (find (λ row. matches row.0 path) route_table)

-- what follows `pkg/` or `src/`
abbrev pub value_of : List ℕ → List ℕ
value_of path = drop 4 path

-- ---- the values of paths

-- the text that a value stands for (RFC 3986, section 2.1), if it is UTF-8; a bad escape stays as
-- it is written
abbrev pub decoded : List ℕ → Option (List ℕ)
decoded value = if is_utf8 (percent_decode value) then Some (percent_decode value) else None

-- the text without one final slash
abbrev pub without_slash : List ℕ → List ℕ
without_slash text =
    if ends_with nat_eq text (codes "/") then take (length text - 1) text else text

abbrev pub package_target : List ℕ → Target
package_target value = elim (decoded value) [
  | Some path ↦ targets.PackagePage (without_slash path)
  | None ↦ targets.BadTarget
]

abbrev pub source_target : List ℕ → Target
source_target value = elim (decoded value) [
  | Some path ↦ targets.SourcePage path
  | None ↦ targets.BadTarget
]

-- ---- the query of a search (URL Standard, section 5.1)

-- the text of a name or a value, in which each sequence that isn't UTF-8 is a U+FFFD
abbrev pub form_text : List ℕ → List ℕ
form_text bytes = utf8_lossy (decode bytes)

-- the value of the first of these pairs that has the name
abbrev pub first_value_of : List ℕ → List (List ℕ × List ℕ) → Option (List ℕ)
first_value_of name [] = None
first_value_of name ((key, value) ∷ pairs) =
    if bytes_eq (form_text key) name then Some (form_text value) else first_value_of name pairs

abbrev pub first_value : List ℕ → List ℕ → Option (List ℕ)
first_value name query = first_value_of name (raw_pairs query)

-- the most digits of the number of a page
abbrev pub page_digits_limit : ℕ
page_digits_limit = 6

-- at least one digit and no more than these, and a number of at least 1
abbrev pub is_page_number : List ℕ → Bool
is_page_number text =
    nat_lt 0 (length text) && nat_le (length text) page_digits_limit
    && list_all is_ascii_digit text && nat_lt 0 (digits_value 10 text)

abbrev pub page_number : List ℕ → Option ℕ
page_number text = if is_page_number text then Some (digits_value 10 text) else None

-- the page that the value of `p` asks for: the first where there is none
abbrev pub page_asked : Option (List ℕ) → Option ℕ
page_asked None = Some 1
page_asked (Some text) = page_number text

abbrev pub search_at : List ℕ → Option ℕ → Target
search_at name None = targets.BadTarget
search_at name (Some page) = targets.Search name page

-- a search by the values of `q` and `p`: for an identifier that isn't a keyword
abbrev pub search_by : Option (List ℕ) → Option (List ℕ) → Target
search_by None page = targets.BadTarget
search_by (Some name) page =
    if is_name name then search_at name (page_asked page) else targets.BadTarget

abbrev pub search_target : List ℕ → Target
search_target query = search_by (first_value (codes "q") query) (first_value (codes "p") query)

-- ---- a request

-- what is asked for at a page, by the path and the query
abbrev pub at_page : Option Page → List ℕ → List ℕ → Target
at_page None path query = targets.NotFound
at_page (Some pages.List) path query = targets.List
at_page (Some pages.Package) path query = package_target (value_of path)
at_page (Some pages.Source) path query = source_target (value_of path)
at_page (Some pages.Search) path query = search_target query
at_page (Some pages.Faults) path query = targets.Faults

abbrev pub by_path : List ℕ → List ℕ → Target
by_path path query = at_page (page_at path) path query

abbrev pub by_rest : Option (List ℕ) → Target
by_rest None = targets.BadTarget
by_rest (Some rest) = by_path (path_of rest) (query_of rest)

-- a method other than GET and HEAD is judged before the target
abbrev pub by_verb : Verb → List ℕ → Target
by_verb verbs.Get target = by_rest (path_and_query target)
by_verb verbs.Head target = by_rest (path_and_query target)
by_verb verbs.Other target = targets.BadVerb

-- what a request asks for
abbrev pub target_of : Request → Target
target_of request = by_verb request.verb request.target
