-- Cited by public clauses. The pages, byte for byte. Their wording is the project's own; how a byte
-- is escaped in an address is RFC 3986, section 2.1.
use Rattle.std.specs.Prelude.{◌≡◌, ⊤, ℕ, Bool, true, false, ◌||◌, ◌==◌, List, [], ◌∷◌, ◌++◌, codes}
use Rattle.std.specs.Prelude.{decimal, if◌then◌else◌, map, slice_get, unwrap_or}
use Rattle.std.specs.Char.{is_ascii_alphanumeric}
use Rattle.std.specs.List.{flat_map, list_any}
use Rattle.std.specs.Str.{is_utf8}
use Rattle.corpus.specs.declared.faults.FileFault.{FileFault}
use Rattle.go_ast.specs.declared.fault.Fault.{Fault}
use Rattle.go_ast.specs.declared.fault.Fault.TheVariants as kinds
use Rattle.percent_encoding.specs.Percent.{percent_encode_byte}
use Rattle.text_out.specs.Escape.{escaped}
use Rattle.tree_io.specs.declared.tree.Entry.{Entry}
use Rattle.tree_io.specs.declared.tree.Entry.TheVariants.{Bytes, Unread}
use Rattle.tree_io.specs.Path.{paths_of}
use Rattle.tree_io.specs.Sources.{Sources}
use Rattle.godoc_commands.specs.Faults.{fault_text}

-- a byte that stands for itself in an address: an unreserved character (RFC 3986, section 2.3),
-- which is an ASCII letter, a digit, `-`, `.`, `_` or `~`, and `/`
abbrev pub is_plain : ℕ → Bool
is_plain b = is_ascii_alphanumeric b || list_any (λ mark. b == mark) (codes "-._~/")

-- what stands for a byte of a path in an address
abbrev pub address_byte : ℕ → List ℕ
address_byte b = if is_plain b then b ∷ [] else percent_encode_byte b

-- a path as it stands in an address
abbrev pub address_of : List ℕ → List ℕ
address_of path = flat_map address_byte path

-- what stands before the body part of a page, and what stands after it
unfoldable pub page_start : List ℕ → List ℕ
page_start title =
    codes "<!DOCTYPE html>\n<html><head><meta charset=\"utf-8\"><title>" ++ escaped title
    ++ codes "</title></head><body>\n"

unfoldable pub page_end : List ℕ
page_end = codes "</body></html>\n"

-- the page with a title and a body part
abbrev pub page_with : List ℕ → List ℕ → List ℕ
page_with title body = page_start title ++ body ++ page_end

-- the line of the list for a package
unfoldable pub package_line : List ℕ → List ℕ
package_line path =
    codes "<li><a href=\"/pkg/" ++ address_of path ++ codes "/\">"
    ++ escaped path ++ codes "</a></li>\n"

unfoldable pub list_start : List ℕ
list_start = codes "<h1>Packages</h1>\n<ul>\n"

unfoldable pub list_end : List ℕ
list_end = codes "</ul>\n"

-- the line that counts the files with faults, where there are some
unfoldable pub faults_line : ℕ → List ℕ
faults_line count = if count == 0 then []
    else codes "<p><a href=\"/faults\">" ++ decimal count ++ codes " files with faults</a></p>\n"

-- the page that lists the packages with these paths, next to so many files with faults
abbrev pub list_page : List (List ℕ) → ℕ → List ℕ
list_page paths faults = page_with (codes "Packages")
    (list_start ++ flat_map package_line paths ++ list_end ++ faults_line faults)

-- a file has a page of its own where its bytes are kept, and are UTF-8
abbrev pub has_page : Entry → Bool
has_page (Bytes bytes) = is_utf8 bytes
has_page entry = false

-- what a fault says of the page of its file: a file that isn't UTF-8 has none, one that is too
-- large or unread may have one, and after any other fault it has one
abbrev pub SaysPage : Fault → Entry → Type 0
SaysPage (kinds.NotUtf8 offset) entry = has_page entry ≡ false
SaysPage kinds.FileTooLarge entry = ⊤
SaysPage kinds.Unread entry = ⊤
SaysPage _ entry = has_page entry ≡ true

-- the path of a file, with the address of its page where it has one
unfoldable pub file_link : List ℕ → Bool → List ℕ
file_link path paged = if paged
    then codes "<a href=\"/src/" ++ address_of path ++ codes "\">" ++ escaped path ++ codes "</a>"
    else escaped path

-- the path of the file with a number
abbrev pub path_at : Sources → ℕ → List ℕ
path_at sources number = unwrap_or (slice_get (paths_of sources) number) []

-- what a scan has of the file with a number
abbrev pub entry_at : Sources → ℕ → Entry
entry_at sources number = unwrap_or (slice_get (map (λ source. source.1) sources) number) Unread

-- the line for a fault of a file with this path, which has a page or none
unfoldable pub fault_item : List ℕ → Bool → Fault → List ℕ
fault_item path paged fault =
    codes "<li>" ++ file_link path paged ++ codes ": " ++ escaped (fault_text fault)
    ++ codes "</li>\n"

-- the line for a fault of one of the sources
abbrev pub fault_line : Sources → FileFault → List ℕ
fault_line sources fault = fault_item (path_at sources fault.file)
    (has_page (entry_at sources fault.file)) fault.fault

unfoldable pub faults_start : List ℕ
faults_start = codes "<h1>Faults</h1>\n<ul>\n"

-- the page that lists the files with faults
abbrev pub faults_page : Sources → List FileFault → List ℕ
faults_page sources faults = page_with (codes "Faults")
    (faults_start ++ flat_map (fault_line sources) faults ++ list_end)

-- the body part of a page that says one thing
unfoldable pub message : List ℕ → List ℕ
message title = codes "<h1>" ++ escaped title ++ codes "</h1>\n"

-- the page that says one thing
abbrev pub message_page : List ℕ → List ℕ
message_page title = page_with title (message title)
