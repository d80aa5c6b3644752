-- A source has at most two tokens a byte.
use Rattle.std.proofs.Common.{◌≡◌, ℕ, ◌+◌, ◌*◌, ◌≤◌, ◌<◌, ◌&&◌, Bool, true, false, List, [], ◌∷◌}
use Rattle.std.proofs.Common.{◌++◌, length, sym, ap, arith}
use Rattle.std.proofs.lemmas.List.{length-append}
use Rattle.std.specs.Prelude.{if◌then◌else◌}
use Rattle.go_ast.specs.declared.token.Token.{Token}
use Rattle.go_ast.specs.declared.token.Comment.{Comment}
use Rattle.go_ast.specs.declared.token.TokenKind.TheVariants.{AutoSemi}
use Rattle.go_ast.specs.Lexical.{Item, Spelling, print_item, Stands, white_space, byte_order_mark}
use Rattle.go_ast.specs.Lexical.{line_comment, general_comment, spelled}
use Rattle.go_ast.specs.Reading.{Leads, Reads, line_ends, takes_semicolon, semicolon_after}
use Rattle.go_ast.specs.Reading.{token_of, tokens_at, tokens_of}
use Rattle.go_scanner.proofs.ScanLaws.{length-print_item-pos}

few_where : (end : ℕ) (b : Bool)
    → length (if b then token_of AutoSemi end end ∷ [] else []) ≤ 1
few_where end true = omega arith
few_where end false = omega arith

item_tokens : (start end : ℕ) (item : Item) (items : List Item)
    → length (tokens_at start end item items) ≤ 2
item_tokens start end (white_space b) items = omega arith
item_tokens start end byte_order_mark items = omega arith
item_tokens start end (line_comment content) items = omega arith
item_tokens start end (general_comment content) items = omega arith
item_tokens start end (spelled spelling) items =
    omega (arith, few_where end (takes_semicolon spelling && line_ends items))

tokens_of_items : (offset : ℕ) (items : List Item) (bytes rest : List ℕ)
    → Leads offset items bytes rest → length (tokens_of offset items) ≤ 2 * length bytes
tokens_of_items offset [] bytes rest same = omega arith
tokens_of_items offset (item ∷ items) bytes rest leads =
    let end = offset + length (print_item item) in
    let later = tokens_of_items end items leads.0 rest leads.3 in
    let whole = ap length leads.1 in
    let parts = length-append (print_item item) leads.0 in
    let some = length-print_item-pos offset item leads.0 leads.2 in
    let here = item_tokens offset end item items in
    let both = length-append (tokens_at offset end item items) (tokens_of end items) in
    omega (arith, later, whole, parts, some, here, both)

-- the tokens of a reading
pub few_tokens : (bytes : List ℕ) (tokens : List Token) (comments : List Comment)
    → Reads bytes tokens comments → length tokens ≤ 2 * length bytes
few_tokens bytes tokens comments read =
    rw read.all_tokens (tokens_of_items 0 read.items bytes [] read.leads)
