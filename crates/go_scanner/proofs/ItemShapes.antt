-- The tokens and comments of items by their shapes.
use Rattle.std.proofs.Common.{◌≡◌, ◌==◌, ℕ, ◌+◌, Bool, true, false, ◌&&◌, ◌||◌, List, [], ◌∷◌}
use Rattle.std.proofs.Common.{◌++◌, length, Option, Some, None, refl, ap, arith, cond}
use Rattle.std.proofs.Common.{length-append, codes}
use Rattle.go_ast.specs.declared.token.Token.{Token}
use Rattle.go_ast.specs.declared.token.TokenKind.TheVariants as kinds
use Rattle.go_ast.specs.Characters.{newline}
use Rattle.go_ast.specs.Lexical.{Item, white_space, byte_order_mark, line_comment, general_comment}
use Rattle.go_ast.specs.Lexical.{spelled, print_item}
use Rattle.go_ast.specs.Reading.{token_of, line_ends, tokens_of, comments_of}
use Rattle.go_scanner.specs.declared.shape.Shape.{Shape}
use Rattle.go_scanner.specs.declared.shape.Shape.TheVariants.{Blank, LineEnd, Comment, General}
use Rattle.go_scanner.specs.declared.shape.Shape.TheVariants.{Token as TokenShape}
use Rattle.go_scanner.specs.Shapes.{shape_of}
use Rattle.go_scanner.specs.Steps.{semicolon_of, added_tokens, comment_of, added_comments}
use Rattle.go_scanner.specs.Steps.{pending_after}

-- whether a line ends at an item or after it
abbrev pub ends_at : Shape → Bool → Bool
ends_at (Blank n) later = later
ends_at LineEnd later = true
ends_at (Comment n) later = true
ends_at (General n lines) later = lines || later
ends_at (TokenShape kind takes n) later = false

-- the tokens of an item before later ones
abbrev pub tokens_before : Shape → ℕ → Bool → List Token → List Token
tokens_before (Blank n) offset ends later = later
tokens_before LineEnd offset ends later = later
tokens_before (Comment n) offset ends later = later
tokens_before (General n lines) offset ends later = later
tokens_before (TokenShape kind takes n) offset ends later =
    token_of kind offset (offset + n) ∷ cond (takes && ends)
    (token_of kinds.AutoSemi (offset + n) (offset + n) ∷ []) [] ++ later

pub line_ends-shape : (item : Item) (items : List Item)
    → line_ends (item ∷ items) ≡ ends_at (shape_of item) (line_ends items)
line_ends-shape (white_space b) items =
    elim (b == newline) as
    (λ t. (t || line_ends items) ≡ ends_at (cond t LineEnd (Blank 1)) (line_ends items))
    [ true ↦ refl | false ↦ refl ]
line_ends-shape byte_order_mark items = refl
line_ends-shape (line_comment content) items = refl
line_ends-shape (general_comment content) items = refl
line_ends-shape (spelled spelling) items = refl

pub tokens_of-shape : (offset : ℕ) (item : Item) (items : List Item)
    → tokens_of offset (item ∷ items) ≡ tokens_before (shape_of item) offset (line_ends items)
    (tokens_of (offset + length (print_item item)) items)
tokens_of-shape offset (white_space b) items =
    elim (b == newline) as
    (λ t. tokens_of (offset + 1) items ≡ tokens_before (cond t LineEnd (Blank 1)) offset
    (line_ends items) (tokens_of (offset + 1) items)) [ true ↦ refl | false ↦ refl ]
tokens_of-shape offset byte_order_mark items = refl
tokens_of-shape offset (line_comment content) items = refl
tokens_of-shape offset (general_comment content) items = refl
tokens_of-shape offset (spelled spelling) items = refl

pub comments_of-shape : (offset : ℕ) (item : Item) (items : List Item)
    → comments_of offset (item ∷ items) ≡ added_comments (shape_of item) offset
    ++ comments_of (offset + length (print_item item)) items
comments_of-shape offset (white_space b) items =
    elim (b == newline) as
    (λ t. comments_of (offset + 1) items ≡ added_comments (cond t LineEnd (Blank 1)) offset
    ++ comments_of (offset + 1) items) [ true ↦ refl | false ↦ refl ]
comments_of-shape offset byte_order_mark items = refl
comments_of-shape offset (line_comment content) items =
    let same : length (print_item (line_comment content)) ≡ length content + 2 = omega arith in
    ap (λ n. comment_of false offset (offset + n)
    ∷ comments_of (offset + length (print_item (line_comment content))) items) same
comments_of-shape offset (general_comment content) items =
    let same : length (print_item (general_comment content)) ≡ length content + 4 =
    omega (arith, length-append content (codes "*/")) in
    ap (λ n. comment_of true offset (offset + n)
    ∷ comments_of (offset + length (print_item (general_comment content))) items) same
comments_of-shape offset (spelled spelling) items = refl

-- the semicolon that the last token takes before these items
abbrev pub semicolon_before : Option ℕ → Bool → List Token
semicolon_before None ends = []
semicolon_before (Some end) ends = cond ends (semicolon_of (Some end)) []

-- what stands pending before an item, and what the item adds, by its shape
pub step_tokens : (shape : Shape) (offset : ℕ) (pending : Option ℕ) (ends : Bool)
    (later : List Token)
    → semicolon_before pending (ends_at shape ends) ++ tokens_before shape offset ends later
    ≡ added_tokens shape offset pending
    ++ (semicolon_before (pending_after shape offset pending) ends ++ later)
step_tokens (Blank n) offset pending ends later = refl
step_tokens LineEnd offset None ends later = refl
step_tokens LineEnd offset (Some end) ends later = refl
step_tokens (Comment n) offset None ends later = refl
step_tokens (Comment n) offset (Some end) ends later = refl
step_tokens (General n true) offset None ends later = refl
step_tokens (General n true) offset (Some end) ends later = refl
step_tokens (General n false) offset pending ends later = refl
step_tokens (TokenShape kind true n) offset None ends later = refl
step_tokens (TokenShape kind true n) offset (Some end) ends later = refl
step_tokens (TokenShape kind false n) offset None ends later = refl
step_tokens (TokenShape kind false n) offset (Some end) ends later = refl
