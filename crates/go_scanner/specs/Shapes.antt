-- Cited by private clauses and proofs. What stands at the front of some bytes, found by one test
-- after another: the plain program next to the definition of the items of a source, which gives the
-- same.
use Rattle.std.specs.Prelude.{ℕ, ◌+◌, ◌-◌, Bool, true, false, ◌&&◌, not, List, [], ◌∷◌, length}
use Rattle.std.specs.Prelude.{take, drop, if◌then◌else◌, ◌==◌, nat_eq, nat_lt, Option, Some, None}
use Rattle.std.specs.Prelude.{option_map, slice_index, codes}
use Rattle.std.specs.List.{prefix_len, starts_with}
use Rattle.std.specs.Str.{chars}
use Rattle.go_chars.specs.Letters.{is_letter}
use Rattle.go_chars.specs.Identifiers.{is_among, keywords}
use Rattle.go_ast.specs.declared.token.TokenKind.{TokenKind}
use Rattle.go_ast.specs.declared.token.TokenKind.TheVariants.{Ident, Keyword, Rune, Text, Operator}
use Rattle.go_ast.specs.declared.token.TokenKind.TheVariants.{Semi}
use Rattle.go_ast.specs.declared.fault.Fault.{Fault}
use Rattle.go_ast.specs.declared.fault.Fault.TheVariants.{BadToken, OpenComment, OpenString}
use Rattle.go_ast.specs.Characters.{newline, carriage_return, single_quote, double_quote}
use Rattle.go_ast.specs.Characters.{back_quote, byte_order_mark_bytes, is_white_space}
use Rattle.go_ast.specs.Lexical.{Item, white_space, byte_order_mark, line_comment, general_comment}
use Rattle.go_ast.specs.Lexical.{spelled, print_spelling, operators, number_run, begins_number}
use Rattle.go_ast.specs.Reading.{kind_of, takes_semicolon, has_newline}
use Rattle.go_scanner.specs.FrontWords.{word_at}
use Rattle.go_scanner.specs.NumberBytes.{number_kind}
use Rattle.go_literals.specs.Extents.{string_length, rune_length, raw_length}
use Rattle.go_scanner.specs.TextBytes.{comment_end, opens_string}
use Rattle.go_scanner.specs.declared.shape.Shape.{Shape}
use Rattle.go_scanner.specs.declared.shape.Shape.TheVariants.{Blank, LineEnd, Comment, General}
use Rattle.go_scanner.specs.declared.shape.Shape.TheVariants.{Token}

-- the shape of an item
abbrev pub shape_of : Item → Shape
shape_of (white_space b) = if b == newline then LineEnd else Blank 1
shape_of byte_order_mark = Blank 3
shape_of (line_comment content) = Comment (length content + 2)
shape_of (general_comment content) = General (length content + 4) (has_newline content)
shape_of (spelled spelling) =
    Token (kind_of spelling) (takes_semicolon spelling) (length (print_spelling spelling))

-- a line comment goes to the newline, but for a carriage return directly before it
abbrev pub comment_length : List ℕ → ℕ
comment_length bytes = let line = prefix_len (λ b. not (b == newline)) bytes in
    if nat_lt line (length bytes) && slice_index bytes (line - 1) == carriage_return then line - 1
    else line

-- a general comment of so many bytes between its marks
abbrev pub general_of : List ℕ → ℕ → Shape
general_of bytes n = General (n + 4) (has_newline (take n bytes))

-- the general comment whose opening mark stands before the bytes
unfoldable pub general_shape : List ℕ → Option Shape
general_shape bytes = option_map (general_of bytes) (comment_end bytes)

abbrev pub number_of : ℕ → TokenKind → Shape
number_of n kind = Token kind true n

unfoldable pub number_shape : List ℕ → Option Shape
number_shape bytes =
    option_map (number_of (length (number_run bytes))) (number_kind (number_run bytes))

-- the first character is a letter
abbrev pub begins_letter : List ℕ → Bool
begins_letter [] = false
begins_letter (c ∷ characters) = is_letter c

unfoldable pub begins_word : List ℕ → Bool
begins_word bytes = begins_letter (chars bytes)

unfoldable pub word_shape : List ℕ → Shape
word_shape word = if is_among keywords word
    then Token Keyword
    (is_among (codes "break" ∷ codes "continue" ∷ codes "fallthrough" ∷ codes "return" ∷ []) word)
    (length word)
    else Token Ident true (length word)

abbrev pub text_of_length : ℕ → Shape
text_of_length n = Token Text true (n + 1)

-- the text, the rune or the raw text whose opening mark stands before the bytes
unfoldable pub text_shape : List ℕ → Option Shape
text_shape bytes = option_map text_of_length (string_length double_quote 0 bytes)

unfoldable pub rune_shape : List ℕ → Option Shape
rune_shape bytes = let n = rune_length bytes in
    if nat_lt 0 n && slice_index bytes n == single_quote then Some (Token Rune true (n + 2))
    else None

unfoldable pub raw_shape : List ℕ → Option Shape
raw_shape bytes =
    if nat_lt (raw_length bytes) (length bytes) then Some (Token Text true (raw_length bytes + 2))
    else None

abbrev pub mark_shape : List ℕ → Shape
mark_shape mark =
    Token Operator
    (is_among (codes "++" ∷ codes "--" ∷ codes ")" ∷ codes "]" ∷ codes "}" ∷ []) mark) (length mark)

-- the longest operator is tried first
unfoldable pub operator_shape : List ℕ → Option Shape
operator_shape bytes = if is_among operators (take 3 bytes) then Some (mark_shape (take 3 bytes))
    else (if is_among operators (take 2 bytes) then Some (mark_shape (take 2 bytes))
    else (if is_among operators (take 1 bytes) then Some (mark_shape (take 1 bytes)) else None))

-- what stands at the front by its first byte, where no number, word, white space and comment does
unfoldable pub marked_shape : ℕ → List ℕ → Option Shape
marked_shape b bytes = if b == double_quote then text_shape (drop 1 bytes)
    else (if b == single_quote then rune_shape (drop 1 bytes)
    else (if b == back_quote then raw_shape (drop 1 bytes)
    else (if b == 59 then Some (Token Semi false 1)
    else operator_shape bytes)))

-- what stands at the front, where no white space and no comment does
unfoldable pub spelling_shape : ℕ → List ℕ → Option Shape
spelling_shape b bytes = if begins_number bytes then number_shape bytes
    else (if begins_word bytes then Some (word_shape (word_at bytes)) else marked_shape b bytes)

-- what stands at the front past the start of the source
unfoldable pub item_shape : List ℕ → Option Shape
item_shape [] = None
item_shape (b ∷ rest) = let bytes = b ∷ rest in
    if b == newline then Some LineEnd
    else (if is_white_space b then Some (Blank 1)
    else (if starts_with nat_eq bytes (codes "//") then Some (Comment (comment_length bytes))
    else (if starts_with nat_eq bytes (codes "/*") then general_shape (drop 2 bytes)
    else spelling_shape b bytes)))

-- what stands at the front of the bytes, at the start of the source or past it
unfoldable pub shape_at : Bool → List ℕ → Option Shape
shape_at at_start bytes = if at_start && starts_with nat_eq bytes byte_order_mark_bytes
    then Some (Blank 3) else item_shape bytes

-- how many bytes a shape has
abbrev pub length_of : Shape → ℕ
length_of (Blank n) = n
length_of LineEnd = 1
length_of (Comment n) = n
length_of (General n lines) = n
length_of (Token kind takes n) = n

-- the fault of bytes at whose front no item stands, at this offset of the source
unfoldable pub fault_at : ℕ → List ℕ → Fault
fault_at offset bytes = if starts_with nat_eq bytes (codes "/*") then OpenComment offset
    else (if opens_string bytes then OpenString offset else BadToken offset)
