-- Cited by public clauses. The synopsis of a comment's text: the first sentence of its first
-- paragraph (go/doc, "Package.Synopsis").
use Rattle.std.specs.Prelude.{ℕ, Bool, true, false, ◌&&◌, ◌||◌, not, List, [], ◌∷◌, Option, Some}
use Rattle.std.specs.Prelude.{None, if◌then◌else◌, ◌==◌, codes, encode_utf8_all}
use Rattle.std.specs.List.{starts_with}
use Rattle.std.specs.Char.{eq_ignore_ascii_case}
use Rattle.std.specs.Str.{chars}
use Rattle.go_chars.specs.Letters.{is_upper}
use Rattle.go_ast.specs.Characters.{space, newline, full_stop}
use Rattle.comment_blocks.specs.declared.block.Block.{Block}
use Rattle.comment_blocks.specs.declared.block.Block.TheVariants.{Paragraph}
use Rattle.comment_blocks.specs.Texts.{is_blank}
use Rattle.comment_blocks.specs.Blocks.{blocks_of}

-- a blank or a newline
abbrev pub is_white : ℕ → Bool
is_white c = is_blank c || c == newline

abbrev pub begins_with_space : List ℕ → Bool
begins_with_space [] = false
begins_with_space (c ∷ cs) = c == space

-- a character before a text in which each run of blanks and newlines is one space
abbrev pub with_character : ℕ → List ℕ → List ℕ
with_character c text =
    if is_white c then (if begins_with_space text then text else space ∷ text) else c ∷ text

-- each run of blanks and newlines is made one space
abbrev pub squeezed : List ℕ → List ℕ
squeezed [] = []
squeezed (c ∷ cs) = with_character c (squeezed cs)

-- U+3002 and U+FF0E
abbrev pub is_wide_stop : ℕ → Bool
is_wide_stop c = c == 0x3002 || c == 0xFF0E

abbrev pub is_capital : Option ℕ → Bool
is_capital None = false
is_capital (Some c) = is_upper c

-- an upper case letter that stands alone, as in "J. Doe", by the character before it
abbrev pub is_initial : Option ℕ → Option ℕ → Bool
is_initial before letter = is_capital letter && not (is_capital before)

-- the text ends, or continues with a space
abbrev pub is_space_or_end : List ℕ → Bool
is_space_or_end [] = true
is_space_or_end (c ∷ cs) = c == space

-- a sentence ends with a character, by the two characters before it and the text after it
abbrev pub ends_sentence : Option ℕ → Option ℕ → ℕ → List ℕ → Bool
ends_sentence earlier before c after =
    is_wide_stop c
    || (c == full_stop && is_space_or_end after && not (is_initial earlier before))

-- what of the first sentence stands after two characters
abbrev pub sentence_behind : Option ℕ → Option ℕ → List ℕ → List ℕ
sentence_behind earlier before [] = []
sentence_behind earlier before (c ∷ cs) =
    c ∷ (if ends_sentence earlier before c cs then [] else sentence_behind before (Some c) cs)

-- the first sentence of a text, in UTF-8
abbrev pub first_sentence : List ℕ → List ℕ
first_sentence text = encode_utf8_all (sentence_behind None None (squeezed (chars text)))

-- the text begins with the word, in any case of ASCII letters
abbrev pub begins_in_any_case : List ℕ → List ℕ → Bool
begins_in_any_case word text = starts_with eq_ignore_ascii_case text word

-- what begins so is no synopsis
abbrev pub is_notice : List ℕ → Bool
is_notice text =
    begins_in_any_case (codes "copyright") text || begins_in_any_case (codes "all rights") text
    || begins_in_any_case (codes "author") text

abbrev pub synopsis_of_sentence : List ℕ → List ℕ
synopsis_of_sentence sentence = if is_notice sentence then [] else sentence

abbrev pub synopsis_of_block : Block → List ℕ
synopsis_of_block (Paragraph text) = synopsis_of_sentence (first_sentence text)
synopsis_of_block _ = []

abbrev pub synopsis_of_blocks : List Block → List ℕ
synopsis_of_blocks [] = []
synopsis_of_blocks (block ∷ blocks) = synopsis_of_block block

-- the synopsis of a text
abbrev pub synopsis_of : List ℕ → List ℕ
synopsis_of text = synopsis_of_blocks (blocks_of text)
