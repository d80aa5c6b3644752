-- Cited by public clauses. The marks of a text, which are its links and quotes (Go Doc Comments,
-- "Links" and "Doc links").
use Rattle.std.specs.Prelude.{◌≡◌, ℕ, Bool, false, true, ◌||◌, not, List, [], ◌∷◌, ◌++◌, take}
use Rattle.std.specs.Prelude.{map, if◌then◌else◌, ◌==◌, codes, Option, Some, None}
use Rattle.std.specs.List.{last_or, list_all, list_any, prefix_len}
use Rattle.std.specs.Str.{bytes_eq, chars}
use Rattle.std.specs.Char.{is_ascii_alphanumeric}
use Rattle.go_ast.specs.Characters.{newline, space}
use Rattle.go_chars.specs.Identifiers.{is_letter_or_digit}
use Rattle.comment_blocks.specs.declared.block.LinkDef.{LinkDef}
use Rattle.comment_blocks.specs.Kinds.{is_bracket, is_name_end}
use Rattle.comment_links.specs.declared.part.Inline.{Inline}
use Rattle.comment_links.specs.declared.part.Inline.TheVariants as inlines

-- a mark: what stands before it, how it is written, what stands after it, and what it becomes
pub record Mark : Type 0 where
  pub before : List ℕ
  pub written : List ℕ
  pub after : List ℕ
  pub inline : Inline

-- a text in brackets
abbrev pub bracketed : List ℕ → List ℕ
bracketed text = 91 ∷ (text ++ 93 ∷ [])

-- the URL of the first definition of a text
abbrev pub url_of : List LinkDef → List ℕ → Option (List ℕ)
url_of [] text = None
url_of (link ∷ links) text = if bytes_eq link.text text then Some link.url else url_of links text

-- a newline is read as a space
abbrev pub as_space : ℕ → ℕ
as_space b = if b == newline then space else b

-- "[text]", where the text has no bracket and is defined: a link to the URL of its definition
pub record IsDefinedLink (links : List LinkDef) (mark : Mark) : Type 0 where
  pub text : List ℕ
  pub url : List ℕ
  pub written : mark.written ≡ bracketed text
  pub no_bracket : list_any is_bracket text ≡ false
  pub defined : url_of links (map as_space text) ≡ Some url
  pub inline : mark.inline ≡ inlines.Link text url

-- the last character is a letter or a digit
abbrev pub ends_in_name : List ℕ → Bool
ends_in_name text = is_name_end (last_or None (chars text))

abbrev pub is_name_begin : List ℕ → Bool
is_name_begin [] = false
is_name_begin (c ∷ cs) = is_letter_or_digit c

-- the first character is a letter or a digit
abbrev pub begins_in_name : List ℕ → Bool
begins_in_name text = is_name_begin (chars text)

abbrev pub is_closing : ℕ → Bool
is_closing b = b == 93

-- a body without the star that it may begin with
abbrev pub without_star : List ℕ → List ℕ
without_star [] = []
without_star (b ∷ body) = if b == 42 then body else b ∷ body

-- "[body]", where the body ends at the first closing bracket and has an address, with no letter or
-- digit on either side: a link whose text is the body with its star
pub record IsDocLink (address_of : List ℕ → Option (List ℕ)) (mark : Mark) : Type 0 where
  pub body : List ℕ
  pub href : List ℕ
  pub written : mark.written ≡ bracketed body
  pub no_closing : list_any is_closing body ≡ false
  pub free_before : ends_in_name mark.before ≡ false
  pub free_after : begins_in_name mark.after ≡ false
  pub address : address_of (without_star body) ≡ Some href
  pub inline : mark.inline ≡ inlines.Link body href

pub data IsScheme (scheme : List ℕ) : Type 0 where
  http : scheme ≡ codes "http://" → IsScheme scheme
  https : scheme ≡ codes "https://" → IsScheme scheme
  ftp : scheme ≡ codes "ftp://" → IsScheme scheme

-- a byte that an address may have after its scheme
abbrev pub is_address_byte : ℕ → Bool
is_address_byte b =
    is_ascii_alphanumeric b || list_any (λ mark. mark == b) (codes "-._~/?#@!$&*+=%:,;")

-- a byte that an address may have, and doesn't end with
abbrev pub is_final : ℕ → Bool
is_final b = list_any (λ mark. mark == b) (codes ".,:;?!")

abbrev pub is_address_end : Option ℕ → Bool
is_address_end None = false
is_address_end (Some b) = not (is_final b)

-- the bytes of an address at the front
abbrev pub address_run : List ℕ → List ℕ
address_run text = take (prefix_len is_address_byte text) text

-- a scheme with no letter or digit before it, and the longest run of bytes of an address without
-- its final marks, if anything is left of it: a link to itself
pub record IsAddress (mark : Mark) : Type 0 where
  pub scheme : List ℕ
  pub rest : List ℕ
  pub known : IsScheme scheme
  pub written : mark.written ≡ scheme ++ rest
  pub free_before : ends_in_name mark.before ≡ false
  pub within : list_all is_address_byte rest ≡ true
  pub last : is_address_end (last_or None rest) ≡ true
  pub longest : list_all is_final (address_run mark.after) ≡ true
  pub inline : mark.inline ≡ inlines.Link mark.written mark.written

-- the bytes of U+201C and U+201D
abbrev pub opening_quote : List ℕ
opening_quote = 0xE2 ∷ 0x80 ∷ 0x9C ∷ []

abbrev pub closing_quote : List ℕ
closing_quote = 0xE2 ∷ 0x80 ∷ 0x9D ∷ []

-- two backquotes become an opening quote, two apostrophes a closing one
pub data IsQuote (mark : Mark) : Type 0 where
  opening : mark.written ≡ codes "``" → mark.inline ≡ inlines.Plain opening_quote → IsQuote mark
  closing : mark.written ≡ codes "''" → mark.inline ≡ inlines.Plain closing_quote → IsQuote mark

-- both begin at one place of one text
pub record BeginTogether (mark other : Mark) : Type 0 where
  pub before : mark.before ≡ other.before
  pub rest : mark.written ++ mark.after ≡ other.written ++ other.after

-- a mark is what the first of the rules makes that holds at its place
pub data IsMark (links : List LinkDef) (address_of : List ℕ → Option (List ℕ)) (mark : Mark)
    : Type 0 where
  defined : IsDefinedLink links mark → IsMark links address_of mark
  doc : ((other : Mark) → BeginTogether other mark → ¬ IsDefinedLink links other)
      → IsDocLink address_of mark → IsMark links address_of mark
  address : IsAddress mark → IsMark links address_of mark
  quote : IsQuote mark → IsMark links address_of mark
