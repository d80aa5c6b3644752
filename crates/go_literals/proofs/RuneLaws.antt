-- The values of runes by their bytes are those of the elements that print to these bytes.
use Rattle.std.proofs.Common.{◌≡◌, ◌∙◌, ℕ, suc, List, [], ◌∷◌, ◌++◌, ◌≤◌, ◌+◌, ◌&&◌, ◌==◌, length}
use Rattle.std.proofs.Common.{true, false, refl, sym, ap, subst, arith, append-nil, length-append}
use Rattle.std.specs.Prelude.{Some, None, if◌then◌else◌, IsUtf8, option_map}
use Rattle.std.specs.List.{list_all}
use Rattle.std.specs.Char.{encode_utf8, len_utf8, is_ascii_hexdigit}
use Rattle.std.specs.Str.{chars, is_utf8, encode_utf8_all, all_scalars}
use Rattle.std.proofs.lemmas.Bool.Decides.{nat_tests}
use Rattle.std.proofs.lemmas.Str.{IsUtf8-from_is_utf8, chars-encodes, encodes-chars, scalars-chars}
use Rattle.std.proofs.lemmas.Str.{length-encode, length-le-encodes, char_from_byte}
use Rattle.go_ast.specs.Characters.{single_quote, backslash}
use Rattle.go_ast.specs.Numbers.{is_octal_digit}
use Rattle.go_ast.specs.Texts.{Element, character, escape, octal_escape, hexadecimal_escape}
use Rattle.go_ast.specs.Texts.{print_element, is_element, is_unquoted, is_escape_mark}
use Rattle.go_ast.specs.Texts.{is_octal_escape, is_hexadecimal_escape, is_coded, is_scalar}
use Rattle.go_ast.specs.Texts.{value_of}
use Rattle.go_literals.specs.Literals.{escape_value, element_value, print_rune, IsRuneLiteral}
use Rattle.go_literals.specs.Options.{◌|>◌}
use Rattle.go_literals.specs.Reading.{only_character, read_character, read_escape, read_element}
use Rattle.go_literals.specs.Reading.{before_quote, read_rune}
use Rattle.go_literals.proofs.Options.{bind_some, some_is}
use Rattle.go_literals.proofs.RuneBytes.{before_last, read_utf8}
use Rattle.go_literals.proofs.IntegerLaws.{both, nat_same}

-- ---- characters

text_of : (c : ℕ) → is_scalar c ≡ true → IsUtf8 (encode_utf8 c)
text_of c h = (c ∷ [], (h, append-nil (encode_utf8 c)))

character_read : (c : ℕ) → is_scalar c ≡ true → is_unquoted single_quote c ≡ true
    → read_character (encode_utf8 c) ≡ Some c
character_read c h u =
    let one : chars (encode_utf8 c) ≡ c ∷ [] = ap chars (sym (append-nil (encode_utf8 c)))
    ∙ chars-encodes (c ∷ []) h in
    let size : (len_utf8 c == length (encode_utf8 c)) ≡ true = let e :
    len_utf8 c ≡ length (encode_utf8 c) = sym (length-encode c) in
    grind (arith, nat_tests, e) in
    read_utf8 (encode_utf8 c) (text_of c h) ∙ rw (one, u, size) refl

-- a character's bytes begin with no backslash where it isn't one
no_backslash : (c b : ℕ) (bytes : List ℕ) → b ∷ bytes ≡ encode_utf8 c
    → is_unquoted single_quote c ≡ true → (b == backslash) ≡ true → ⊥
no_backslash c b bytes e u h =
    let same : b ≡ backslash = nat_same b backslash h in
    let is : c ≡ b = char_from_byte (b ∷ bytes) [] c (e ∙ sym (append-nil (encode_utf8 c)))
    (omega (arith, same)) (omega arith) in
    let lost : is_unquoted single_quote backslash ≡ true =
    subst (λ t. is_unquoted single_quote t ≡ true) (is ∙ same) u in
    cc

element_read : (bytes : List ℕ) (c : ℕ) → bytes ≡ encode_utf8 c → is_unquoted single_quote c ≡ true
    → read_character bytes ≡ Some c → read_element bytes ≡ Some c
element_read [] c e u p = absurd (let q : 0 ≡ len_utf8 c = ap length e ∙ length-encode c in
    grind (arith, q))
element_read (b ∷ bytes) c e u p = (elim (b == backslash) as (λ t. (b == backslash) ≡ t
    → (if t then read_escape single_quote bytes else read_character (b ∷ bytes)) ≡ Some c) [
      | true ↦ λ h. absurd (no_backslash c b bytes e u h)
      | false ↦ λ h. p
    ]) refl

-- ---- escapes

coded_no_octal : (letter : ℕ) (digits : List ℕ) → is_coded letter digits ≡ true
    → is_octal_digit letter ≡ false
coded_no_octal letter digits h = (elim (letter == 120) as (λ t. (letter == 120) ≡ t
    → (if t then length digits == 2 else (if letter == 117 then length digits == 4
    && is_scalar (value_of 16 digits)
    else (letter == 85 && length digits == 8 && is_scalar (value_of 16 digits)))) ≡ true
    → is_octal_digit letter ≡ false) [
      | true ↦ λ e q. subst (λ t. is_octal_digit t ≡ false) (sym (nat_same letter 120 e)) refl
      | false ↦ λ d.
          (elim (letter == 117) as (λ t. (letter == 117) ≡ t
          → (if t then length digits == 4 && is_scalar (value_of 16 digits)
          else (letter == 85 && length digits == 8 && is_scalar (value_of 16 digits))) ≡ true
          → is_octal_digit letter ≡ false) [
            | true ↦ λ e q. subst (λ t. is_octal_digit t ≡ false) (sym (nat_same letter 117 e)) refl
            | false ↦ λ e q. subst (λ t. is_octal_digit t ≡ false)
                (sym (nat_same letter 85 (both (letter == 85) (length digits == 8)
                (both (letter == 85 && length digits == 8) (is_scalar (value_of 16 digits))
                q).0).0)) refl
          ]) refl
    ]) refl h

coded_some : (letter : ℕ) → is_coded letter [] ≡ false
coded_some letter = grind arith

octal_parts : (b : ℕ) (bytes : List ℕ) → is_octal_digit b ≡ false
    → is_octal_escape (b ∷ bytes) ≡ false
octal_parts b bytes h = grind arith

escape_complete : (element : Element) → is_element single_quote element ≡ true
    → read_element (print_element element) ≡ Some (element_value element)
escape_complete (character c) h =
    let p = both (is_scalar c) (is_unquoted single_quote c) h in
    element_read (encode_utf8 c) c refl p.1 (character_read c p.0 p.1)
escape_complete (escape mark) h = rw h refl
escape_complete (octal_escape []) h = cc
escape_complete (octal_escape (a ∷ [])) h = cc
escape_complete (octal_escape (a ∷ b ∷ digits)) h = rw h refl
escape_complete (hexadecimal_escape letter []) h =
    let q : false ≡ true = sym (coded_some letter)
    ∙ (both (list_all is_ascii_hexdigit []) (is_coded letter []) h).1 in cc
escape_complete (hexadecimal_escape letter (d ∷ digits)) h =
    let coded = (both (list_all is_ascii_hexdigit (d ∷ digits)) (is_coded letter (d ∷ digits))
    h).1 in
    rw (octal_parts letter (d ∷ digits) (coded_no_octal letter (d ∷ digits) coded), h) refl

pub rune_complete : (element : Element) → is_element single_quote element ≡ true
    → read_rune (print_rune element) ≡ Some (element_value element)
rune_complete element h = rw (before_last (print_element element) single_quote)
    (escape_complete element h)

-- ---- what is read is an element

record Inner (bytes : List ℕ) (n : ℕ) : Type 0 where
  element : Element
  valid : is_element single_quote element ≡ true
  printed : print_element element ≡ bytes
  worth : element_value element ≡ n

before_is : (bytes inner : List ℕ) → before_quote bytes ≡ Some inner → bytes ≡ inner
    ++ single_quote ∷ []
before_is [] inner p = cc
before_is (b ∷ []) inner p =
    (elim (b == single_quote) as (λ t. (b == single_quote) ≡ t
    → (if t then Some [] else None) ≡ Some inner → b ∷ [] ≡ inner ++ single_quote ∷ []) [
      | true ↦ λ e q. ap (λ t. t ∷ []) (nat_same b single_quote e)
          ∙ ap (λ t. t ++ single_quote ∷ []) (some_is [] inner q)
      | false ↦ λ e q. cc
    ]) refl p
before_is (b ∷ c ∷ bytes) inner p =
    (elim (before_quote (c ∷ bytes)) as (λ o. before_quote (c ∷ bytes) ≡ o
    → option_map (λ front. b ∷ front) o ≡ Some inner
    → b ∷ c ∷ bytes ≡ inner ++ single_quote ∷ []) [
      | None ↦ λ e q. cc
      | Some front ↦ λ e q. ap (λ t. b ∷ t) (before_is (c ∷ bytes) front e)
          ∙ ap (λ t. t ++ single_quote ∷ []) (some_is (b ∷ front) inner q)
    ]) refl p

escape_sound : (bytes : List ℕ) (n : ℕ) → read_escape single_quote bytes ≡ Some n
    → Inner (backslash ∷ bytes) n
escape_sound [] n p = cc
escape_sound (mark ∷ []) n p =
    (elim (is_escape_mark single_quote mark) as (λ t. is_escape_mark single_quote mark ≡ t
    → (if t then Some (escape_value mark) else None) ≡ Some n
    → Inner (backslash ∷ mark ∷ []) n) [
      | true ↦ λ e q. record {
        element = escape mark;
        valid = e;
        printed = refl;
        worth =
            some_is _ n q;
      }
      | false ↦ λ e q. cc
    ]) refl p
escape_sound (b ∷ c ∷ bytes) n p =
    (elim (is_octal_escape (b ∷ c ∷ bytes)) as (λ t. is_octal_escape (b ∷ c ∷ bytes) ≡ t
    → (if t then Some (value_of 8 (b ∷ c ∷ bytes)) else
    (if is_hexadecimal_escape b (c ∷ bytes) then Some (value_of 16 (c ∷ bytes)) else None)) ≡
    Some n → Inner (backslash ∷ b ∷ c ∷ bytes) n) [
      | true ↦ λ e q. record {
        element = octal_escape (b ∷ c ∷ bytes);
        valid = e;
        printed =
            refl;
        worth = some_is _ n q;
      }
      | false ↦ λ d.
          (elim (is_hexadecimal_escape b (c ∷ bytes)) as
          (λ t. is_hexadecimal_escape b (c ∷ bytes) ≡ t
          → (if t then Some (value_of 16 (c ∷ bytes)) else None) ≡ Some n
          → Inner (backslash ∷ b ∷ c ∷ bytes) n) [
            | true ↦ λ e q. record {
              element = hexadecimal_escape b (c ∷ bytes);
              valid =
                  e;
              printed = refl;
              worth = some_is _ n q;
            }
            | false ↦ λ e q. cc
          ]) refl
    ]) refl p

no_more : (cs : List ℕ) → length (encode_utf8_all cs) ≡ 0 → cs ≡ []
no_more [] h = refl
no_more (c ∷ cs) h = absurd (let q : suc (length cs) ≤ length (encode_utf8_all (c ∷ cs)) =
    length-le-encodes (c ∷ cs) in omega (arith, q, h))

only_sound : (bytes : List ℕ) (n : ℕ) (cs : List ℕ) → all_scalars cs ≡ true
    → encode_utf8_all cs ≡ bytes
    → only_character (length bytes) cs ≡ Some n → Inner bytes n
only_sound bytes n [] s e p = cc
only_sound bytes n (c ∷ cs) s e p =
    (elim (is_unquoted single_quote c) as (λ t. is_unquoted single_quote c ≡ t
    → (if t then (if len_utf8 c == length bytes then Some c else None) else None) ≡ Some n
    → Inner bytes n) [
      | true ↦ λ u. (elim (len_utf8 c == length bytes) as (λ t. (len_utf8 c == length bytes) ≡ t
          → (if t then Some c else None) ≡ Some n → Inner bytes n) [
            | true ↦ λ d q.
                let sizes : length (encode_utf8 c) + length (encode_utf8_all cs) ≡ length bytes =
                sym (length-append (encode_utf8 c) (encode_utf8_all cs)) ∙ ap length e in
                let first : length (encode_utf8 c) ≡ length bytes = length-encode c
                ∙ nat_same (len_utf8 c) (length bytes) d in
                let none : cs ≡ [] = no_more cs (omega arith) in
                let alone : encode_utf8 c ≡ bytes = sym (append-nil (encode_utf8 c))
                ∙ ap (λ t. encode_utf8 c ++ encode_utf8_all t) (sym none) ∙ e in
                let scalar : is_scalar c ≡ true = subst (λ t. all_scalars (c ∷ t) ≡ true) none s in
                record {
                  element = character c;
                  valid = rw (scalar, u) refl;
                  printed = alone;
                  worth =
                      some_is c n q;
                }
            | false ↦ λ d q. cc
          ]) refl
      | false ↦ λ u q. cc
    ]) refl p

character_sound : (bytes : List ℕ) (n : ℕ) → read_character bytes ≡ Some n → Inner bytes n
character_sound bytes n p =
    (elim (is_utf8 bytes) as (λ t. is_utf8 bytes ≡ t
    → (if t then only_character (length bytes) (chars bytes) else None) ≡ Some n → Inner bytes n) [
      | true ↦ λ e q. let u : IsUtf8 bytes = IsUtf8-from_is_utf8 bytes e in
          only_sound bytes n (chars bytes) (scalars-chars bytes u) (encodes-chars bytes u) q
      | false ↦ λ e q. cc
    ]) refl p

inner_sound : (bytes : List ℕ) (n : ℕ) → read_element bytes ≡ Some n → Inner bytes n
inner_sound [] n p = cc
inner_sound (b ∷ bytes) n p =
    (elim (b == backslash) as (λ t. (b == backslash) ≡ t
    → (if t then read_escape single_quote bytes else read_character (b ∷ bytes)) ≡ Some n
    → Inner (b ∷ bytes) n) [
      | true ↦ λ e q. subst (λ t. Inner (t ∷ bytes) n) (sym (nat_same b backslash e))
          (escape_sound bytes n q)
      | false ↦ λ e q. character_sound (b ∷ bytes) n q
    ]) refl p

pub rune_sound : (bytes : List ℕ) (n : ℕ) → read_rune bytes ≡ Some n → IsRuneLiteral bytes n
rune_sound [] n p = cc
rune_sound (b ∷ bytes) n p =
    (elim (b == single_quote) as (λ t. (b == single_quote) ≡ t
    → (if t then before_quote bytes |> read_element else None) ≡ Some n
    → IsRuneLiteral (b ∷ bytes) n) [
      | true ↦ λ e q. let r = bind_some (before_quote bytes) read_element n q in
          let i = inner_sound r.0 n r.2 in
          record {
            element = i.element;
            valid = i.valid;
            worth = i.worth;
            printed = ap (λ t. single_quote ∷ (t ++ single_quote ∷ [])) i.printed
                ∙ ap (λ t. single_quote ∷ t) (sym (before_is bytes r.0 r.1))
                ∙ ap (λ t. t ∷ bytes) (sym (nat_same b single_quote e));
          }
      | false ↦ λ e q. cc
    ]) refl p
