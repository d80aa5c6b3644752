-- The name at the front of a text, byte by byte.
use Rattle.std.proofs.Common.{◌≡◌, ℕ, zero, suc, add-one, ⊎_elim, ◌+◌, ◌≤◌, ◌<◌, true, false}
use Rattle.std.proofs.Common.{List, [], ◌∷◌, ◌++◌, length}
use Rattle.std.proofs.Common.{drop, get_or, IsUtf8, encode_utf8, encode_utf8_all, sym, ap, ◌∙◌}
use Rattle.std.proofs.Common.{subst, inl, inr, refl, arith, one-add, length-append, length-drop}
use Rattle.std.specs.List.{prefix_len, take_while}
use Rattle.std.specs.Char.{len_utf8}
use Rattle.std.specs.Str.{chars}
use Rattle.std.proofs.lemmas.List.{drop_more, drop_all}
use Rattle.std.proofs.lemmas.Str.{encode_ascii, chars_past_char, IsUtf8-past_char, drop_past_char}
use Rattle.std.proofs.lemmas.Str.{length-encode}
use Rattle.std.proofs.lemmas.Bool.{cases_lt, or_cases}
use Rattle.std.proofs.lemmas.List.Sums.{prefix_len_passes, prefix_len_stops, prefix_len-le-length}
use Rattle.std.specs.Char.{is_ascii_digit}
use Rattle.go_chars.specs.Identifiers.{is_letter_or_digit}
use Rattle.go_scanner.specs.FrontWords.{word_at}
use Rattle.go_scanner.specs.Classes.{is_ascii_letter, is_word_byte}
use Rattle.go_scanner.proofs.Standing.FirstBytes.{letter_below, digit_below}
use Rattle.go_scanner.proofs.Standing.FirstBytes.{is_letter_or_digit-ascii}
use Rattle.go_literals.proofs.Characters.{chars-ascii, after_ascii_utf8}

-- the name by the characters
more_of : (bytes : List ℕ) (c : ℕ) (cs : List ℕ) → chars bytes ≡ c ∷ cs
    → is_letter_or_digit c ≡ true
    → word_at bytes ≡ encode_utf8 c ++ encode_utf8_all (take_while is_letter_or_digit cs)
unfolding word_at
more_of bytes c cs e passes = ap (λ l. encode_utf8_all (take_while is_letter_or_digit l)) e
    ∙ rw (passes, one-add) refl

none_of : (bytes : List ℕ) (c : ℕ) (cs : List ℕ) → chars bytes ≡ c ∷ cs
    → is_letter_or_digit c ≡ false → word_at bytes ≡ []
unfolding word_at
none_of bytes c cs e fails = ap (λ l. encode_utf8_all (take_while is_letter_or_digit l)) e
    ∙ rw fails refl

word_at-chars : (bytes : List ℕ) → encode_utf8_all (take_while is_letter_or_digit (chars bytes))
    ≡ word_at bytes
unfolding word_at
word_at-chars bytes = refl

word_at-nil : word_at [] ≡ []
unfolding word_at chars
word_at-nil = refl

-- the name so far, and what is left of it
pub record WordFrom (text : List ℕ) (end : ℕ) : Type 0 where
  pub within : end ≤ length text
  pub utf8 : IsUtf8 (drop end text)
  pub rest : end + length (word_at (drop end text)) ≡ length (word_at text)

pub start : (text : List ℕ) → IsUtf8 text → WordFrom text 0
start text utf8 = record { within = omega arith; utf8 = utf8; rest = omega arith }

module _ (text : List ℕ) (end : ℕ) (before : WordFrom text end) where
  module _ (within : end < length text) (low : get_or text end 0 < 128) where
    here : drop end text ≡ get_or text end 0 ∷ drop (end + 1) text
    here = drop_more text end 0 within

    here_chars : chars (drop end text) ≡ get_or text end 0 ∷ chars (drop (end + 1) text)
    here_chars = ap chars here ∙ chars-ascii (get_or text end 0) (drop (end + 1) text) low

    pub past_ascii : is_letter_or_digit (get_or text end 0) ≡ true → WordFrom text (end + 1)
    past_ascii passes =
        let b = get_or text end 0 in
        let whole : word_at (drop end text) ≡ b ∷ word_at (drop (end + 1) text) =
        more_of (drop end text) b (chars (drop (end + 1) text)) here_chars passes
        ∙ ap (λ l. l
        ++ encode_utf8_all (take_while is_letter_or_digit (chars (drop (end + 1) text))))
        (encode_ascii b low)
        ∙ ap (λ l. b ∷ l) (word_at-chars (drop (end + 1) text)) in
        record {
          within = omega arith;
          utf8 = after_ascii_utf8 [] b (drop (end + 1) text) low (subst IsUtf8 here before.utf8);
          rest = omega (arith, before.rest, ap length whole);
        }

    pub stops_ascii : is_letter_or_digit (get_or text end 0) ≡ false → end ≡ length (word_at text)
    stops_ascii fails =
        let none =
        none_of (drop end text) (get_or text end 0) (chars (drop (end + 1) text)) here_chars
        fails in
        omega (arith, before.rest, ap length none)

  module _ (c : ℕ) (rest : List ℕ) (split : drop end text ≡ encode_utf8 c ++ rest) where
    wide_chars : chars (drop end text) ≡ c ∷ chars rest
    wide_chars = chars_past_char (drop end text) rest c before.utf8 split

    pub past_wide : (n : ℕ) → n ≡ length (encode_utf8 c) → is_letter_or_digit c ≡ true
        → WordFrom text (end + n)
    past_wide n size passes =
        let whole : word_at (drop end text) ≡ encode_utf8 c ++ word_at rest =
        more_of (drop end text) c (chars rest) wide_chars passes
        ∙ ap (λ l. encode_utf8 c ++ l) (word_at-chars rest) in
        let place : n ≡ len_utf8 c = size ∙ length-encode c in
        let past : drop (end + n) text ≡ rest = ap (λ k. drop (end + k) text) place
        ∙ drop_past_char text rest end c split in
        let long : length (drop end text) ≡ length (encode_utf8 c) + length rest =
        ap length split ∙ length-append (encode_utf8 c) rest in
        record {
          within = omega (arith, long, length-drop end text, size, before.within);
          utf8 = subst IsUtf8 (sym past)
              (IsUtf8-past_char (drop end text) rest c before.utf8 split);
          rest = omega (
            arith,
            before.rest,
            ap length whole,
            length-append (encode_utf8 c) (word_at rest),
            size,
            ap (λ l. length (word_at l)) past,
          );
        }

    pub stops_wide : is_letter_or_digit c ≡ false → end ≡ length (word_at text)
    stops_wide fails =
        let none = none_of (drop end text) c (chars rest) wide_chars fails in
        omega (arith, before.rest, ap length none)

  pub ends : length text ≤ end → end ≡ length (word_at text)
  ends past =
      let none = ap word_at (drop_all end text past) ∙ word_at-nil in
      omega (arith, before.rest, ap length none)

word_byte_below : (b : ℕ) → is_word_byte b ≡ true → b < 128
word_byte_below b h = elim (or_cases (is_ascii_letter b) (is_ascii_digit b) h) [
  | inl e ↦ letter_below b e
  | inr e ↦ digit_below b e
]

-- the letters and digits of ASCII at the front are part of the name
pub ascii_front : (text : List ℕ) → IsUtf8 text → (k : ℕ) → k ≤ prefix_len is_word_byte text
    → WordFrom text k
ascii_front text utf8 zero few = start text utf8
ascii_front text utf8 (suc k) few =
    let passes : is_word_byte (get_or text k 0) ≡ true =
    prefix_len_passes is_word_byte text k 0 (omega arith) in
    let within : k < length text = omega (arith, prefix_len-le-length is_word_byte text) in
    let low = word_byte_below (get_or text k 0) passes in
    subst (WordFrom text) (add-one k)
    (past_ascii text k (ascii_front text utf8 k (omega arith)) within low
    (is_letter_or_digit-ascii (get_or text k 0) low ∙ passes))

-- where they end, and no character past ASCII follows, the name ends
pub ascii_word : (text : List ℕ) → IsUtf8 text → (n : ℕ) → n ≡ prefix_len is_word_byte text
    → (n < length text → get_or text n 0 < 128) → n ≡ length (word_at text)
ascii_word text utf8 n found low =
    let before = ascii_front text utf8 n (omega arith) in
    ⊎_elim
    (λ (within : n < length text).
    let stops : is_word_byte (get_or text n 0) ≡ false =
    subst (λ k. is_word_byte (get_or text k 0) ≡ false) (sym found)
    (prefix_len_stops is_word_byte text 0 (omega arith)) in
    stops_ascii text n before within (low within)
    (is_letter_or_digit-ascii (get_or text n 0) (low within) ∙ stops))
    (λ (past : length text ≤ n). ends text n before past)
    (cases_lt n (length text))
