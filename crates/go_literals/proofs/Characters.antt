-- Characters and their bytes: what follows a front of UTF-8, and what the first byte tells.
use Rattle.std.proofs.Common.{◌≡◌, ◌==◌, ℕ, ◌+◌, ◌≤◌, ◌<◌, ◌/◌, ◌%◌, true, false, List, [], ◌∷◌}
use Rattle.std.proofs.Common.{◌++◌, length, take, drop, get_or, nat_lt, nat_le, IsUtf8}
use Rattle.std.proofs.Common.{encode_utf8, encode_utf8_all, sym, ap, ◌∙◌, subst, refl, inl, inr}
use Rattle.std.proofs.Common.{arith, length-append, append_assoc}
use Rattle.std.specs.List.{list_all}
use Rattle.std.specs.Str.{all_scalars, chars, IsCharBoundary}
use Rattle.std.proofs.lemmas.Bool.{and_parts, and_from, lt-ltb, le-ltb, le-leb, ne_eqb, cases_lt}
use Rattle.std.proofs.lemmas.List.{take_at, drop_at, get_or_at}
use Rattle.std.proofs.lemmas.Str.{IsUtf8-drop, IsCharBoundary-from_take}
use Rattle.std.proofs.lemmas.Str.{IsCharBoundary-after_ascii, IsCharBoundary-before_ascii}
use Rattle.std.proofs.lemmas.Str.{chars-append, chars-encodes, encode_ascii, byte_from_char}
use Rattle.std.proofs.lemmas.Str.{char_from_byte}
use lib.Utf8.{scalar, encode, next}
use Rattle.go_ast.specs.Characters.{newline, backslash}
use Rattle.go_ast.specs.Texts.{is_scalar, is_unquoted}

-- what follows a front that is UTF-8
pub rest_utf8 : (xs ys : List ℕ) → IsUtf8 xs → IsUtf8 (xs ++ ys) → IsUtf8 ys
rest_utf8 xs ys front whole =
    let bs = xs ++ ys in
    let n = length xs in
    let taken : take n bs ≡ xs = take_at xs ys n refl in
    let boundary : IsCharBoundary bs n =
    IsCharBoundary-from_take bs n whole (omega (arith, length-append xs ys))
    (subst IsUtf8 (sym taken) front) in
    subst IsUtf8 (drop_at xs ys n refl) (IsUtf8-drop bs n whole boundary)

-- what follows a byte of ASCII
pub after_ascii_utf8 : (xs : List ℕ) (x : ℕ) (ys : List ℕ) → x < 128 → IsUtf8 (xs ++ x ∷ ys)
    → IsUtf8 ys
after_ascii_utf8 xs x ys low whole =
    let bs = xs ++ x ∷ ys in
    let n = length xs in
    let here : get_or bs n 0 ≡ x = get_or_at xs x ys 0 n refl in
    let boundary : IsCharBoundary bs (n + 1) =
    IsCharBoundary-after_ascii bs n whole (omega (arith, length-append xs (x ∷ ys)))
    (omega (arith, here)) in
    let past : drop (n + 1) bs ≡ ys = ap (drop (n + 1)) (sym (append_assoc xs (x ∷ []) ys))
    ∙ drop_at (xs ++ x ∷ []) ys (n + 1) (length-append xs (x ∷ [])) in
    subst IsUtf8 past (IsUtf8-drop bs (n + 1) whole boundary)

-- what begins with a byte of ASCII
pub before_ascii_utf8 : (xs : List ℕ) (y : ℕ) (ys : List ℕ) → y < 128 → IsUtf8 (xs ++ y ∷ ys)
    → IsUtf8 (y ∷ ys)
before_ascii_utf8 xs y ys low whole =
    let bs = xs ++ y ∷ ys in
    let n = length xs in
    let here : get_or bs n 0 ≡ y = get_or_at xs y ys 0 n refl in
    let boundary : IsCharBoundary bs n =
    IsCharBoundary-before_ascii bs n (omega (arith, length-append xs (y ∷ ys)))
    (omega (arith, here)) in
    subst IsUtf8 (drop_at xs (y ∷ ys) n refl) (IsUtf8-drop bs n whole boundary)

-- the first character of a text
pub record FirstCharacter (bytes : List ℕ) : Type 0 where
  pub character : ℕ
  pub more : List ℕ
  pub valid : is_scalar character ≡ true
  pub split : bytes ≡ encode_utf8 character ++ more
  pub utf8 : IsUtf8 more

first_of : (b : ℕ) (bytes cs : List ℕ) → all_scalars cs ≡ true → encode_utf8_all cs ≡ b ∷ bytes
    → FirstCharacter (b ∷ bytes)
first_of b bytes [] all e = cc
first_of b bytes (c ∷ cs) all e =
    let parts = and_parts (scalar c) (all_scalars cs) all in
    record {
      character = c;
      more = encode_utf8_all cs;
      valid =
          and_from (scalar c) true parts.0 refl;
      split = sym e;
      utf8 = (cs, (parts.1, refl));
    }

pub first_character : (b : ℕ) (bytes : List ℕ) → IsUtf8 (b ∷ bytes) → FirstCharacter (b ∷ bytes)
first_character b bytes utf8 = first_of b bytes utf8.0 utf8.1.0 utf8.1.1

pub scalar_one : (c : ℕ) → is_scalar c ≡ true → scalar c ≡ true
scalar_one c h = (and_parts (scalar c) true h).0

-- the characters of some text, and those after it
pub chars-front : (cs rest : List ℕ) → all_scalars cs ≡ true
    → chars (encode_utf8_all cs ++ rest) ≡ cs ++ chars rest
chars-front cs rest all =
    chars-append (encode_utf8_all cs) rest (cs, (all, refl))
    ∙ ap (λ l. l ++ chars rest) (chars-encodes cs all)

pub chars-ascii : (b : ℕ) (bytes : List ℕ) → b < 128 → chars (b ∷ bytes) ≡ b ∷ chars bytes
unfolding chars
chars-ascii b [] low = let t : nat_lt b 128 ≡ true = lt-ltb b 128 low in rw t refl
chars-ascii b (x ∷ bytes) low = let t : nat_lt b 128 ≡ true = lt-ltb b 128 low in rw t refl

-- the bytes of a character: the first, and the others
pub record Encoded (c : ℕ) : Type 0 where
  pub byte : ℕ
  pub others : List ℕ
  pub split : encode_utf8 c ≡ byte ∷ others
  pub low : c < 128 → byte ≡ c
  pub alone : c < 128 → others ≡ []
  pub high : 128 ≤ c → 128 ≤ byte
  pub all_high : 128 ≤ c → list_all (nat_le 128) (byte ∷ others) ≡ true

high_byte : (c : ℕ) → nat_le 128 (next c) ≡ true
high_byte c = le-leb 128 (128 + c % 64) (omega arith)

high_lead : (n c : ℕ) → 128 ≤ n → nat_le 128 (n + c) ≡ true
high_lead n c h = le-leb 128 (n + c) (omega arith)

encoded_ascii : (c : ℕ) → c < 128 → Encoded c
encoded_ascii c h = record {
  byte = c;
  others = [];
  split = encode_ascii c h;
  low = λ low. refl;
  alone = λ low. refl;
  high = λ high. high;
  all_high = λ high. absurd (omega arith);
}

two_bytes : (c : ℕ) → nat_lt c 128 ≡ false → nat_lt c 2048 ≡ true
    → encode c ≡ (192 + c / 64) ∷ next c ∷ []
unfolding encode
two_bytes c t u = rw (t, u) refl

three_bytes : (c : ℕ) → nat_lt c 128 ≡ false → nat_lt c 2048 ≡ false → nat_lt c 65536 ≡ true
    → encode c ≡ (224 + c / 4096) ∷ next (c / 64) ∷ next c ∷ []
unfolding encode
three_bytes c t u v = rw (t, u, v) refl

four_bytes : (c : ℕ) → nat_lt c 128 ≡ false → nat_lt c 2048 ≡ false → nat_lt c 65536 ≡ false
    → encode c ≡ (240 + c / 262144) ∷ next (c / 4096) ∷ next (c / 64) ∷ next c ∷ []
unfolding encode
four_bytes c t u v = rw (t, u, v) refl

encoded_two : (c : ℕ) → 128 ≤ c → c < 2048 → Encoded c
encoded_two c h low = record {
  byte = 192 + c / 64;
  others = next c ∷ [];
  split = two_bytes c (le-ltb c 128 h) (lt-ltb c 2048 low);
  low = λ low. absurd (omega arith);
  alone = λ low. absurd (omega arith);
  high = λ high. omega arith;
  all_high =
      λ high. and_from _ _ (high_lead 192 (c / 64) (omega arith)) (and_from _ _ (high_byte c) refl);
}

encoded_three : (c : ℕ) → 2048 ≤ c → c < 65536 → Encoded c
encoded_three c h low = record {
  byte = 224 + c / 4096;
  others = next (c / 64) ∷ next c ∷ [];
  split = three_bytes c (le-ltb c 128 (omega arith)) (le-ltb c 2048 h) (lt-ltb c 65536 low);
  low = λ low. absurd (omega arith);
  alone = λ low. absurd (omega arith);
  high = λ high. omega arith;
  all_high =
      λ high. and_from _ _ (high_lead 224 (c / 4096) (omega arith))
      (and_from _ _ (high_byte (c / 64)) (and_from _ _ (high_byte c) refl));
}

encoded_four : (c : ℕ) → 65536 ≤ c → Encoded c
encoded_four c h = record {
  byte = 240 + c / 262144;
  others = next (c / 4096) ∷ next (c / 64) ∷ next c ∷ [];
  split =
      four_bytes c (le-ltb c 128 (omega arith)) (le-ltb c 2048 (omega arith)) (le-ltb c 65536 h);
  low = λ low. absurd (omega arith);
  alone = λ low. absurd (omega arith);
  high = λ high. omega arith;
  all_high =
      λ high. and_from _ _ (high_lead 240 (c / 262144) (omega arith))
      (and_from _ _ (high_byte (c / 4096))
      (and_from _ _ (high_byte (c / 64)) (and_from _ _ (high_byte c) refl)));
}

pub encoded : (c : ℕ) → Encoded c
encoded c = elim (cases_lt c 128) [
  | inl one ↦ encoded_ascii c one
  | inr more ↦ elim (cases_lt c 2048) [
    | inl two ↦ encoded_two c more two
    | inr more ↦ elim (cases_lt c 65536) [
      | inl three ↦ encoded_three c more three
      | inr four ↦ encoded_four c four
    ]
  ]
]

-- a byte past ASCII is no quote, backslash or newline
pub high_unquoted : (quote b : ℕ) → quote < 128 → 128 ≤ b → is_unquoted quote b ≡ true
high_unquoted quote b low high =
    let q : (b == quote) ≡ false = ne_eqb b quote (λ e. omega arith) in
    let s : (b == backslash) ≡ false = ne_eqb b backslash (λ e. omega arith) in
    let n : (b == newline) ≡ false = ne_eqb b newline (λ e. omega arith) in
    rw (q, s, n) refl

-- the first byte of a text tells whether its first character is of ASCII
pub ascii_first : (b : ℕ) (bytes : List ℕ) (first : FirstCharacter (b ∷ bytes)) → b < 128
    → first.character ≡ b
ascii_first b bytes first low =
    char_from_byte (b ∷ bytes) first.more first.character first.split low (omega arith)

pub wide_first : (b : ℕ) (bytes : List ℕ) (first : FirstCharacter (b ∷ bytes)) → 128 ≤ b
    → 128 ≤ first.character
wide_first b bytes first high = elim (cases_lt first.character 128) [
  | inl low ↦ omega (arith, byte_from_char (b ∷ bytes) first.more first.character first.split low)
  | inr h ↦ h
]
