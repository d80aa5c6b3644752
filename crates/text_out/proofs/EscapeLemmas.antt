-- Lemmas on the five escapes: a pass that copies runs between them, and that they keep UTF-8.
use Rattle.std.proofs.Common.{◌≡◌, ℕ, ◌+◌, ◌/◌, ◌<◌, ◌≤◌, Bool, true, false, cond, List, [], ◌∷◌, ◌++◌, length, take, get_or, refl, sym, ap, ◌∙◌, subst, arith, append_assoc, ne_eqb, le-ltb, ⊎_elim, codes, ◌&&◌, length-append}
use Rattle.std.proofs.lemmas.List.{take_more, take-append-le, append-nil}
use Rattle.std.proofs.lemmas.List.Edits.{between_none, between_more}
use Rattle.std.proofs.lemmas.List.Concat.{flat_map-append}
use Rattle.std.proofs.lemmas.Str.{IsUtf8-append, IsUtf8-encode, IsUtf8-nil, encode_ascii}
use Rattle.std.proofs.lemmas.Bool.{cases_lt, false≢true}
use Rattle.std.specs.List.{between}
use Rattle.std.specs.Prelude.{⊤, Result, Ok, Err, OnOk}
use Rattle.std.specs.Result.{is_err}
use lib.Dec.{ltb}
use Rattle.std.specs.Str.{IsUtf8}
use lib.Utf8.{scalar, scalars, encode, encodes, next}
use Rattle.text_out.specs.Escape.{escape_of, escaped}

-- In a pass over text, the first i bytes are written, but for the run from start to i.
pub record Escaping (old now text : List ℕ) (start i : ℕ) : Type 0 where
  pub start_in : start ≤ i
  pub grown : now ++ between start i text ≡ old ++ escaped (take i text)
  pub kept : take (length old) now ≡ old
  pub longer : length old ≤ length now

escaped_more : (text : List ℕ) (i : ℕ) → i < length text
    → escaped (take (i + 1) text) ≡ escaped (take i text) ++ escape_of (get_or text i 0)
escaped_more text i inside =
    ap escaped (take_more text i 0 inside) ∙ flat_map-append escape_of (take i text) (get_or text i 0 ∷ [])
    ∙ ap (λ w. escaped (take i text) ++ w) (append-nil (escape_of (get_or text i 0)))

pub escaping_stays : (old now text : List ℕ) (start i : ℕ) → Escaping old now text start i → i < length text
    → escape_of (get_or text i 0) ≡ get_or text i 0 ∷ [] → Escaping old now text start (i + 1)
escaping_stays old now text start i h inside stays = record {
  start_in = let s = h.start_in in omega arith;
  grown =
      ap (λ w. now ++ w) (between_more text start i 0 h.start_in inside)
      ∙ sym (append_assoc now (between start i text) (get_or text i 0 ∷ []))
      ∙ ap (λ w. w ++ get_or text i 0 ∷ []) h.grown
      ∙ append_assoc old (escaped (take i text)) (get_or text i 0 ∷ [])
      ∙ ap (λ w. old ++ (escaped (take i text) ++ w)) (sym stays)
      ∙ ap (λ w. old ++ w) (sym (escaped_more text i inside));
  kept = h.kept;
  longer = h.longer;
}

kept_after : (old now more : List ℕ) → length old ≤ length now → take (length old) now ≡ old
    → take (length old) (now ++ more) ≡ old
kept_after old now more longer kept = take-append-le (length old) now more longer ∙ kept

pub escaping_writes : (old now text reference : List ℕ) (start i : ℕ) → Escaping old now text start i
    → i < length text → escape_of (get_or text i 0) ≡ reference
    → Escaping old ((now ++ between start i text) ++ reference) text (i + 1) (i + 1)
escaping_writes old now text reference start i h inside stands = record {
  start_in = omega arith;
  grown =
      ap (λ w. ((now ++ between start i text) ++ reference) ++ w) (between_none text (i + 1))
      ∙ append-nil ((now ++ between start i text) ++ reference)
      ∙ ap (λ w. w ++ reference) h.grown
      ∙ append_assoc old (escaped (take i text)) reference
      ∙ ap (λ w. old ++ (escaped (take i text) ++ w)) (sym stands)
      ∙ ap (λ w. old ++ w) (sym (escaped_more text i inside));
  kept =
      ap (take (length old)) (append_assoc now (between start i text) reference)
      ∙ kept_after old now (between start i text ++ reference) h.longer h.kept;
  longer = let l = h.longer in simp length-append (omega arith);
}

-- the same as facts on what the code holds after a step
pub escaping_kept : (old now text new : List ℕ) (start i start' : ℕ) → Escaping old now text start i
    → i < length text → escape_of (get_or text i 0) ≡ get_or text i 0 ∷ []
    → new ≡ now → start' ≡ start → Escaping old new text start' (i + 1)
escaping_kept old now text new start i start' h inside stays same start_same =
    subst (λ s. Escaping old new text s (i + 1)) (sym start_same)
    (subst (λ n. Escaping old n text start (i + 1)) (sym same) (escaping_stays old now text start i h inside stays))

pub escaping_wrote : (old now text new reference : List ℕ) (start i start' : ℕ) → Escaping old now text start i
    → i < length text → escape_of (get_or text i 0) ≡ reference
    → new ≡ (now ++ between start i text) ++ reference → start' ≡ i + 1 → Escaping old new text start' (i + 1)
escaping_wrote old now text new reference start i start' h inside stands grown moved =
    subst (λ s. Escaping old new text s (i + 1)) (sym moved)
    (subst (λ n. Escaping old n text (i + 1) (i + 1)) (sym grown)
    (escaping_writes old now text reference start i h inside stands))

-- what an answer without an error says
pub without_error : {T E : Type 0} (r : Result T E) (P : Type 0) → is_err r ≡ false → OnOk r P → P
without_error (Ok x) P none h = h
without_error (Err e) P none h = absurd (false≢true (sym none))

-- ---- UTF-8

choice : (P : List ℕ → Type 0) (test : Bool) (xs ys : List ℕ) → P xs → P ys → P (cond test xs ys)
choice P true xs ys p q = p
choice P false xs ys p q = q

AllHigh : List ℕ → Type 0
AllHigh [] = ⊤
AllHigh (b ∷ bs) = (128 ≤ b) × AllHigh bs

escape_of-high : (b : ℕ) → 128 ≤ b → escape_of b ≡ b ∷ []
escape_of-high b high =
    rw (ne_eqb b 38 (λ e. absurd (omega arith)), ne_eqb b 60 (λ e. absurd (omega arith)), ne_eqb b 62 (λ e. absurd (omega arith)), ne_eqb b 34 (λ e. absurd (omega arith)), ne_eqb b 39 (λ e. absurd (omega arith))) refl

escaped-high : (bs : List ℕ) → AllHigh bs → escaped bs ≡ bs
unfolding AllHigh
escaped-high [] all = refl
escaped-high (b ∷ bs) all = ap (λ w. w ++ escaped bs) (escape_of-high b all.0) ∙ ap (λ w. b ∷ w) (escaped-high bs all.1)

encode-high : (c : ℕ) → 128 ≤ c → AllHigh (encode c)
unfolding AllHigh encode
encode-high c high =
    let two : AllHigh ((192 + c / 64) ∷ next c ∷ []) = (omega arith, (omega arith, tt)) in
    let three : AllHigh ((224 + c / 4096) ∷ next (c / 64) ∷ next c ∷ []) =
    (omega arith, (omega arith, (omega arith, tt))) in
    let four : AllHigh ((240 + c / 262144) ∷ next (c / 4096) ∷ next (c / 64) ∷ next c ∷ []) =
    (omega arith, (omega arith, (omega arith, (omega arith, tt)))) in
    rw (le-ltb c 128 high) (
    choice AllHigh (ltb c 2048) ((192 + c / 64) ∷ next c ∷ []) _ two
    (choice AllHigh (ltb c 65536) ((224 + c / 4096) ∷ next (c / 64) ∷ next c ∷ [])
    ((240 + c / 262144) ∷ next (c / 4096) ∷ next (c / 64) ∷ next c ∷ []) three four)
    )

IsUtf8-escape_of : (c : ℕ) → c < 128 → scalar c ≡ true → IsUtf8 (escape_of c)
unfolding encode
IsUtf8-escape_of c low whole =
    let ampersand : IsUtf8 (codes "&amp;") = (codes "&amp;", (refl, refl)) in
    let less : IsUtf8 (codes "&lt;") = (codes "&lt;", (refl, refl)) in
    let greater : IsUtf8 (codes "&gt;") = (codes "&gt;", (refl, refl)) in
    let quotation : IsUtf8 (codes "&quot;") = (codes "&quot;", (refl, refl)) in
    let apostrophe : IsUtf8 (codes "&#39;") = (codes "&#39;", (refl, refl)) in
    let itself : IsUtf8 (c ∷ []) = subst IsUtf8 (encode_ascii c low) (IsUtf8-encode c whole) in
    choice IsUtf8 _ _ _ ampersand
    (choice IsUtf8 _ _ _ less
    (choice IsUtf8 _ _ _ greater (choice IsUtf8 _ _ _ quotation (choice IsUtf8 _ _ _ apostrophe itself))))

IsUtf8-escaped_char : (c : ℕ) → scalar c ≡ true → IsUtf8 (escaped (encode c))
IsUtf8-escaped_char c whole =
    ⊎_elim
    (λ low. subst IsUtf8 (sym (ap escaped (encode_ascii c low) ∙ append-nil (escape_of c))) (IsUtf8-escape_of c low whole))
    (λ high. subst IsUtf8 (sym (escaped-high (encode c) (encode-high c high))) (IsUtf8-encode c whole))
    (cases_lt c 128)

both : (x y : Bool) → (x && y) ≡ true → (x ≡ true) × (y ≡ true)
both true true e = (refl, refl)
both true false e = (refl, e)
both false y e = absurd (false≢true e)

IsUtf8-escaped_chars : (cs : List ℕ) → scalars cs ≡ true → IsUtf8 (escaped (encodes cs))
IsUtf8-escaped_chars [] whole = IsUtf8-nil
IsUtf8-escaped_chars (c ∷ cs) whole =
    let parts = both (scalar c) (scalars cs) whole in
    subst IsUtf8 (sym (flat_map-append escape_of (encode c) (encodes cs)))
    (IsUtf8-append _ _ (IsUtf8-escaped_char c parts.0) (IsUtf8-escaped_chars cs parts.1))

pub IsUtf8-escaped : (text : List ℕ) → IsUtf8 text → IsUtf8 (escaped text)
IsUtf8-escaped text whole = subst (λ w. IsUtf8 (escaped w)) whole.1.1 (IsUtf8-escaped_chars whole.0 whole.1.0)
