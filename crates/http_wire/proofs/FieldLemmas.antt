-- Lemmas on the fields that spans cover, and on the commas of a value.
use Rattle.std.proofs.Common.{◌≡◌, ℕ, ◌+◌, ◌<◌, ◌==◌, ◌||◌, Bool, true, false, cond, List, [], ◌∷◌, zero, suc, length, take, drop, get_or, refl, sym, ap, ap₂, ◌∙◌, arith, eq-eqb}
use Rattle.std.proofs.lemmas.List.{length-map, get_or-map}
use Rattle.std.proofs.lemmas.List.Sums.{count_by_more_yes, count_by_more_no}
use Rattle.std.proofs.lemmas.List.Folds.{list_any_more, list_any_at}
use Rattle.std.proofs.lemmas.List.Splits.{slice_split-cons_yes, slice_split-cons_no}
use Rattle.std.specs.List.{list_any, onto_first}
use Rattle.httparse.specs.declared.spans.HeaderSpan.{HeaderSpan}
use Rattle.httparse.specs.Spans.{header_bytes}
use Rattle.http_wire.specs.Fields.{NameAndValue, is_named, count_named, between_commas}
use Rattle.http_wire.specs.Front.{fields_at}

pub no_field : NameAndValue
no_field = ([], [])

-- the field at a place is what the span at that place covers
field_at : (buffer : List ℕ) (spans : List HeaderSpan) (i : ℕ) (span : HeaderSpan)
    → i < length spans
    → get_or (fields_at buffer spans) i no_field ≡ header_bytes buffer (get_or spans i span)
field_at buffer spans i span inside = get_or-map (header_bytes buffer) spans i span no_field inside

fits : (buffer : List ℕ) (spans : List HeaderSpan) (i : ℕ) → i < length spans
    → i < length (fields_at buffer spans)
fits buffer spans i inside = rw (length-map spans (header_bytes buffer)) inside

-- one more field is counted
pub count_more : (name buffer : List ℕ) (spans : List HeaderSpan) (i : ℕ) (span : HeaderSpan)
    (answer : Bool) (count new : ℕ)
    → i < length spans → answer ≡ is_named name (header_bytes buffer (get_or spans i span))
    → count ≡ count_named name (take i (fields_at buffer spans)) → new
    ≡ cond answer (count + 1) count
    → new ≡ count_named name (take (i + 1) (fields_at buffer spans))
count_more name buffer spans i span true count new inside is before now =
    now ∙ ap (λ n. n + 1) before ∙ sym
    (count_by_more_yes (is_named name) (fields_at buffer spans) i no_field
    (fits buffer spans i inside)
    (ap (is_named name) (field_at buffer spans i span inside) ∙ sym is))
count_more name buffer spans i span false count new inside is before now =
    now ∙ before ∙ sym
    (count_by_more_no (is_named name) (fields_at buffer spans) i no_field
    (fits buffer spans i inside)
    (ap (is_named name) (field_at buffer spans i span inside) ∙ sym is))

-- one field settles the answer
pub any_here : (test : NameAndValue → Bool) (buffer : List ℕ) (spans : List HeaderSpan) (i : ℕ)
    (span : HeaderSpan) (answer : Bool)
    → i < length spans → answer ≡ test (header_bytes buffer (get_or spans i span)) → answer ≡ true
    → list_any test (fields_at buffer spans) ≡ true
any_here test buffer spans i span answer inside is passes =
    list_any_at test (fields_at buffer spans) i no_field (fits buffer spans i inside)
    (ap test (field_at buffer spans i span inside) ∙ sym is ∙ passes)

-- one more field doesn't pass
pub none_more : (test : NameAndValue → Bool) (buffer : List ℕ) (spans : List HeaderSpan) (i : ℕ)
    (span : HeaderSpan) (answer : Bool)
    → i < length spans → answer ≡ test (header_bytes buffer (get_or spans i span)) → answer ≡ false
    → list_any test (take i (fields_at buffer spans)) ≡ false
    → list_any test (take (i + 1) (fields_at buffer spans)) ≡ false
none_more test buffer spans i span answer inside is fails before =
    list_any_more test (fields_at buffer spans) i no_field (fits buffer spans i inside)
    ∙ ap₂ (λ x y. x || y) before (ap test (field_at buffer spans i span inside) ∙ sym is ∙ fails)

pub any_of_one : (test : List ℕ → Bool) (text : List ℕ) → list_any test (text ∷ []) ≡ test text
any_of_one test text = either (test text)
  where
    either : (b : Bool) → (b || false) ≡ b
    either true = refl
    either false = refl

-- a text whose first comma stands at a place
pub commas_at : (text : List ℕ) (i : ℕ) → i < length text → get_or text i 0 ≡ 44
    → ((k : ℕ) → k < i → (get_or text k 0 == 44) ≡ false)
    → between_commas text ≡ take i text ∷ between_commas (drop (suc i) text)
unfolding between_commas
commas_at [] i inside comma before = absurd (omega arith)
commas_at (b ∷ bytes) zero inside comma before = slice_split-cons_yes (λ x. x == 44) b bytes
    (eq-eqb b 44 comma)
commas_at (b ∷ bytes) (suc i) inside comma before =
    slice_split-cons_no (λ x. x == 44) b bytes (before 0 (omega arith))
    ∙ ap (onto_first b)
    (commas_at bytes i (omega arith) comma (λ k below. before (suc k) (omega arith)))

-- a text without a comma
pub no_commas : (text : List ℕ) → ((k : ℕ) → k < length text → (get_or text k 0 == 44) ≡ false)
    → between_commas text ≡ text ∷ []
unfolding between_commas
no_commas [] none = refl
no_commas (b ∷ bytes) none =
    slice_split-cons_no (λ x. x == 44) b bytes (none 0 (omega arith))
    ∙ ap (onto_first b) (no_commas bytes (λ k below. none (suc k) (omega arith)))
