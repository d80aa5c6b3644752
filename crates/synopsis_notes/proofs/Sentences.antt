-- A sentence that grows character by character is the first sentence of its text.
use Rattle.std.proofs.Common.{◌≡◌, ℕ, Bool, true, false, List, [], ◌∷◌, ◌++◌, refl, sym}
use Rattle.std.proofs.Common.{◌∙◌, ap, subst, length, arith}
use Rattle.std.specs.Prelude.{IsUtf8, encode_utf8}
use Rattle.std.specs.Prelude.{string_bytes}
use Rattle.std.specs.Str.{chars}
use Rattle.std.proofs.lemmas.List.{append-nil}
use Rattle.std.proofs.lemmas.Str.{chars_past_char, chars-nil, IsUtf8-past_char}
use Rattle.synopsis_notes.specs.declared.sentence.Sentence.{Sentence}
use Rattle.synopsis_notes.specs.SentenceSteps.{IsTaken}
use Rattle.synopsis_notes.specs.SentenceSteps.{sentence_with}

-- a text that is UTF-8 from here on, and with which the sentence is this one
pub record GoesOn (bytes : List ℕ) (sentence : Sentence) (whole : List ℕ) : Type 0 where
  pub utf8 : IsUtf8 bytes
  pub same : sentence_with sentence (chars bytes) ≡ whole

next_chars : (bytes rest : List ℕ) (c : ℕ) (old : Sentence) (whole : List ℕ)
    → GoesOn bytes old whole → bytes ≡ encode_utf8 c ++ rest
    → sentence_with old (c ∷ chars rest) ≡ whole
next_chars bytes rest c old whole before split =
    ap (λ cs. sentence_with old cs) (sym (chars_past_char bytes rest c before.utf8 split))
    ∙ before.same

-- the same, by what was taken
taken_before : (old new : Sentence) (c : ℕ) (after rest : List ℕ) (goes_on is : Bool)
    → after ≡ rest → goes_on ≡ is → IsTaken old c (chars after) goes_on new
    → IsTaken old c (chars rest) is new
taken_before old new c after rest goes_on is same answer taken =
    subst (λ b. IsTaken old c (chars rest) b new) answer
    (subst (λ bs. IsTaken old c (chars bs) goes_on new) same taken)

pub goes_past : (bytes rest after : List ℕ) (c : ℕ) (old new : Sentence) (whole : List ℕ)
    (goes_on : Bool) → GoesOn bytes old whole → bytes ≡ encode_utf8 c ++ rest → after ≡ rest
    → goes_on ≡ true → IsTaken old c (chars after) goes_on new
    → GoesOn rest new whole
goes_past bytes rest after c old new whole goes_on before split same answer taken = record {
  utf8 = IsUtf8-past_char bytes rest c before.utf8 split;
  same = taken_before old new c after rest goes_on true same answer taken
      ∙ next_chars bytes rest c old whole before split;
}

pub stops_at : (bytes rest after : List ℕ) (c : ℕ) (old new : Sentence) (whole : List ℕ)
    (goes_on : Bool) → GoesOn bytes old whole → bytes ≡ encode_utf8 c ++ rest → after ≡ rest
    → goes_on ≡ false → IsTaken old c (chars after) goes_on new
    → string_bytes new.text ≡ whole
stops_at bytes rest after c old new whole goes_on before split same answer taken =
    taken_before old new c after rest goes_on false same answer taken
    ∙ next_chars bytes rest c old whole before split

no_bytes : (bytes : List ℕ) → length bytes ≡ 0 → bytes ≡ []
no_bytes [] empty = refl
no_bytes (b ∷ bytes) empty = absurd (omega arith)

pub ends_at : (bytes : List ℕ) (sentence : Sentence) (whole : List ℕ)
    → GoesOn bytes sentence whole → length bytes ≡ 0 → string_bytes sentence.text ≡ whole
ends_at bytes sentence whole before empty =
    sym (append-nil (string_bytes sentence.text))
    ∙ ap (λ cs. sentence_with sentence cs) (sym (ap chars (no_bytes bytes empty) ∙ chars-nil))
    ∙ before.same
