-- Cited by private clauses and proofs. What a character adds to a sentence.
use Rattle.std.specs.Prelude.{◌≡◌, ℕ, Bool, true, false, List, [], ◌∷◌, ◌++◌, Some}
use Rattle.std.specs.Prelude.{MatchBool, encode_utf8, encode_utf8_all, string_bytes}
use Rattle.synopsis_notes.specs.declared.sentence.Sentence.{Sentence}
use Rattle.synopsis_notes.specs.Synopses.{is_white, sentence_behind, squeezed}

abbrev pub begins_white : List ℕ → Bool
begins_white [] = false
begins_white (c ∷ cs) = is_white c

abbrev pub is_white_or_end : List ℕ → Bool
is_white_or_end [] = true
is_white_or_end (c ∷ cs) = is_white c

-- a character more
pub record IsPushed (old : Sentence) (c : ℕ) (new : Sentence) : Type 0 where
  pub text : string_bytes new.text ≡ string_bytes old.text ++ encode_utf8 c
  pub earlier : new.earlier ≡ old.before
  pub before : new.before ≡ Some c

-- the sentence, where these characters are to come
abbrev pub sentence_with : Sentence → List ℕ → List ℕ
sentence_with sentence cs =
    string_bytes sentence.text
    ++ encode_utf8_all (sentence_behind sentence.earlier sentence.before (squeezed cs))

-- a character was taken, before these characters: the sentence continues, or it is whole
abbrev pub IsTaken : Sentence → ℕ → List ℕ → Bool → Sentence → Type 0
IsTaken old c after goes_on new =
    MatchBool goes_on (sentence_with new after ≡ sentence_with old (c ∷ after))
    (string_bytes new.text ≡ sentence_with old (c ∷ after))
