-- Cited by public clauses. What a first sentence is, told by the places where one can end. A law
-- says that a text has one, and that it is the one of the definition.
use Rattle.std.specs.Prelude.{◌≡◌, ℕ, ◌+◌, ◌≤◌, ◌⊎◌, Bool, List, [], ◌∷◌, ◌++◌, Option, Some, None}
use Rattle.std.specs.Prelude.{IsTrue, length}
use Rattle.synopsis_notes.specs.Synopses.{ends_sentence}

-- the last two characters of a text that stands after two others
abbrev pub last_two : Option ℕ → Option ℕ → List ℕ → Option ℕ × Option ℕ
last_two earlier before [] = (earlier, before)
last_two earlier before (c ∷ cs) = last_two before (Some c) cs

-- a sentence ends with a character that stands between these texts, of which the first stands
-- after two others
abbrev pub ends_between : Option ℕ → Option ℕ → List ℕ → ℕ → List ℕ → Bool
ends_between earlier before front c after =
    ends_sentence (last_two earlier before front).0 (last_two earlier before front).1 c after

-- the last character of a sentence ends it
abbrev pub IsEnded : Option ℕ → Option ℕ → List ℕ → List ℕ → Type 0
IsEnded earlier before sentence after =
    (front : List ℕ) × (c : ℕ) × (sentence ≡ front ++ c ∷ [])
    × IsTrue (ends_between earlier before front c after)

-- a text begins with this sentence: it is ended or the whole text, and no character before its last
-- ends a sentence; the text stands after two characters
pub record IsSentenceBehind (earlier before : Option ℕ) (text sentence : List ℕ) : Type 0 where
  pub after : List ℕ
  pub whole : text ≡ sentence ++ after
  pub ended : IsEnded earlier before sentence after ⊎ (after ≡ [])
  pub first : (front : List ℕ) (c : ℕ) (behind : List ℕ) → text ≡ front ++ c ∷ behind
      → IsTrue (ends_between earlier before front c behind) → length sentence ≤ length front + 1

abbrev pub IsFirstSentence : List ℕ → List ℕ → Type 0
IsFirstSentence text sentence = IsSentenceBehind None None text sentence
