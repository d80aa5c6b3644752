-- A text has one first sentence.
use Rattle.std.proofs.Common.{◌≡◌, ℕ, ◌+◌, ◌≤◌, Bool, true, false, cond, List, [], ◌∷◌, ◌++◌, refl}
use Rattle.std.proofs.Common.{sym, ◌∙◌, ap, subst, ⊎_elim, inl, inr, length, take, length-append}
use Rattle.std.proofs.Common.{append_assoc, arith}
use Rattle.std.specs.Prelude.{Option, Some, None, ◌⊎◌}
use Rattle.std.proofs.lemmas.Bool.{both_ways}
use Rattle.std.proofs.lemmas.List.{append-nil}
use Rattle.std.proofs.Math.Seq.{take-append_seam}
use Rattle.synopsis_notes.specs.Synopses.{ends_sentence, sentence_behind}
use Rattle.synopsis_notes.specs.Sentences.{IsEnded, IsFirstSentence, IsSentenceBehind, ends_between}

no_split : (front behind : List ℕ) (c : ℕ) → [] ≡ front ++ c ∷ behind → ⊥
no_split [] behind c same = cc
no_split (x ∷ front) behind c same = cc

-- where the next character ends the sentence
ends_here : (earlier before : Option ℕ) (c : ℕ) (cs : List ℕ)
    → ends_sentence earlier before c cs ≡ true
    → IsSentenceBehind earlier before (c ∷ cs) (c ∷ [])
ends_here earlier before c cs does = record {
  after = cs;
  whole = refl;
  ended = inl ([], c, refl, does);
  first = λ front d behind split ends. omega arith;
}

later_end : (earlier before : Option ℕ) (c : ℕ) (sentence after : List ℕ)
    → IsEnded before (Some c) sentence after ⊎ (after ≡ [])
    → IsEnded earlier before (c ∷ sentence) after ⊎ (after ≡ [])
later_end earlier before c sentence after ended = ⊎_elim
    (λ (e : IsEnded before (Some c) sentence after).
    inl (c ∷ e.0, e.1, ap (λ l. c ∷ l) e.2, e.3))
    (λ (e : after ≡ []). inr e)
    ended

-- doesnt earlier end, where the next character doesn't end the sentence
not_before : (earlier before : Option ℕ) (c : ℕ) (cs sentence : List ℕ)
    → ends_sentence earlier before c cs ≡ false
    → IsSentenceBehind before (Some c) cs sentence
    → (front : List ℕ) (d : ℕ) (behind : List ℕ) → c ∷ cs ≡ front ++ d ∷ behind
    → ends_between earlier before front d behind ≡ true
    → length (c ∷ sentence) ≤ length front + 1
not_before earlier before c cs sentence doesnt is [] d behind split ends =
    let same_c : c ≡ d = cc in
    let same_cs : cs ≡ behind = cc in
    let here : ends_sentence earlier before c cs ≡ true =
    ap (λ x. ends_sentence earlier before x cs) same_c
    ∙ ap (ends_sentence earlier before d) same_cs ∙ ends in
    absurd (both_ways (ends_sentence earlier before c cs) doesnt here)
not_before earlier before c cs sentence doesnt is (x ∷ front) d behind split ends =
    let same_c : x ≡ c = cc in
    let same_cs : cs ≡ front ++ d ∷ behind = cc in
    let there : ends_between before (Some c) front d behind ≡ true =
    subst (λ y. ends_between before (Some y) front d behind ≡ true) same_c ends in
    let less : length sentence ≤ length front + 1 = is.first front d behind same_cs there in
    omega arith

goes_on : (earlier before : Option ℕ) (c : ℕ) (cs sentence : List ℕ)
    → ends_sentence earlier before c cs ≡ false
    → IsSentenceBehind before (Some c) cs sentence
    → IsSentenceBehind earlier before (c ∷ cs) (c ∷ sentence)
goes_on earlier before c cs sentence doesnt is = record {
  after = is.after;
  whole = ap (λ l. c ∷ l) is.whole;
  ended = later_end earlier before c sentence is.after is.ended;
  first = not_before earlier before c cs sentence doesnt is;
}

by_end : (earlier before : Option ℕ) (c : ℕ) (cs : List ℕ) (ends : Bool)
    → ends_sentence earlier before c cs ≡ ends
    → IsSentenceBehind before (Some c) cs (sentence_behind before (Some c) cs)
    → IsSentenceBehind earlier before (c ∷ cs)
    (c ∷ cond ends [] (sentence_behind before (Some c) cs))
by_end earlier before c cs true is later = ends_here earlier before c cs is
by_end earlier before c cs false is later =
    goes_on earlier before c cs (sentence_behind before (Some c) cs) is later

is_sentence : (text : List ℕ) (earlier before : Option ℕ)
    → IsSentenceBehind earlier before text (sentence_behind earlier before text)
is_sentence [] earlier before = record {
  after = [];
  whole = refl;
  ended = inr refl;
  first = λ front c behind split ends. absurd (no_split front behind c split);
}
is_sentence (c ∷ cs) earlier before =
    by_end earlier before c cs (ends_sentence earlier before c cs) refl
    (is_sentence cs before (Some c))

pub a_sentence : (text : List ℕ) → IsFirstSentence text (sentence_behind None None text)
a_sentence text = is_sentence text None None

not_longer : (text a b : List ℕ) → IsFirstSentence text a → IsFirstSentence text b
    → length a ≤ length b
not_longer text a b one other = ⊎_elim
    (λ (e : IsEnded None None b other.after).
    let split : text ≡ e.0 ++ e.1 ∷ other.after = other.whole
    ∙ ap (λ l. l ++ other.after) e.2 ∙ append_assoc e.0 (e.1 ∷ []) other.after in
    let less : length a ≤ length e.0 + 1 = one.first e.0 e.1 other.after split e.3 in
    let size : length b ≡ length (e.0 ++ e.1 ∷ []) = ap length e.2 in
    omega (arith, less, size, length-append e.0 (e.1 ∷ [])))
    (λ (e : other.after ≡ []).
    let all : text ≡ b = other.whole ∙ ap (λ l. b ++ l) e ∙ append-nil b in
    let size : length text ≡ length b = ap length all in
    let sum : length text ≡ length (a ++ one.after) = ap length one.whole in
    omega (arith, size, sum, length-append a one.after))
    other.ended

pub only_sentence : (text sentence : List ℕ) → IsFirstSentence text sentence
    → sentence ≡ sentence_behind None None text
only_sentence text sentence is =
    let other = sentence_behind None None text in
    let found = a_sentence text in
    let at_most : length sentence ≤ length other = not_longer text sentence other is found in
    let at_least : length other ≤ length sentence = not_longer text other sentence found is in
    let size : length sentence ≡ length other = omega arith in
    sym (take-append_seam sentence is.after) ∙ ap (take (length sentence)) (sym is.whole)
    ∙ ap (λ n. take n text) size ∙ ap (take (length other)) found.whole
    ∙ take-append_seam other found.after
