-- A text that spaces symbols, of which no two names follow one another, gives these symbols.
use Rattle.std.proofs.Common.{◌≡◌, ℕ, ◌<◌, Bool, true, false, ◌||◌, List, []}
use Rattle.std.proofs.Common.{◌∷◌, ◌++◌, refl, sym, ◌∙◌, ap, subst, append_assoc}
use Rattle.std.proofs.Common.{append-nil, lit<}
use Rattle.std.specs.Prelude.{Option, Some, None, ⊤, if◌then◌else◌, ◌==◌, option_and_then}
use Rattle.std.specs.Prelude.{option_map, IsTrue}
use Rattle.std.specs.List.{list_all}
use Rattle.std.specs.Char.{is_ascii_alphabetic, is_ascii_digit}
use Rattle.std.proofs.lemmas.Bool.{eqb-true}
use Rattle.go_chars.specs.Letters.{is_digit}
use Rattle.go_chars.proofs.CharLaws.{ascii_letters, ascii_digits}
use Rattle.build_lines.specs.Expressions.{Expression, Conjunction, tag, Symbol, opening, closing}
use Rattle.build_lines.specs.Expressions.{bang, ampersands, bars, name, is_blank}
use Rattle.build_lines.specs.Expressions.{is_tag_character, is_tag, is_symbol, Spaces, print}
use Rattle.build_lines.specs.Expressions.{IsSpelled}
use Rattle.build_lines.proofs.Parsing.{State, operand, operator, with_operand, Frame, frame, run}
use Rattle.build_lines.proofs.Parsing.{step, tree_of, tree_of-print}
use Rattle.build_lines.proofs.Trees.{none_is_some, some_same, tree_of-is}
use Rattle.build_lines.proofs.SymbolText.{Place, between, in_tag, after_ampersand, after_bar}
use Rattle.build_lines.proofs.SymbolText.{begin_mark, with_name, then_symbols}
use Rattle.build_lines.proofs.SymbolText.{symbols_from, symbols_of, symbols_of-are, left_true}
use Rattle.build_lines.proofs.SymbolText.{right_true, no_true, option_map-same}

-- the characters of tags in ASCII
is_tag_character-ascii : (c : ℕ) → c < 128
    → is_tag_character c ≡ (((c == 95 || is_ascii_alphabetic c) || is_ascii_digit c) || c == 46)
is_tag_character-ascii c low =
    ap (λ b. ((c == 95 || b) || is_digit c) || c == 46) (ascii_letters c low)
    ∙ ap (λ b. ((c == 95 || is_ascii_alphabetic c) || b) || c == 46) (ascii_digits c low)

blank_no_tag : (c : ℕ) → is_blank c ≡ true → is_tag_character c ≡ false
blank_no_tag c blank = go (c == 32) refl blank
  where
    tab_no_tag : (b : Bool) → (c == 9) ≡ b → b ≡ true → is_tag_character c ≡ false
    tab_no_tag true same _ = ap is_tag_character (eqb-true c 9 same)
        ∙ is_tag_character-ascii 9 (lit< tt)
    tab_no_tag false same is = no_true is

    go : (b : Bool) → (c == 32) ≡ b → (b || c == 9) ≡ true → is_tag_character c ≡ false
    go true same _ = ap is_tag_character (eqb-true c 32 same) ∙ is_tag_character-ascii 32 (lit< tt)
    go false same is = tab_no_tag (c == 9) refl is

-- blanks at the front count for nothing
past_blank : (c : ℕ) (cs : List ℕ) → is_blank c ≡ true → symbols_of (c ∷ cs) ≡ symbols_of cs
past_blank c cs blank =
    ap (λ b. option_and_then (then_symbols (symbols_from cs))
    (if b then Some ([], in_tag (c ∷ [])) else begin_mark c)) (blank_no_tag c blank)
    ∙ ap (λ b. option_and_then (then_symbols (symbols_from cs))
    (if b then Some ([], between) else (if c == 40 then Some (opening ∷ [], between)
    else (if c == 41 then Some (closing ∷ [], between)
    else (if c == 33 then Some (bang ∷ [], between)
    else (if c == 38 then Some ([], after_ampersand)
    else (if c == 124 then Some ([], after_bar) else None))))))) blank
    ∙ option_map-same (symbols_of cs)

past_blanks : (blanks rest : List ℕ) → list_all is_blank blanks ≡ true
    → symbols_of (blanks ++ rest) ≡ symbols_of rest
past_blanks [] rest all = refl
past_blanks (c ∷ cs) rest all =
    past_blank c (cs ++ rest) (left_true (is_blank c) _ all)
    ∙ past_blanks cs rest (right_true (is_blank c) _ all)

-- a mark at the front, by what no tag has
past_mark : (x : Symbol) (c : ℕ) (cs : List ℕ) → is_tag_character c ≡ false
    → begin_mark c ≡ Some (x ∷ [], between)
    → symbols_of (c ∷ cs) ≡ option_map (λ more. x ∷ more) (symbols_of cs)
past_mark x c cs no_tag begins =
    ap (λ b. option_and_then (then_symbols (symbols_from cs))
    (if b then Some ([], in_tag (c ∷ [])) else begin_mark c)) no_tag
    ∙ ap (option_and_then (then_symbols (symbols_from cs))) begins

-- the first half of a pair
past_half : (place : Place) (c : ℕ) (cs : List ℕ) → is_tag_character c ≡ false
    → begin_mark c ≡ Some ([], place)
    → symbols_of (c ∷ cs) ≡ symbols_from cs place
past_half place c cs no_tag begins =
    ap (λ b. option_and_then (then_symbols (symbols_from cs))
    (if b then Some ([], in_tag (c ∷ [])) else begin_mark c)) no_tag
    ∙ ap (option_and_then (then_symbols (symbols_from cs))) begins
    ∙ option_map-same (symbols_from cs place)

-- the text is empty, or begins with a character that no tag has
abbrev Stops : List ℕ → Type 0
Stops [] = ⊤
Stops (c ∷ cs) = is_tag_character c ≡ false

blanks_stop : (blanks rest : List ℕ) → list_all is_blank blanks ≡ true → Stops rest
    → Stops (blanks ++ rest)
blanks_stop [] rest all stops = stops
blanks_stop (c ∷ cs) rest all stops = blank_no_tag c (left_true (is_blank c) _ all)

abbrev begins_with_name : List Symbol → Bool
begins_with_name (name characters ∷ xs) = true
begins_with_name _ = false

spaced_stops : (xs : List Symbol) (text : List ℕ) → begins_with_name xs ≡ false → Spaces xs text
    → Stops text
spaced_stops [] [] unnamed all = tt
spaced_stops [] (c ∷ cs) unnamed all = blank_no_tag c (left_true (is_blank c) _ all)
spaced_stops (name characters ∷ xs) text unnamed spaced = no_true (sym unnamed)
spaced_stops (opening ∷ xs) text unnamed (blanks, rest, all, split, more) =
    subst Stops (sym (split ∙ append_assoc blanks _ rest))
    (blanks_stop blanks _ all (is_tag_character-ascii 40 (lit< tt)))
spaced_stops (closing ∷ xs) text unnamed (blanks, rest, all, split, more) =
    subst Stops (sym (split ∙ append_assoc blanks _ rest))
    (blanks_stop blanks _ all (is_tag_character-ascii 41 (lit< tt)))
spaced_stops (bang ∷ xs) text unnamed (blanks, rest, all, split, more) =
    subst Stops (sym (split ∙ append_assoc blanks _ rest))
    (blanks_stop blanks _ all (is_tag_character-ascii 33 (lit< tt)))
spaced_stops (ampersands ∷ xs) text unnamed (blanks, rest, all, split, more) =
    subst Stops (sym (split ∙ append_assoc blanks _ rest))
    (blanks_stop blanks _ all (is_tag_character-ascii 38 (lit< tt)))
spaced_stops (bars ∷ xs) text unnamed (blanks, rest, all, split, more) =
    subst Stops (sym (split ∙ append_assoc blanks _ rest))
    (blanks_stop blanks _ all (is_tag_character-ascii 124 (lit< tt)))

-- a tag ends where the text stops
tag_ends : (front rest : List ℕ) → Stops rest
    → symbols_from rest (in_tag front) ≡ option_map (λ more. name front ∷ more) (symbols_of rest)
tag_ends front [] stops = refl
tag_ends front (c ∷ cs) stops =
    ap (λ b. option_and_then (then_symbols (symbols_from cs))
    (if b then Some ([], in_tag (front ++ c ∷ []))
    else option_map (with_name front) (begin_mark c))) stops
    ∙ named (begin_mark c)
    ∙ ap (λ b. option_map (λ more. name front ∷ more)
    (option_and_then (then_symbols (symbols_from cs))
    (if b then Some ([], in_tag (c ∷ [])) else begin_mark c))) (sym stops)
  where
    twice : (first : List Symbol) (o : Option (List Symbol))
        → option_map (λ more. (name front ∷ first) ++ more) o
        ≡ option_map (λ more. name front ∷ more) (option_map (λ more. first ++ more) o)
    twice first None = refl
    twice first (Some l) = refl

    named : (o : Option (List Symbol × Place))
        → option_and_then (then_symbols (symbols_from cs)) (option_map (with_name front) o)
        ≡ option_map (λ more. name front ∷ more)
        (option_and_then (then_symbols (symbols_from cs)) o)
    named None = refl
    named (Some (first, place)) = twice first (symbols_from cs place)

within_tag : (front cs rest : List ℕ) → list_all is_tag_character cs ≡ true
    → symbols_from (cs ++ rest) (in_tag front) ≡ symbols_from rest (in_tag (front ++ cs))
within_tag front [] rest all = ap (λ l. symbols_from rest (in_tag l)) (sym (append-nil front))
within_tag front (c ∷ cs) rest all =
    ap (λ b. option_and_then (then_symbols (symbols_from (cs ++ rest)))
    (if b then Some ([], in_tag (front ++ c ∷ []))
    else option_map (with_name front) (begin_mark c))) (left_true (is_tag_character c) _ all)
    ∙ option_map-same (symbols_from (cs ++ rest) (in_tag (front ++ c ∷ [])))
    ∙ within_tag (front ++ c ∷ []) cs rest (right_true (is_tag_character c) _ all)
    ∙ ap (λ l. symbols_from rest (in_tag l)) (append_assoc front (c ∷ []) cs)

past_name : (characters rest : List ℕ) → is_tag characters ≡ true → Stops rest
    → symbols_of (characters ++ rest)
    ≡ option_map (λ more. name characters ∷ more) (symbols_of rest)
past_name [] rest valid stops = no_true valid
past_name (c ∷ cs) rest valid stops =
    ap (λ b. option_and_then (then_symbols (symbols_from (cs ++ rest)))
    (if b then Some ([], in_tag (c ∷ [])) else begin_mark c))
    (left_true (is_tag_character c) _ valid)
    ∙ option_map-same (symbols_from (cs ++ rest) (in_tag (c ∷ [])))
    ∙ within_tag (c ∷ []) cs rest (right_true (is_tag_character c) _ valid)
    ∙ tag_ends (c ∷ cs) rest stops

-- no two names follow one another
abbrev Apart : List Symbol → Type 0
Apart [] = ⊤
Apart (name characters ∷ xs) = (begins_with_name xs ≡ false) × Apart xs
Apart (opening ∷ xs) = Apart xs
Apart (closing ∷ xs) = Apart xs
Apart (bang ∷ xs) = Apart xs
Apart (ampersands ∷ xs) = Apart xs
Apart (bars ∷ xs) = Apart xs

with_rest : (x : Symbol) (text : List ℕ) (xs : List Symbol) (o : Option (List Symbol))
    → symbols_of text ≡ option_map (λ more. x ∷ more) o → o ≡ Some xs
    → symbols_of text ≡ Some (x ∷ xs)
with_rest x text xs o first later = first ∙ ap (option_map (λ more. x ∷ more)) later

pub symbols_of-spaced : (xs : List Symbol) (text : List ℕ) → list_all is_symbol xs ≡ true → Apart xs
    → Spaces xs text → symbols_of text ≡ Some xs
symbols_of-spaced [] text valid apart all =
    ap symbols_of (sym (append-nil text)) ∙ past_blanks text [] all
symbols_of-spaced (name characters ∷ xs) text valid apart (blanks, rest, all, split, more) =
    let later = symbols_of-spaced xs rest (right_true (is_tag characters) _ valid) apart.1 more in
    with_rest (name characters) text xs (symbols_of rest)
    (ap symbols_of (split ∙ append_assoc blanks _ rest) ∙ past_blanks blanks _ all
    ∙ past_name characters rest (left_true (is_tag characters) _ valid)
    (spaced_stops xs rest apart.0 more)) later
symbols_of-spaced (opening ∷ xs) text valid apart (blanks, rest, all, split, more) =
    with_rest opening text xs (symbols_of rest) (ap symbols_of (split ∙ append_assoc blanks _ rest)
    ∙ past_blanks blanks _ all
    ∙ past_mark opening 40 rest (is_tag_character-ascii 40 (lit< tt)) refl)
    (symbols_of-spaced xs rest valid apart more)
symbols_of-spaced (closing ∷ xs) text valid apart (blanks, rest, all, split, more) =
    with_rest closing text xs (symbols_of rest) (ap symbols_of (split ∙ append_assoc blanks _ rest)
    ∙ past_blanks blanks _ all
    ∙ past_mark closing 41 rest (is_tag_character-ascii 41 (lit< tt)) refl)
    (symbols_of-spaced xs rest valid apart more)
symbols_of-spaced (bang ∷ xs) text valid apart (blanks, rest, all, split, more) =
    with_rest bang text xs (symbols_of rest) (ap symbols_of (split ∙ append_assoc blanks _ rest)
    ∙ past_blanks blanks _ all
    ∙ past_mark bang 33 rest (is_tag_character-ascii 33 (lit< tt)) refl)
    (symbols_of-spaced xs rest valid apart more)
symbols_of-spaced (ampersands ∷ xs) text valid apart (blanks, rest, all, split, more) =
    with_rest ampersands text xs (symbols_of rest)
    (ap symbols_of (split ∙ append_assoc blanks _ rest) ∙ past_blanks blanks _ all
    ∙ past_half after_ampersand 38 (38 ∷ rest) (is_tag_character-ascii 38 (lit< tt)) refl)
    (symbols_of-spaced xs rest valid apart more)
symbols_of-spaced (bars ∷ xs) text valid apart (blanks, rest, all, split, more) =
    with_rest bars text xs (symbols_of rest) (ap symbols_of (split ∙ append_assoc blanks _ rest)
    ∙ past_blanks blanks _ all
    ∙ past_half after_bar 124 (124 ∷ rest) (is_tag_character-ascii 124 (lit< tt)) refl)
    (symbols_of-spaced xs rest valid apart more)

-- symbols that give a tree have no name after a name
unnamed_after : (outer : List Frame) (alternatives : Option Expression) (c : Conjunction)
    (xs : List Symbol) (e : Expression)
    → run xs (operator outer alternatives c) ≡ Some e → begins_with_name xs ≡ false
unnamed_after outer alternatives c [] e runs = refl
unnamed_after outer alternatives c (name characters ∷ xs) e runs = none_is_some runs
unnamed_after outer alternatives c (opening ∷ xs) e runs = refl
unnamed_after outer alternatives c (closing ∷ xs) e runs = refl
unnamed_after outer alternatives c (bang ∷ xs) e runs = refl
unnamed_after outer alternatives c (ampersands ∷ xs) e runs = refl
unnamed_after outer alternatives c (bars ∷ xs) e runs = refl

named_apart : (outer : List Frame) (f : Frame) (characters : List ℕ) (xs : List Symbol)
    (e : Expression)
    → run xs (with_operand outer f (tag characters)) ≡ Some e → begins_with_name xs ≡ false
named_apart outer (frame alternatives factors neg) characters xs e runs =
    unnamed_after outer alternatives _ xs e runs

apart_next : (xs : List Symbol) (e : Expression) → ((t : State) → run xs t ≡ Some e → Apart xs)
    → (o : Option State) → option_and_then (run xs) o ≡ Some e → Apart xs
apart_next xs e later None runs = none_is_some runs
apart_next xs e later (Some t) runs = later t runs

apart_run : (xs : List Symbol) (s : State) (e : Expression) → run xs s ≡ Some e → Apart xs
apart_run [] s e runs = tt
apart_run (name characters ∷ xs) (operand outer f) e runs = (
  named_apart outer f characters xs e runs,
  apart_run xs
      (with_operand outer f (tag characters)) e runs,
)
apart_run (name characters ∷ xs) (operator outer alternatives c) e runs = none_is_some runs
apart_run (opening ∷ xs) s e runs = apart_next xs e (λ t. apart_run xs t e) (step s opening) runs
apart_run (closing ∷ xs) s e runs = apart_next xs e (λ t. apart_run xs t e) (step s closing) runs
apart_run (bang ∷ xs) s e runs = apart_next xs e (λ t. apart_run xs t e) (step s bang) runs
apart_run (ampersands ∷ xs) s e runs =
    apart_next xs e (λ t. apart_run xs t e) (step s ampersands) runs
apart_run (bars ∷ xs) s e runs = apart_next xs e (λ t. apart_run xs t e) (step s bars) runs

-- the tree of a text
abbrev pub expression_of : List ℕ → Option Expression
expression_of text = option_and_then tree_of (symbols_of text)

pub expression_of-spelled : (text : List ℕ) (e : Expression) → IsSpelled text e
    → expression_of text ≡ Some e
expression_of-spelled text e spelled =
    let tree = tree_of-print e spelled.depth in
    ap (option_and_then tree_of) (symbols_of-spaced (print e) text spelled.tags
    (apart_run (print e) _ e tree) spelled.spaced) ∙ tree

pub expression_of-is : (text : List ℕ) (e : Expression) → expression_of text ≡ Some e
    → IsSpelled text e
expression_of-is text e is = go (symbols_of text) refl is
  where
    go : (o : Option (List Symbol)) → symbols_of text ≡ o → option_and_then tree_of o ≡ Some e
        → IsSpelled text e
    go None symbols tree = none_is_some tree
    go (Some xs) symbols tree =
        let those = symbols_of-are text xs symbols in
        let printed = tree_of-is xs e tree in
        record {
          tags = subst (λ l. IsTrue (list_all is_symbol l)) (sym printed.same) those.valid;
          depth = printed.shallow;
          spaced = subst (λ l. Spaces l text) (sym printed.same) those.spaced;
        }

pub spelled_once : (text : List ℕ) (e f : Expression) → IsSpelled text e → IsSpelled text f → e ≡ f
spelled_once text e f one other =
    some_same (sym (expression_of-spelled text e one) ∙ expression_of-spelled text f other)
