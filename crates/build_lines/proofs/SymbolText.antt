-- The symbols of a text, character by character: they come out exactly where the text spaces them.
use Rattle.std.proofs.Common.{◌≡◌, ℕ, Bool, true, false, ◌&&◌, cond, List, [], ◌∷◌}
use Rattle.std.proofs.Common.{◌++◌, refl, sym, ◌∙◌, ap, subst, append_assoc}
use Rattle.std.specs.Prelude.{Option, Some, None, ⊤, if◌then◌else◌, ◌==◌, option_and_then}
use Rattle.std.specs.Prelude.{option_map, IsTrue}
use Rattle.std.specs.List.{list_all}
use Rattle.std.proofs.lemmas.Bool.{eqb-true}
use Rattle.build_lines.specs.Expressions.{Symbol, opening, closing, bang, ampersands}
use Rattle.build_lines.specs.Expressions.{bars, name, characters_of, is_blank, is_tag_character}
use Rattle.build_lines.specs.Expressions.{is_tag, is_symbol, Spaces}
use Rattle.build_lines.proofs.Trees.{none_is_some, some_same}

-- between symbols, within a tag that begins so, or after the first "&" or "|"
pub data Place : Type 0 where
  between after_ampersand after_bar : Place
  in_tag : List ℕ → Place

abbrev pub begin_mark : ℕ → Option (List Symbol × Place)
begin_mark c = if is_blank c then Some ([], between)
    else (if c == 40 then Some (opening ∷ [], between)
    else (if c == 41 then Some (closing ∷ [], between)
    else (if c == 33 then Some (bang ∷ [], between)
    else (if c == 38 then Some ([], after_ampersand)
    else (if c == 124 then Some ([], after_bar) else None)))))

-- the symbols that end with a character between symbols, and the place after it
abbrev pub begin : ℕ → Option (List Symbol × Place)
begin c = if is_tag_character c then Some ([], in_tag (c ∷ [])) else begin_mark c

abbrev pub with_name : List ℕ → List Symbol × Place → List Symbol × Place
with_name front (symbols, place) = (name front ∷ symbols, place)

abbrev pub take_one : Place → ℕ → Option (List Symbol × Place)
take_one between c = begin c
take_one (in_tag front) c = if is_tag_character c then Some ([], in_tag (front ++ c ∷ []))
    else option_map (with_name front) (begin_mark c)
take_one after_ampersand c = if c == 38 then Some (ampersands ∷ [], between) else None
take_one after_bar c = if c == 124 then Some (bars ∷ [], between) else None

abbrev pub symbols_at_end : Place → Option (List Symbol)
symbols_at_end between = Some []
symbols_at_end (in_tag front) = Some (name front ∷ [])
symbols_at_end after_ampersand = None
symbols_at_end after_bar = None

abbrev pub then_symbols : (Place → Option (List Symbol)) → List Symbol × Place
    → Option (List Symbol)
then_symbols rest (symbols, place) = option_map (λ more. symbols ++ more) (rest place)

abbrev pub symbols_from : List ℕ → Place → Option (List Symbol)
symbols_from [] place = symbols_at_end place
symbols_from (c ∷ cs) place = option_and_then (then_symbols (symbols_from cs)) (take_one place c)

-- the symbols of a text
abbrev pub symbols_of : List ℕ → Option (List Symbol)
symbols_of text = symbols_from text between

-- what was read of the symbol that isn't over
abbrev pending : Place → List ℕ
pending between = []
pending (in_tag front) = front
pending after_ampersand = 38 ∷ []
pending after_bar = 124 ∷ []

abbrev IsPlace : Place → Type 0
IsPlace (in_tag front) = IsTrue (is_tag front)
IsPlace _ = ⊤

pub record AreSymbolsOf (symbols : List Symbol) (text : List ℕ) : Type 0 where
  pub valid : IsTrue (list_all is_symbol symbols)
  pub spaced : Spaces symbols text

true_and : (a b : Bool) → a ≡ true → b ≡ true → (a && b) ≡ true
true_and true b first second = second
true_and false b first second = first

pub left_true : (a b : Bool) → (a && b) ≡ true → a ≡ true
left_true true b both = refl
left_true false b both = both

pub right_true : (a b : Bool) → (a && b) ≡ true → b ≡ true
right_true true b both = both
right_true false b both = absurd (false_true both)
  where
    false_true : false ≡ true → ⊥
    false_true e = subst (λ v. cond v ⊥ ⊤) e tt

pub no_true : {A : Type 0} → false ≡ true → A
no_true e = absurd (subst (λ v. cond v ⊥ ⊤) e tt)

-- a blank more at the front
blank_before : (c : ℕ) (symbols : List Symbol) (text : List ℕ) → is_blank c ≡ true
    → Spaces symbols text → Spaces symbols (c ∷ text)
blank_before c [] text blank spaced = true_and (is_blank c) (list_all is_blank text) blank spaced
blank_before c (x ∷ xs) text blank (blanks, rest, all, split, more) = (
  c ∷ blanks,
  rest,
  true_and (is_blank c) (list_all is_blank blanks) blank all,
  ap
      (λ l. c ∷ l) split,
  more,
)

-- a symbol more at the front
symbol_before : (x : Symbol) (xs : List Symbol) (rest : List ℕ) → IsTrue (is_symbol x)
    → AreSymbolsOf xs rest → AreSymbolsOf (x ∷ xs) (characters_of x ++ rest)
symbol_before x xs rest valid later =
    record {
      valid = true_and (is_symbol x) (list_all is_symbol xs) valid later.valid;
      spaced =
          ([], rest, refl, refl, later.spaced);
    }

grow_tag : (front : List ℕ) (c : ℕ) → is_tag front ≡ true → is_tag_character c ≡ true
    → is_tag (front ++ c ∷ []) ≡ true
grow_tag [] c tag_so_far passes = no_true tag_so_far
grow_tag (x ∷ xs) c tag_so_far passes = all_more (x ∷ xs) tag_so_far
  where
    all_more : (l : List ℕ) → list_all is_tag_character l ≡ true
        → list_all is_tag_character (l ++ c ∷ []) ≡ true
    all_more [] all = true_and (is_tag_character c) true passes refl
    all_more (y ∷ ys) all = true_and (is_tag_character y) _ (left_true _ _ all)
        (all_more ys (right_true (is_tag_character y) _ all))

-- what comes after one character
abbrev Later : List ℕ → Type 0
Later cs = (place : Place) (symbols : List Symbol) → IsPlace place
    → symbols_from cs place ≡ Some symbols → AreSymbolsOf symbols (pending place ++ cs)

-- a symbol of one or two characters ends here
ended : (x : Symbol) (cs : List ℕ) (symbols : List Symbol) → IsTrue (is_symbol x) → Later cs
    → option_map (λ more. x ∷ more) (symbols_from cs between) ≡ Some symbols
    → AreSymbolsOf symbols (characters_of x ++ cs)
ended x cs symbols valid later is = go (symbols_from cs between) refl is
  where
    go : (o : Option (List Symbol)) → symbols_from cs between ≡ o
        → option_map (λ more. x ∷ more) o ≡ Some symbols
        → AreSymbolsOf symbols (characters_of x ++ cs)
    go None rest same = none_is_some same
    go (Some more) rest same = subst (λ l. AreSymbolsOf l (characters_of x ++ cs)) (some_same same)
        (symbol_before x more cs valid (later between more tt rest))

pub option_map-same : (o : Option (List Symbol)) → option_map (λ (l : List Symbol). [] ++ l) o ≡ o
option_map-same None = refl
option_map-same (Some l) = refl

blank_ended : (c : ℕ) (cs : List ℕ) (symbols : List Symbol) → is_blank c ≡ true → Later cs
    → option_map (λ more. [] ++ more) (symbols_from cs between) ≡ Some symbols
    → AreSymbolsOf symbols (c ∷ cs)
blank_ended c cs symbols blank later is =
    let rest = later between symbols tt (sym (option_map-same (symbols_from cs between)) ∙ is) in
    record { valid = rest.valid; spaced = blank_before c symbols cs blank rest.spaced }

moved : (place : Place) (cs : List ℕ) (symbols : List Symbol) → IsPlace place → Later cs
    → option_map (λ more. [] ++ more) (symbols_from cs place) ≡ Some symbols
    → AreSymbolsOf symbols (pending place ++ cs)
moved place cs symbols valid later is =
    later place symbols valid (sym (option_map-same (symbols_from cs place)) ∙ is)

at_code : (c code : ℕ) (cs : List ℕ) (symbols : List Symbol) → (c == code) ≡ true
    → AreSymbolsOf symbols (code ∷ cs) → AreSymbolsOf symbols (c ∷ cs)
at_code c code cs symbols same those =
    subst (λ n. AreSymbolsOf symbols (n ∷ cs)) (sym (eqb-true c code same)) those

-- the tests of a character that is no part of a tag
sound_mark : (c : ℕ) (cs : List ℕ) (symbols : List Symbol) → Later cs
    → option_and_then (then_symbols (symbols_from cs)) (begin_mark c) ≡ Some symbols
    → AreSymbolsOf symbols (c ∷ cs)
sound_mark c cs symbols later is = blank (is_blank c) refl is
  where
    bar : (b : Bool) → (c == 124) ≡ b
        → option_and_then (then_symbols (symbols_from cs))
        (if b then Some ([], after_bar) else None) ≡ Some symbols → AreSymbolsOf symbols (c ∷ cs)
    bar true same so = at_code c 124 cs symbols same (moved after_bar cs symbols tt later so)
    bar false same so = none_is_some so

    ampersand : (b : Bool) → (c == 38) ≡ b
        → option_and_then (then_symbols (symbols_from cs))
        (if b then Some ([], after_ampersand)
        else (if c == 124 then Some ([], after_bar) else None)) ≡ Some symbols
        → AreSymbolsOf symbols (c ∷ cs)
    ampersand true same so = at_code c 38 cs symbols same
        (moved after_ampersand cs symbols tt later so)
    ampersand false same so = bar (c == 124) refl so

    not_mark : (b : Bool) → (c == 33) ≡ b
        → option_and_then (then_symbols (symbols_from cs))
        (if b then Some (bang ∷ [], between)
        else (if c == 38 then Some ([], after_ampersand)
        else (if c == 124 then Some ([], after_bar) else None))) ≡ Some symbols
        → AreSymbolsOf symbols (c ∷ cs)
    not_mark true same so = at_code c 33 cs symbols same (ended bang cs symbols refl later so)
    not_mark false same so = ampersand (c == 38) refl so

    close_mark : (b : Bool) → (c == 41) ≡ b
        → option_and_then (then_symbols (symbols_from cs))
        (if b then Some (closing ∷ [], between)
        else (if c == 33 then Some (bang ∷ [], between)
        else (if c == 38 then Some ([], after_ampersand)
        else (if c == 124 then Some ([], after_bar) else None)))) ≡ Some symbols
        → AreSymbolsOf symbols (c ∷ cs)
    close_mark true same so = at_code c 41 cs symbols same (ended closing cs symbols refl later so)
    close_mark false same so = not_mark (c == 33) refl so

    open_mark : (b : Bool) → (c == 40) ≡ b
        → option_and_then (then_symbols (symbols_from cs))
        (if b then Some (opening ∷ [], between)
        else (if c == 41 then Some (closing ∷ [], between)
        else (if c == 33 then Some (bang ∷ [], between)
        else (if c == 38 then Some ([], after_ampersand)
        else (if c == 124 then Some ([], after_bar) else None))))) ≡ Some symbols
        → AreSymbolsOf symbols (c ∷ cs)
    open_mark true same so = at_code c 40 cs symbols same (ended opening cs symbols refl later so)
    open_mark false same so = close_mark (c == 41) refl so

    blank : (b : Bool) → is_blank c ≡ b
        → option_and_then (then_symbols (symbols_from cs))
        (if b then Some ([], between) else
        (if c == 40 then Some (opening ∷ [], between)
        else (if c == 41 then Some (closing ∷ [], between)
        else (if c == 33 then Some (bang ∷ [], between)
        else (if c == 38 then Some ([], after_ampersand)
        else (if c == 124 then Some ([], after_bar) else None)))))) ≡ Some symbols
        → AreSymbolsOf symbols (c ∷ cs)
    blank true same so = blank_ended c cs symbols same later so
    blank false same so = open_mark (c == 40) refl so

-- between symbols
sound_begin : (c : ℕ) (cs : List ℕ) (symbols : List Symbol) → Later cs → (b : Bool)
    → is_tag_character c ≡ b
    → option_and_then (then_symbols (symbols_from cs))
    (if b then Some ([], in_tag (c ∷ [])) else begin_mark c) ≡ Some symbols
    → AreSymbolsOf symbols (c ∷ cs)
sound_begin c cs symbols later true passes is =
    moved (in_tag (c ∷ [])) cs symbols (true_and (is_tag_character c) true passes refl) later is
sound_begin c cs symbols later false passes is = sound_mark c cs symbols later is

-- a tag that ends before a character
named_before : (front : List ℕ) (c : ℕ) (cs : List ℕ) (symbols : List Symbol)
    → IsTrue (is_tag front) → Later cs → (o : Option (List Symbol × Place)) → begin_mark c ≡ o
    → option_and_then (then_symbols (symbols_from cs)) (option_map (with_name front) o)
    ≡ Some symbols → AreSymbolsOf symbols (front ++ c ∷ cs)
named_before front c cs symbols valid later None begun is = none_is_some is
named_before front c cs symbols valid later (Some (first, place)) begun is =
    go (symbols_from cs place) refl is
  where
    go : (o : Option (List Symbol)) → symbols_from cs place ≡ o
        → option_map (λ more. (name front ∷ first) ++ more) o ≡ Some symbols
        → AreSymbolsOf symbols (front ++ c ∷ cs)
    go None rest same = none_is_some same
    go (Some more) rest same =
        let marks = sound_mark c cs (first ++ more) later
        (ap (option_and_then (then_symbols (symbols_from cs))) begun
        ∙ ap (option_map (λ l. first ++ l)) rest) in
        subst (λ l. AreSymbolsOf l (front ++ c ∷ cs)) (some_same same)
        (symbol_before (name front) (first ++ more) (c ∷ cs) valid marks)

sound_tag : (front : List ℕ) (c : ℕ) (cs : List ℕ) (symbols : List Symbol) → IsTrue (is_tag front)
    → Later cs → (b : Bool) → is_tag_character c ≡ b
    → option_and_then (then_symbols (symbols_from cs))
    (if b then Some ([], in_tag (front ++ c ∷ [])) else option_map (with_name front) (begin_mark c))
    ≡ Some symbols
    → AreSymbolsOf symbols (front ++ c ∷ cs)
sound_tag front c cs symbols valid later true passes is =
    subst (AreSymbolsOf symbols) (append_assoc front (c ∷ []) cs)
    (moved (in_tag (front ++ c ∷ [])) cs symbols (grow_tag front c valid passes) later is)
sound_tag front c cs symbols valid later false passes is =
    named_before front c cs symbols valid later (begin_mark c) refl is

-- the second half of "&&" or "||"
sound_pair : (x : Symbol) (code c : ℕ) (cs : List ℕ) (symbols : List Symbol)
    → characters_of x ≡ code ∷ code ∷ [] → IsTrue (is_symbol x) → Later cs → (b : Bool)
    → (c == code) ≡ b
    → option_and_then (then_symbols (symbols_from cs)) (if b then Some (x ∷ [], between) else None)
    ≡ Some symbols → AreSymbolsOf symbols (code ∷ c ∷ cs)
sound_pair x code c cs symbols pair valid later false same is = none_is_some is
sound_pair x code c cs symbols pair valid later true same is =
    subst (λ n. AreSymbolsOf symbols (code ∷ n ∷ cs)) (sym (eqb-true c code same))
    (subst (λ l. AreSymbolsOf symbols (l ++ cs)) pair (ended x cs symbols valid later is))

symbols_from-are : (cs : List ℕ) → Later cs
symbols_from-are [] between symbols valid is =
    subst (λ l. AreSymbolsOf l []) (some_same is) (record { valid = refl; spaced = refl })
symbols_from-are [] (in_tag front) symbols valid is =
    subst (λ l. AreSymbolsOf l (front ++ [])) (some_same is)
    (symbol_before (name front) [] [] valid (record { valid = refl; spaced = refl }))
symbols_from-are [] after_ampersand symbols valid is = none_is_some is
symbols_from-are [] after_bar symbols valid is = none_is_some is
symbols_from-are (c ∷ cs) between symbols valid is =
    sound_begin c cs symbols (symbols_from-are cs) (is_tag_character c) refl is
symbols_from-are (c ∷ cs) (in_tag front) symbols valid is =
    sound_tag front c cs symbols valid (symbols_from-are cs) (is_tag_character c) refl is
symbols_from-are (c ∷ cs) after_ampersand symbols valid is =
    sound_pair ampersands 38 c cs symbols refl refl (symbols_from-are cs) (c == 38) refl is
symbols_from-are (c ∷ cs) after_bar symbols valid is =
    sound_pair bars 124 c cs symbols refl refl (symbols_from-are cs) (c == 124) refl is

-- the symbols of a text are valid, and the text spaces them
pub symbols_of-are : (text : List ℕ) (symbols : List Symbol) → symbols_of text ≡ Some symbols
    → AreSymbolsOf symbols text
symbols_of-are text symbols is = symbols_from-are text between symbols tt is
