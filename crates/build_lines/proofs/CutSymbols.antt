-- A text is cut into the symbols that it spaces, with their values.
use Rattle.std.proofs.Common.{◌≡◌, ℕ, Bool, true, false, List, [], ◌∷◌, ◌++◌, map, refl, sym}
use Rattle.std.proofs.Common.{◌∙◌, ap, append_assoc, append-nil}
use Rattle.std.specs.Prelude.{Option, Some, None, if◌then◌else◌, ◌==◌, option_and_then, option_map}
use Rattle.std.specs.Prelude.{encode_utf8}
use Rattle.std.specs.Option.{option_to_list}
use Rattle.std.specs.Str.{encode_utf8_all}
use Rattle.std.proofs.lemmas.Str.{encodes-append}
use Rattle.build_lines.specs.declared.symbol.Symbol.{Symbol as Valued}
use Rattle.build_lines.specs.declared.symbol.Symbol.TheVariants as v
use Rattle.build_lines.specs.declared.symbol.Place.{Place as Position}
use Rattle.build_lines.specs.declared.symbol.Place.TheVariants.{Between, AfterAmpersand, AfterBar}
use Rattle.build_lines.specs.declared.symbol.Place.TheVariants.{InTag}
use Rattle.build_lines.specs.declared.symbol.Step.{Step}
use Rattle.build_lines.specs.Expressions.{Symbol, opening, closing, bang, ampersands, bars, name}
use Rattle.build_lines.specs.Expressions.{is_blank, is_tag_character}
use Rattle.build_lines.specs.Reading.{cut, ended_tag, front_step, mark_step, step_to}
use Rattle.build_lines.specs.Reading.{tag_after}
use Rattle.build_lines.proofs.SymbolText.{Place, between, in_tag, after_ampersand, after_bar, begin}
use Rattle.build_lines.proofs.SymbolText.{begin_mark, symbols_from, take_one, then_symbols}
use Rattle.build_lines.proofs.SymbolText.{with_name}
use Rattle.build_lines.proofs.TreeValues.{valued}

choose : {A B : Type 0} {x y : A} {u v : B} (b : Bool) (P : A → B → Type 0) → P x u → P y v
    → P (if b then x else y) (if b then u else v)
choose true P first second = first
choose false P first second = second

-- the two tests of a mark go together
marks : (c : ℕ) (P : Option (List Symbol × Place) → Option Step → Type 0) → P None None
    → P (Some ([], between)) (Some (step_to None Between))
    → P (Some (opening ∷ [], between)) (Some (step_to (Some v.Open) Between))
    → P (Some (closing ∷ [], between)) (Some (step_to (Some v.Close) Between))
    → P (Some (bang ∷ [], between)) (Some (step_to (Some v.Not) Between))
    → P (Some ([], after_ampersand)) (Some (step_to None AfterAmpersand))
    → P (Some ([], after_bar)) (Some (step_to None AfterBar))
    → P (begin_mark c) (mark_step c)
marks c P none blank opens closes nots ampersand bar =
    choose (is_blank c) P blank (choose (c == 40) P opens
    (choose (c == 41) P closes (choose (c == 33) P nots
    (choose (c == 38) P ampersand (choose (c == 124) P bar none)))))

abbrev position_of : Place → Position
position_of between = Between
position_of (in_tag front) = InTag
position_of after_ampersand = AfterAmpersand
position_of after_bar = AfterBar

abbrev tag_of : Place → List ℕ
tag_of (in_tag front) = encode_utf8_all front
tag_of _ = []

module _ (holds : List ℕ → Bool) where
  abbrev behind : List Valued → Option (List Symbol) → Option (List Valued)
  behind found o = option_map (λ symbols. found ++ map (valued holds) symbols) o

  map_more : (xs ys : List Symbol)
      → map (valued holds) (xs ++ ys) ≡ map (valued holds) xs ++ map (valued holds) ys
  map_more [] ys = refl
  map_more (x ∷ xs) ys = ap (λ l. valued holds x ∷ l) (map_more xs ys)

  more_found : (found after : List Valued) (xs : List Symbol) (o : Option (List Symbol))
      → after ≡ found ++ map (valued holds) xs
      → behind after o ≡ behind found (option_map (λ more. xs ++ more) o)
  more_found found after xs None same = refl
  more_found found after xs (Some l) same =
      ap Some (ap (λ a. a ++ map (valued holds) l) same
      ∙ append_assoc found (map (valued holds) xs) (map (valued holds) l)
      ∙ ap (λ a. found ++ a) (sym (map_more xs l)))

  abbrev Same : List ℕ → Type 0
  Same cs = (place : Place) (found : List Valued)
      → cut holds cs (position_of place) (tag_of place) found ≡ behind found (symbols_from cs place)

  abbrev go_on : List ℕ → Place → ℕ → List Valued → Step → Option (List Valued)
  go_on cs place c found step = cut holds cs step.place (tag_after step.place (tag_of place) c)
      (found ++ ended_tag holds (position_of place) step.place (tag_of place)
      ++ option_to_list step.symbol)

  arrives : (cs : List ℕ) (place next : Place) (c : ℕ) (found : List Valued) (xs : List Symbol)
      (symbol : Option Valued) → Same cs
      → found ++ ended_tag holds (position_of place) (position_of next) (tag_of place)
      ++ option_to_list symbol ≡ found ++ map (valued holds) xs
      → tag_after (position_of next) (tag_of place) c ≡ tag_of next
      → go_on cs place c found (step_to symbol (position_of next))
      ≡ behind found (then_symbols (symbols_from cs) (xs, next))
  arrives cs place next c found xs symbol later same tags =
      ap (λ t. cut holds cs (position_of next) t
      (found ++ ended_tag holds (position_of place) (position_of next) (tag_of place)
      ++ option_to_list symbol)) tags
      ∙ later next (found ++ ended_tag holds (position_of place) (position_of next) (tag_of place)
      ++ option_to_list symbol)
      ∙ more_found found _ xs (symbols_from cs next) same

  -- without a tag before it, a mark adds its own symbols
  plain : (found own : List Valued) → found ++ [] ++ own ≡ found ++ own
  plain found own = ap (λ l. l ++ own) (append-nil found)

  same_begin : (cs : List ℕ) (c : ℕ) (found : List Valued) → Same cs
      → option_and_then (go_on cs between c found) (front_step c)
      ≡ behind found (option_and_then (then_symbols (symbols_from cs)) (begin c))
  same_begin cs c found later =
      let P : Option (List Symbol × Place) → Option Step → Type 0 =
      λ o s. option_and_then (go_on cs between c found) s
      ≡ behind found (option_and_then (then_symbols (symbols_from cs)) o) in
      choose (is_tag_character c) P
      (arrives cs between (in_tag (c ∷ [])) c found [] None later (plain found [])
      (sym (append-nil (encode_utf8 c))))
      (marks c P refl
      (arrives cs between between c found [] None later (plain found []) refl)
      (arrives cs between between c found (opening ∷ []) (Some v.Open) later
      (plain found (v.Open ∷ [])) refl)
      (arrives cs between between c found (closing ∷ []) (Some v.Close) later
      (plain found (v.Close ∷ [])) refl)
      (arrives cs between between c found (bang ∷ []) (Some v.Not) later
      (plain found (v.Not ∷ [])) refl)
      (arrives cs between after_ampersand c found [] None later (plain found []) refl)
      (arrives cs between after_bar c found [] None later (plain found []) refl))

  same_in_tag : (cs : List ℕ) (c : ℕ) (front : List ℕ) (found : List Valued) → Same cs
      → option_and_then (go_on cs (in_tag front) c found) (front_step c)
      ≡ behind found (option_and_then (then_symbols (symbols_from cs)) (take_one (in_tag front) c))
  same_in_tag cs c front found later =
      let P : Option (List Symbol × Place) → Option Step → Type 0 =
      λ o s. option_and_then (go_on cs (in_tag front) c found) s
      ≡ behind found (option_and_then (then_symbols (symbols_from cs)) o) in
      let Q : Option (List Symbol × Place) → Option Step → Type 0 =
      λ o s. P (option_map (with_name front) o) s in
      let t : Valued = v.Tag (holds (encode_utf8_all front)) in
      choose (is_tag_character c) P
      (arrives cs (in_tag front) (in_tag (front ++ c ∷ [])) c found [] None later (plain found [])
      (ap (λ l. encode_utf8_all front ++ l) (sym (append-nil (encode_utf8 c)))
      ∙ sym (encodes-append front (c ∷ []))))
      (marks c Q refl
      (arrives cs (in_tag front) between c found (name front ∷ []) None later
      (append-nil (found ++ t ∷ [])) refl)
      (arrives cs (in_tag front) between c found (name front ∷ opening ∷ []) (Some v.Open) later
      (append_assoc found (t ∷ []) (v.Open ∷ [])) refl)
      (arrives cs (in_tag front) between c found (name front ∷ closing ∷ []) (Some v.Close) later
      (append_assoc found (t ∷ []) (v.Close ∷ [])) refl)
      (arrives cs (in_tag front) between c found (name front ∷ bang ∷ []) (Some v.Not) later
      (append_assoc found (t ∷ []) (v.Not ∷ [])) refl)
      (arrives cs (in_tag front) after_ampersand c found (name front ∷ []) None later
      (append-nil (found ++ t ∷ [])) refl)
      (arrives cs (in_tag front) after_bar c found (name front ∷ []) None later
      (append-nil (found ++ t ∷ [])) refl))

  pub cut-symbols : (cs : List ℕ) → Same cs
  cut-symbols [] between found = ap Some (sym (append-nil found))
  cut-symbols [] (in_tag front) found = refl
  cut-symbols [] after_ampersand found = refl
  cut-symbols [] after_bar found = refl
  cut-symbols (c ∷ cs) between found = same_begin cs c found (cut-symbols cs)
  cut-symbols (c ∷ cs) (in_tag front) found = same_in_tag cs c front found (cut-symbols cs)
  cut-symbols (c ∷ cs) after_ampersand found =
      let P : Option (List Symbol × Place) → Option Step → Type 0 =
      λ o s. option_and_then (go_on cs after_ampersand c found) s
      ≡ behind found (option_and_then (then_symbols (symbols_from cs)) o) in
      choose (c == 38) P (arrives cs after_ampersand between c found (ampersands ∷ []) (Some v.And)
      (cut-symbols cs) (plain found (v.And ∷ [])) refl) refl
  cut-symbols (c ∷ cs) after_bar found =
      let P : Option (List Symbol × Place) → Option Step → Type 0 =
      λ o s. option_and_then (go_on cs after_bar c found) s
      ≡ behind found (option_and_then (then_symbols (symbols_from cs)) o) in
      choose (c == 124) P (arrives cs after_bar between c found (bars ∷ []) (Some v.Or)
      (cut-symbols cs) (plain found (v.Or ∷ [])) refl) refl
