-- A text cut into symbols, one character after another.
use Rattle.std.proofs.Common.{◌≡◌, ℕ, Bool, true, false, List, [], ◌∷◌, ◌++◌, refl, sym, ◌∙◌, ap}
use Rattle.std.proofs.Common.{length, arith}
use Rattle.std.specs.Prelude.{Option, Some, None, option_and_then, IsUtf8, encode_utf8}
use Rattle.std.specs.Prelude.{string_bytes}
use Rattle.std.specs.Option.{option_to_list}
use Rattle.std.specs.Str.{chars}
use Rattle.std.proofs.lemmas.Str.{chars_past_char, chars-nil, IsUtf8-past_char}
use Rattle.build_lines.specs.declared.cutting.Cutting.{Cutting}
use Rattle.build_lines.specs.declared.symbol.Symbol.{Symbol}
use Rattle.build_lines.specs.declared.symbol.Step.{Step}
use Rattle.build_lines.specs.Reading.{cut, cut_end, ended_tag, step_at, tag_after}
use Rattle.build_lines.specs.Cuttings.{IsCutAfter}
use Rattle.build_lines.proofs.SymbolText.{no_true}

-- the symbols that are still to come, and those that were found
abbrev pub cut_from : (List ℕ → Bool) → List ℕ → Cutting → Option (List Symbol)
cut_from holds bytes cutting =
    cut holds (chars bytes) cutting.place (string_bytes cutting.tag) cutting.symbols

-- a text that is UTF-8 from here on, and gives these symbols
pub record GoesOn (holds : List ℕ
    → Bool) (bytes : List ℕ) (cutting : Cutting) (all : Option (List Symbol)) : Type 0 where
  pub utf8 : IsUtf8 bytes
  pub same : cut_from holds bytes cutting ≡ all

first_step : (holds : List ℕ → Bool) (c : ℕ) (cs : List ℕ) (old : Cutting) (o : Option Step)
    → step_at old.place c ≡ o
    → cut holds (c ∷ cs) old.place (string_bytes old.tag) old.symbols
    ≡ option_and_then (λ step. cut holds cs step.place
    (tag_after step.place (string_bytes old.tag) c)
    (old.symbols ++ ended_tag holds old.place step.place (string_bytes old.tag)
    ++ option_to_list step.symbol)) o
first_step holds c cs old o steps =
    ap (option_and_then (λ step. cut holds cs step.place
    (tag_after step.place (string_bytes old.tag) c)
    (old.symbols ++ ended_tag holds old.place step.place (string_bytes old.tag)
    ++ option_to_list step.symbol))) steps

-- a character that is taken
pub goes_past : (holds : List ℕ
    → Bool) (bytes rest : List ℕ) (c : ℕ) (old new : Cutting) (all : Option (List Symbol))
    (taken : Bool)
    → GoesOn holds bytes old all → bytes ≡ encode_utf8 c ++ rest → taken ≡ true
    → IsCutAfter holds old c taken new → GoesOn holds rest new all
goes_past holds bytes rest c old new all false before split taken after = no_true taken
goes_past holds bytes rest c old new all true before split taken (step, moved) = record {
  utf8 = IsUtf8-past_char bytes rest c before.utf8 split;
  same = ap (λ p. cut holds (chars rest) p (string_bytes new.tag) new.symbols) moved.place
      ∙ ap (λ t. cut holds (chars rest) step.place t new.symbols) moved.tag
      ∙ ap (cut holds (chars rest) step.place (tag_after step.place (string_bytes old.tag) c))
      moved.symbols
      ∙ sym (first_step holds c (chars rest) old (Some step) moved.steps)
      ∙ ap (λ cs. cut holds cs old.place (string_bytes old.tag) old.symbols)
      (sym (chars_past_char bytes rest c before.utf8 split))
      ∙ before.same;
}

-- a character that may not stand there
pub stops_at : (holds : List ℕ
    → Bool) (bytes rest : List ℕ) (c : ℕ) (old new : Cutting) (all : Option (List Symbol))
    (taken : Bool)
    → GoesOn holds bytes old all → bytes ≡ encode_utf8 c ++ rest → taken ≡ false
    → IsCutAfter holds old c taken new → None ≡ all
stops_at holds bytes rest c old new all true before split taken after = no_true (sym taken)
stops_at holds bytes rest c old new all false before split taken steps =
    sym (first_step holds c (chars rest) old None steps)
    ∙ ap (λ cs. cut holds cs old.place (string_bytes old.tag) old.symbols)
    (sym (chars_past_char bytes rest c before.utf8 split))
    ∙ before.same

no_bytes : (bytes : List ℕ) → length bytes ≡ 0 → bytes ≡ []
no_bytes [] empty = refl
no_bytes (b ∷ bytes) empty = absurd (omega arith)

-- the end of the text
pub ends_at : (holds : List ℕ → Bool) (bytes : List ℕ) (cutting : Cutting)
    (all : Option (List Symbol)) → GoesOn holds bytes cutting all → length bytes ≡ 0
    → cut_end holds cutting.place (string_bytes cutting.tag) cutting.symbols ≡ all
ends_at holds bytes cutting all before empty =
    ap (λ cs. cut holds cs cutting.place (string_bytes cutting.tag) cutting.symbols)
    (sym (ap chars (no_bytes bytes empty) ∙ chars-nil)) ∙ before.same
