-- Cited by private clauses and proofs. What a character makes of a `Cutting`.
use Rattle.std.specs.Prelude.{◌≡◌, ℕ, Bool, List, [], ◌++◌, Some, None, MatchBool}
use Rattle.std.specs.Prelude.{string_bytes, if◌then◌else◌}
use Rattle.std.specs.Option.{option_to_list}
use Rattle.build_lines.specs.declared.cutting.Cutting.{Cutting}
use Rattle.build_lines.specs.declared.symbol.Place.{Place}
use Rattle.build_lines.specs.declared.symbol.Step.{Step}
use Rattle.build_lines.specs.Reading.{ended_tag, is_in_tag, step_at, tag_after}

-- the tag, if there is one, ended before a character after which this place is
pub record IsTagEnded (holds : List ℕ
    → Bool) (old : Cutting) (place : Place) (new : Cutting) : Type 0 where
  pub symbols : new.symbols ≡ old.symbols ++ ended_tag holds old.place place (string_bytes old.tag)
  pub tag : string_bytes new.tag ≡ (if is_in_tag place then string_bytes old.tag else [])
  pub same_place : new.place ≡ old.place

-- a character made this step
pub record IsMoved (holds : List ℕ
    → Bool) (old : Cutting) (c : ℕ) (new : Cutting) (step : Step) : Type 0 where
  pub steps : step_at old.place c ≡ Some step
  pub symbols : new.symbols ≡ old.symbols
      ++ ended_tag holds old.place step.place (string_bytes old.tag) ++ option_to_list step.symbol
  pub tag : string_bytes new.tag ≡ tag_after step.place (string_bytes old.tag) c
  pub place : new.place ≡ step.place

-- the character was taken, or it may not stand there
abbrev pub IsCutAfter : (List ℕ → Bool) → Cutting → ℕ → Bool → Cutting → Type 0
IsCutAfter holds old c taken new =
    MatchBool taken ((step : Step) × IsMoved holds old c new step) (step_at old.place c ≡ None)
