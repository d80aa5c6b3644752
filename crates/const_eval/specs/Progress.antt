-- Cited by private clauses and proofs. How far the constants' values are found.
use Rattle.std.specs.Prelude.{◌≡◌, ℕ, suc, ◌<◌, List, [], ◌∷◌, Bool, true, false, Option, Some}
use Rattle.std.specs.Prelude.{None, is_some, option_map, unwrap_or, if◌then◌else◌, ◌==◌, sum_by}
use Rattle.std.specs.Prelude.{slice_index_or, String, ℤ, pos, negsuc}
use Rattle.std.specs.BTreeMap.{BTreeMap, get_by_text}
use Rattle.std.specs.declared.alloc.Global.{Global}
use Rattle.std.specs.Str.{bytes_eq}
use Rattle.const_eval.specs.declared.constants.ConstFact.{ConstFact}
use Rattle.const_eval.specs.declared.value.Value.{Value}
use Rattle.const_eval.specs.Machine.{values, whole}
use Rattle.const_eval.specs.Reading.{operand_value, name_value}
use Rattle.const_eval.specs.Constants.{IsConstant, IsOnly}

abbrev pub number_of : Value → ℤ
number_of value = value.number

-- the value of a run
abbrev pub run_value : (List ℕ → Option ℤ) → List (List ℕ) → Option ℤ
run_value names run = option_map number_of (whole values (operand_value names) run)

-- the value of a constant's run, where this is known of names
abbrev pub fact_value : (List ℕ → Option ℤ) → ConstFact → Option ℤ
fact_value known fact = run_value (name_value (Some fact.iota) known) fact.value

-- how many constants have a name
abbrev pub count_named : List ConstFact → List ℕ → ℕ
count_named facts name = sum_by (λ fact. if bytes_eq name fact.name then 1 else 0) facts

abbrev pub AreCounts : List ConstFact → BTreeMap (String Global) ℕ → Type 0
AreCounts facts counts = (name : List ℕ)
    → unwrap_or (get_by_text counts name) 0 ≡ count_named facts name

-- the value that a constant is found to have now, where so many have its name
abbrev pub news_from : ℕ → (List ℕ → Option ℤ) → ConstFact → Option ℤ
news_from count known fact =
    if count == 1 then (if is_some (known fact.name) then None else fact_value known fact) else None

abbrev pub news_of : List ConstFact → (List ℕ → Option ℤ) → ConstFact → Option ℤ
news_of facts known fact = news_from (count_named facts fact.name) known fact

-- every known value is that of its constant, and follows from what is known
pub record IsKnown (facts : List ConstFact) (known : List ℕ → Option ℤ) : Type 0 where
  pub sound : (name : List ℕ) (number : ℤ) → known name ≡ Some number → IsConstant facts name number
  pub stable : (name : List ℕ) (number : ℤ) → known name ≡ Some number
      → (fact : ConstFact) × IsOnly facts name fact × (fact_value known fact ≡ Some number)

-- how many constants have a name that isn't known
abbrev pub missing : List ConstFact → (List ℕ → Option ℤ) → ℕ
missing [] known = 0
missing (fact ∷ facts) known = if is_some (known fact.name) then missing facts known
    else suc (missing facts known)

-- nothing is found at the first places
abbrev pub IsClosed : List ConstFact → (List ℕ → Option ℤ) → ℕ → Type 0
IsClosed facts known places = (place : ℕ) (d : ConstFact) → place < places
    → news_of facts known (slice_index_or facts place d) ≡ None

-- what an attempt at a place changes
abbrev pub Attempts : List ConstFact → ℕ → BTreeMap (String Global) ℤ → BTreeMap (String Global) ℤ
    → Bool → Type 0
Attempts facts place old new true =
    missing facts (get_by_text new) < missing facts (get_by_text old)
Attempts facts place old new false = (new ≡ old)
    × ((d : ConstFact) → news_of facts (get_by_text old) (slice_index_or facts place d) ≡ None)

-- what attempts at the first places change
abbrev pub Passes : List ConstFact → ℕ → BTreeMap (String Global) ℤ → BTreeMap (String Global) ℤ
    → Bool → Type 0
Passes facts places old new true = missing facts (get_by_text new) < missing facts (get_by_text old)
Passes facts places old new false = (new ≡ old) × IsClosed facts (get_by_text old) places

-- a number of at least 0
abbrev pub natural : Option ℤ → Option ℕ
natural None = None
natural (Some (pos n)) = Some n
natural (Some (negsuc n)) = None
