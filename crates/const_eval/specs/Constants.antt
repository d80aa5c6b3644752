-- Cited by public clauses. What constants are worth (The Go Programming Language Specification,
-- "Constant declarations", "Iota", "Declarations and scope").
use Rattle.std.specs.Prelude.{◌≡◌, ℕ, zero, suc, List, [], ◌∷◌, codes, MatchBool, Some, ℤ, pos}
use Rattle.std.specs.List.{filter}
use Rattle.std.specs.Str.{bytes_eq}
use Rattle.std.specs.BTreeMap.{get_by_text}
use Rattle.const_eval.specs.declared.constants.ConstFact.{ConstFact}
use Rattle.const_eval.specs.declared.constants.Constants.{Constants}
use Rattle.const_eval.specs.Expressions.{HasValue}

-- what names are worth in the run of a constant: `iota` is the number of its spec
abbrev pub in_place : ℕ → (List ℕ → ℤ → Type 0) → List ℕ → ℤ → Type 0
in_place iota names text number =
    MatchBool (bytes_eq text (codes "iota")) (number ≡ pos iota) (names text number)

-- the constants with this name are this one alone
abbrev pub IsOnly : List ConstFact → List ℕ → ConstFact → Type 0
IsOnly facts name fact = filter (λ other. bytes_eq name other.name) facts ≡ fact ∷ []

-- within so many steps the only constant with this name is worth a number: its run is, where names
-- are worth what they are within one step fewer
abbrev pub IsConstantWithin : List ConstFact → ℕ → List ℕ → ℤ → Type 0
IsConstantWithin facts zero name number = ⊥
IsConstantWithin facts (suc steps) name number = (fact : ConstFact) × IsOnly facts name fact
    × HasValue (in_place fact.iota (IsConstantWithin facts steps)) fact.value number

-- a name is worth a number: no chain of names leads back to it
abbrev pub IsConstant : List ConstFact → List ℕ → ℤ → Type 0
IsConstant facts name number = (steps : ℕ) × IsConstantWithin facts steps name number

-- the constants give a name this number
abbrev pub Gives : Constants → List ℕ → ℤ → Type 0
Gives constants name number = get_by_text constants.values name ≡ Some number
