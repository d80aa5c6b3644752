-- The value that is found for a text is that of the expression that it spells.
use Rattle.std.proofs.Common.{◌≡◌, ℕ, Bool, false, List, [], ◌++◌, map, refl, sym, ◌∙◌}
use Rattle.std.proofs.Common.{ap, subst}
use Rattle.std.specs.Prelude.{Option, Some, None, option_and_then, option_map, IsUtf8}
use Rattle.std.specs.Str.{chars}
use Rattle.std.proofs.lemmas.Str.{chars-encodes, encodes-chars, scalars-chars}
use Rattle.build_lines.specs.declared.symbol.Symbol.{Symbol as Valued}
use Rattle.build_lines.specs.declared.symbol.Place.TheVariants.{Between}
use Rattle.build_lines.specs.Expressions.{Expression, Symbol}
use Rattle.build_lines.specs.Judging.{IsValue}
use Rattle.build_lines.specs.Expressions.{Spells, value}
use Rattle.build_lines.specs.Reading.{cut, evaluate, evaluating, no_values}
use Rattle.build_lines.proofs.CutSymbols.{cut-symbols}
use Rattle.build_lines.proofs.Parsing.{tree_of}
use Rattle.build_lines.proofs.SpacedText.{expression_of, expression_of-is, expression_of-spelled}
use Rattle.build_lines.proofs.SymbolText.{between, symbols_of}
use Rattle.build_lines.proofs.Trees.{none_is_some}
use Rattle.build_lines.proofs.TreeValues.{evaluate-valued, valued}

-- the value of a text's symbols
abbrev pub value_found : (List ℕ → Bool) → List ℕ → Option Bool
value_found holds bytes = option_and_then
    (λ symbols. evaluate symbols (evaluating [] no_values false))
    (cut holds (chars bytes) Between [] [])

value_found-is : (holds : List ℕ → Bool) (bytes : List ℕ)
    → value_found holds bytes ≡ option_map (value holds) (expression_of (chars bytes))
value_found-is holds bytes =
    ap (option_and_then (λ symbols. evaluate symbols (evaluating [] no_values false)))
    (cut-symbols holds (chars bytes) between []) ∙ go (symbols_of (chars bytes))
  where
    go : (o : Option (List Symbol))
        → option_and_then (λ symbols. evaluate symbols (evaluating [] no_values false))
        (option_map (λ symbols. [] ++ map (valued holds) symbols) o)
        ≡ option_map (value holds) (option_and_then tree_of o)
    go None = refl
    go (Some symbols) = evaluate-valued holds symbols

tree_of_bytes : (bytes : List ℕ) (e : Expression) → Spells bytes e
    → expression_of (chars bytes) ≡ Some e
tree_of_bytes bytes e (text, scalars, split, spelled) =
    ap expression_of (ap chars split ∙ chars-encodes text scalars)
    ∙ expression_of-spelled text e spelled

pub value_found-spelled : (holds : List ℕ → Bool) (bytes : List ℕ) → IsUtf8 bytes
    → IsValue holds bytes (value_found holds bytes)
value_found-spelled holds bytes utf8 =
    subst (IsValue holds bytes) (sym (value_found-is holds bytes))
    (go (expression_of (chars bytes)) refl)
  where
    go : (o : Option Expression) → expression_of (chars bytes) ≡ o
        → IsValue holds bytes (option_map (value holds) o)
    go None none = λ e spells. none_is_some (sym none ∙ tree_of_bytes bytes e spells)
    go (Some e) some = (
      e,
      (
        chars bytes,
        scalars-chars bytes utf8,
        sym
            (encodes-chars bytes utf8),
        expression_of-is (chars bytes) e some,
      ),
      refl,
    )

-- the same where the symbols are told
pub value_of_symbols : (holds : List ℕ → Bool) (bytes : List ℕ) (found : Option (List Valued))
    → IsUtf8 bytes → found ≡ cut holds (chars bytes) Between [] []
    → IsValue holds bytes (option_and_then
    (λ symbols. evaluate symbols (evaluating [] no_values false)) found)
value_of_symbols holds bytes found utf8 same =
    subst (λ o. IsValue holds bytes
    (option_and_then (λ symbols. evaluate symbols (evaluating [] no_values false)) o))
    (sym same) (value_found-spelled holds bytes utf8)
