-- Cited by private clauses and proofs. What names are worth, by the map of the constants' values.
use Rattle.std.specs.Prelude.{ℕ, List, Option, ℤ}
use Rattle.std.specs.BTreeMap.{get_by_text}
use Rattle.const_eval.specs.declared.names.Names.{Names}
use Rattle.const_eval.specs.Reading.{name_value}

abbrev pub names_of : Names → List ℕ → Option ℤ
names_of names = name_value names.iota (get_by_text names.values.now)
