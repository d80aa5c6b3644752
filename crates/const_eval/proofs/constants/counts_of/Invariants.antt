use Rattle.std.proofs.Common.{◌≡◌, ℕ, List, take}
use Rattle.std.specs.Prelude.{unwrap_or, sum_by, if◌then◌else◌}
use Rattle.std.specs.Str.{bytes_eq}
use Rattle.std.specs.BTreeMap.{get_by_text}
use Rattle.const_eval.proofs.constants.counts_of.Given as goal

abbrev pub invariant-loop-fact : goal.invariant-loop-fact
invariant-loop-fact l = (q : List ℕ) → unwrap_or (get_by_text l.counts q) 0 ≡ sum_by
    (λ fact. if bytes_eq q fact.name then 1 else 0) (take l.fact-index l.specs)
