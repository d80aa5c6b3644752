use Rattle.std.proofs.Common.{◌≡◌, drop, []}
use Rattle.std.specs.Prelude.{false}
use Rattle.build_lines.specs.Evaluations.{evaluation_of}
use Rattle.build_lines.specs.Reading.{evaluate, evaluating, no_values}
use Rattle.build_lines.proofs.evaluation.value_of.Given as goal

-- the symbols that are left have the value of all, after what was read
abbrev pub invariant-loop-symbol : goal.invariant-loop-symbol
invariant-loop-symbol l = evaluate (drop l.symbol-index l.symbols) (evaluation_of l.evaluation)
    ≡ evaluate l.symbols (evaluating [] no_values false)
