use Rattle.std.proofs.Common.{◌≡◌, ◌+◌, length, drop}
use Rattle.go_ast.specs.Lexical.{run_after}
use Rattle.go_scanner.proofs.run.length_after.Given as goal

-- the run so far and its rest are the whole run
abbrev pub invariant-loop-i : goal.invariant-loop-i
invariant-loop-i l =
    l.i + length (run_after l.hexadecimal l.before (drop l.i l.rest))
    ≡ length (run_after l.hexadecimal l.fn.before l.rest)
