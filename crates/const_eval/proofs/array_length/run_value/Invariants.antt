use Rattle.std.proofs.Common.{◌≡◌, drop}
use Rattle.const_eval.specs.Machine.{values, run, finish, whole, state_of}
use Rattle.const_eval.specs.Names.{names_of}
use Rattle.const_eval.specs.Reading.{operand_value}
use Rattle.go_literals.specs.Options.{◌|>◌}
use Rattle.const_eval.specs.Lengths.{texts_of}
use Rattle.const_eval.proofs.array_length.run_value.Given as goal

abbrev pub invariant-loop-token : goal.invariant-loop-token
invariant-loop-token l =
    (run values (operand_value (names_of l.names))
    (state_of l.machine.frames.items l.machine.operand)
    (texts_of l.source (drop l.token-index l.tokens)) |> finish values)
    ≡ whole values (operand_value (names_of l.names)) (texts_of l.source l.tokens)
