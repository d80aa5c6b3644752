use Rattle.std.proofs.Common.{◌≡◌, drop}
use Rattle.const_eval.specs.Machine.{values, run, finish, whole, state_of}
use Rattle.const_eval.specs.Names.{names_of}
use Rattle.const_eval.specs.Reading.{operand_value}
use Rattle.go_literals.specs.Options.{◌|>◌}
use Rattle.const_eval.proofs.constants.run_value.Given as goal

abbrev pub invariant-loop-text : goal.invariant-loop-text
invariant-loop-text l =
    (run values (operand_value (names_of l.names))
    (state_of l.machine.frames.items l.machine.operand) (drop l.text-index l.run) |> finish
    values)
    ≡ whole values (operand_value (names_of l.names)) l.run
