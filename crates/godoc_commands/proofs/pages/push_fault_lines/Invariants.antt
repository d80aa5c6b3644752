use Rattle.std.proofs.Common.{◌≡◌, ◌++◌, take}
use Rattle.std.specs.List.{flat_map}
use Rattle.godoc_commands.specs.Pages.{fault_line}
use Rattle.godoc_commands.proofs.pages.push_fault_lines.Given as goal

-- the lines of the faults so far are appended
abbrev pub invariant-loop-fault : goal.invariant-loop-fault
invariant-loop-fault l = l.text ≡ l.initial.text
    ++ flat_map (fault_line l.corpus.sources.entries) (take l.fault-index l.faults)
