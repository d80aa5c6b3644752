-- Cited by public clauses. How the program shows the status with which a run ended. The project's
-- own.
use Rattle.std.specs.Prelude.{ℕ, List, Option, Some, None, codes}
use Rattle.godoc_commands.specs.declared.status.Status.{Status}
use Rattle.godoc_commands.specs.declared.status.Status.TheVariants as statuses

-- the exit status of the program
abbrev pub exit_status_of : Status → ℕ
exit_status_of statuses.Done = 0
exit_status_of statuses.Usage = 2
exit_status_of statuses.TreeFault = 3
exit_status_of (statuses.Limit files bytes) = 4
exit_status_of statuses.ReadFault = 5
exit_status_of statuses.WriteFault = 6
exit_status_of statuses.NoMemory = 7
exit_status_of statuses.DoorFault = 8

-- the line on standard error, where there is one
abbrev pub message_of : Status → Option (List ℕ)
message_of statuses.Done = None
message_of statuses.Usage = Some
    (codes "usage: godoc ROOT [options] find NAME | answer | gen START PACKAGES | serve PORT")
message_of statuses.TreeFault = Some (codes "godoc: the tree could not be listed")
message_of (statuses.Limit files bytes) = Some (codes "godoc: too large")
message_of statuses.ReadFault = Some (codes "godoc: reading failed")
message_of statuses.WriteFault = Some (codes "godoc: writing failed")
message_of statuses.NoMemory = Some (codes "godoc: no memory")
message_of statuses.DoorFault = Some (codes "godoc: a door failed")
