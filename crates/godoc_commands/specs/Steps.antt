-- Cited by private clauses and proofs. Why a scan gave no corpus. The project's own.
use Rattle.std.specs.Prelude.{ℕ, List, Option, ⊤}
use Rattle.plain_data.specs.declared.errors.IoFail.{IoFail}
use Rattle.plain_data.specs.declared.errors.IoFail.TheVariants as causes
use Rattle.tree_io.specs.Sources.{Contents}
use Rattle.godoc_commands.specs.declared.scan.ScanFault.{ScanFault}
use Rattle.godoc_commands.specs.declared.scan.ScanFault.TheVariants as faults
use Rattle.godoc_commands.specs.declared.status.Status.{Status}
use Rattle.godoc_commands.specs.declared.status.Status.TheVariants as statuses
use Rattle.godoc_commands.specs.Limits.{HasTooManyBytes, HasTooManyFiles, PassBytes}

-- a listing that failed so
abbrev pub fault_of : IoFail → ScanFault
fault_of causes.Failed = faults.TreeFault
fault_of causes.NoMemory = faults.NoMemory

-- the status of a command whose scan gave no corpus
abbrev pub status_of : ScanFault → Status
status_of faults.TreeFault = statuses.TreeFault
status_of (faults.TooManyFiles files) = statuses.Limit files 0
status_of (faults.TooManyBytes bytes) = statuses.Limit 0 bytes
status_of faults.NoMemory = statuses.NoMemory

-- the scan under way gives no corpus, for this
abbrev pub IsScanFault : Option (List Contents) → ℕ → ℕ → ScanFault → Type 0
IsScanFault scans before now faults.TreeFault = ⊤
IsScanFault scans before now (faults.TooManyFiles files) = HasTooManyFiles scans before now files
IsScanFault scans before now (faults.TooManyBytes bytes) = HasTooManyBytes scans before now bytes
IsScanFault scans before now faults.NoMemory = ⊤

-- the files at these paths weren't all read, for this
abbrev pub IsReadFault : Option (List Contents) → List (List ℕ) → ℕ → ℕ → ScanFault → Type 0
IsReadFault scans paths before now (faults.TooManyBytes bytes) =
    PassBytes scans paths before now bytes
IsReadFault scans paths before now faults.NoMemory = ⊤
IsReadFault scans paths before now _ = ⊥
