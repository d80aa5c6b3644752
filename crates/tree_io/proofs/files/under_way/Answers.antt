use Rattle.std.proofs.Common.{◌≡◌, ℕ, List, [], ◌∷◌, ◌≤◌, length, map, arith}
use Rattle.std.specs.BTreeMap.{BTreeMap}
use Rattle.std.specs.declared.string.String.{String}
use Rattle.tree_io.specs.Scans.{under_way}
use Rattle.tree_io.specs.Files.{files_of, scans_of}
use Rattle.tree_io.proofs.FileMaps.{under_way-no_versions, under_way-get}
use Rattle.tree_io.proofs.files.under_way.Goals as goal

no_files : {A : Type 0} (ms : List (BTreeMap (String A) (List ℕ))) (n : ℕ) → (1 ≤ length ms → ⊥)
    → under_way (scans_of (map files_of ms) n) ≡ []
no_files [] n none = under_way-no_versions n
no_files (m ∷ ms) n none = absurd (none (omega arith))

pub returns-in_err-last : goal.returns-in_err-last
returns-in_err-last c = rw c.from_residual-in_err-last.ensures
    (no_files c.args.versions.now c.args.opened c.in_err-last.ensures)

pub returns : goal.returns
returns c =
    let place = c.in_ok-place.ensures in
    let last = c.in_ok-last.ensures in
    under_way-get c.args.versions.now c.args.opened c.min.result c.get.result place.0 last.0
    (omega (arith, place.1, last.1, c.min.ensures)) c.get.ensures.lookup
