use Rattle.std.proofs.Common.{◌≡◌, ◌∙◌, false, arith}
use Rattle.std.specs.Prelude.{Err, Ok, OnOk, Result}
use Rattle.std.specs.Result.{is_err}
use Rattle.tree_io.proofs.Laws.{listed_are_known}
use Rattle.godoc_commands.proofs.scan.scan_tree.Goals as goal

on_ok_part : {T E P : Type 0} (r : Result T E) → is_err r ≡ false → OnOk r P → P
on_ok_part (Ok x) fine h = h
on_ok_part (Err e) fine h = cc

pub read_files-requires : goal.read_files-requires
read_files-requires g c =
    listed_are_known (g.T.Tree.scans c.list.new.self) c.in_ok-paths.paths
    (rw c.in_ok-paths.ensures.same_scans c.in_ok-paths.ensures.told)

pub returns-clause-list_faults : goal.returns-clause-list_faults
returns-clause-list_faults g c =
    let fine : is_err c.open_scan.result ≡ false = cc in
    let opened = on_ok_part c.open_scan.result fine c.open_scan.ensures.cause.kept in
    let same = c.in_ok-sources.ensures.same_list_faults ∙ c.in_ok-paths.ensures.cause.kept
    ∙ opened in record {
      later = omega (arith, same);
      rose = λ e. cc;
      kept = λ _. same;
    }
