use Rattle.package_group.proofs.ByFolder.{by_folder}
use Rattle.package_group.proofs.Whole.{is_by_path}
use Rattle.package_group.proofs.grouping.group.Goals as goal

pub returns : goal.returns
returns c =
    let are = c.in_ok-placed.ensures in
    by_folder c.args.prefix.now c.args.files.now c.requires.belong _
    (is_by_path c.args.prefix.now c.args.files.now c.in_ok-placed.placed.items
    c.in_ok-folders.folders c.in_ok-names.names c.in_ok-packages.packages c.in_ok-others.others
    are
    (rw c.as_slice.ensures.value at c.in_ok-folders.ensures.members)
    (rw c.as_slice.ensures.value at c.in_ok-folders.ensures.paths)
    c.in_ok-packages.ensures.ordered c.in_ok-packages.ensures.packages
    (rw c.as_slice-2.ensures at c.in_ok-names.ensures.paths)
    (rw c.as_slice-2.ensures at c.in_ok-names.ensures.names)
    (rw c.as_slice-3.ensures.value at c.in_ok-others.ensures))
