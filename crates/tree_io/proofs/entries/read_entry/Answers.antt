use Rattle.tree_io.proofs.Reading.{IsReadSoFar-none, IsReadSoFar-read, IsReadSoFar-failed}
use Rattle.tree_io.proofs.entries.read_entry.Goals as goal

pub returns-in-Ok-clause-read : goal.returns-in-Ok-clause-read
returns-in-Ok-clause-read g c =
    let scans = g.T.Tree.scans c.args.tree.now in
    let before = g.T.Tree.read_faults c.args.tree.now in
    IsReadSoFar-read scans _ _ before before _ c.args.path.now c.in-Ok.entry
    (IsReadSoFar-none scans before)
    c.in-Ok.ensures.cause.kept c.requires c.in-Ok.ensures.readable c.in-Ok.ensures.told

pub returns-in-Err-Failed-clause-read : goal.returns-in-Err-Failed-clause-read
returns-in-Err-Failed-clause-read g c =
    let scans = g.T.Tree.scans c.args.tree.now in
    let before = g.T.Tree.read_faults c.args.tree.now in
    IsReadSoFar-failed scans _ _ before before _ c.args.path.now (IsReadSoFar-none scans before)
    (c.in-Err-Failed.ensures.cause.failed (cc))
