use Rattle.tree_io.proofs.walk.visit.Goals as goal

pub returns-clause-skipped : goal.returns-clause-skipped
returns-clause-skipped g c =
    rw c.in_ok-entry.was (rw c.file_name.ensures at c.visit_named.ensures.skipped)
