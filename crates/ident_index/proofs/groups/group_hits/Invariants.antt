use Rattle.std.proofs.Common.{take, map}
use Rattle.ident_index.specs.Postings.{named_of_all, source_and_hits}
use Rattle.ident_index.specs.Tables.{HasGroups}
use Rattle.ident_index.proofs.groups.group_hits.Given as goal

abbrev pub invariant-loop-file : goal.invariant-loop-file
invariant-loop-file l = HasGroups l.groups (named_of_all (map source_and_hits
    (take l.file-index l.files)))
