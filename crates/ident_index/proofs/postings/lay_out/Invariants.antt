use Rattle.std.proofs.Common.{◌≡◌, ◌++◌, length, map}
use Rattle.std.specs.List.{sum_by}
use Rattle.ident_index.specs.Tables.{posting_of}
use Rattle.ident_index.proofs.postings.lay_out.Given as goal

abbrev pub invariant-loop-name : goal.invariant-loop-name
invariant-loop-name l = record {
  left : l.entries.items ++ map posting_of l.name-iterator ≡ map posting_of l.fn.groups.entries;
  whole : l.total ≡ sum_by (λ p. length p.hits) l.entries.items;
}
