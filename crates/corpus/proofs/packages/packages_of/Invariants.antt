use Rattle.std.proofs.Common.{◌≡◌, ◌++◌, map}
use Rattle.std.specs.Vec.Iter.{into_iter_items}
use Rattle.corpus.specs.Corpora.{renumbered}
use Rattle.corpus.specs.Steps.{number_of}
use Rattle.corpus.proofs.packages.packages_of.Given as goal

abbrev pub invariant-loop-package : goal.invariant-loop-package
invariant-loop-package l = record {
  all : l.yielded ++ into_iter_items l.package-iterator ≡ l.fn.grouped;
  made : l.packages.items ≡ map (renumbered (map number_of l.files)) l.yielded;
}
