use Rattle.std.proofs.Common.{ℕ, List, refl}
use Rattle.std.proofs.lemmas.List.Elements.{All-map}
use Rattle.tree_io.specs.declared.tree.Entry.{Entry}
use Rattle.tree_io.specs.Path.{Belongs}
use Rattle.tests_corpus.proofs.whole.are_sources.Goals as goal

pub returns-then-all_belong : goal.returns-then-all_belong
returns-then-all_belong c = λ rise. record {
  belong = All-map Belongs (λ (e : List ℕ × Entry). e.0) c.args.entries.now
      (c.if-all_belong.ensures.0 refl);
  rising = c.all_rise.ensures rise;
}
