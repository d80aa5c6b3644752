use Rattle.std.proofs.Common.{◌∙◌, ap, sym, ◌==◌}
use Rattle.type_parser.proofs.WordMatching.{plain-length}
use Rattle.type_parser.proofs.words.Words.is_empty.Goals as goal

pub returns : goal.returns
returns c = rw (← c.self.view_is) (c.is_empty.ensures
    ∙ ap (λ n. n == 0) (sym (plain-length c.self.inside.items.now)))
