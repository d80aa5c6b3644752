use Rattle.std.proofs.Common.{◌∙◌, sym}
use Rattle.type_parser.proofs.WordMatching.{matched-take}
use Rattle.type_parser.proofs.Cuts.{last-split}
use Rattle.type_parser.proofs.words.Words.split_last.Goals as goal

pub invariant_of-result : goal.invariant_of-result
invariant_of-result c = matched-take _ c.self.inside.items.now c.self.invariant

pub returns-in-len1-up : goal.returns-in-len1-up
returns-in-len1-up c = sym c.self.view_is
    ∙ last-split c.self.inside.items.now _ c.in-len1-up.len_at_least
