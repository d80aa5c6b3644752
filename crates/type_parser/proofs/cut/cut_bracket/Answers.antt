use Rattle.std.proofs.Common.{◌∙◌, ap, subst, sym, arith}
use Rattle.type_parser.specs.Matching.{plain, AreMatched}
use Rattle.type_parser.proofs.WordMatching.{matched-take, matched-drop}
use Rattle.type_parser.proofs.Cuts.{cut-inner, cut-back, matched-rest, rest-count}
use Rattle.type_parser.proofs.cut.cut_bracket.Goals as goal

pub returns-in-len1-up-clause-inner : goal.returns-in-len1-up-clause-inner
returns-in-len1-up-clause-inner c =
    ap plain c.split_at.ensures.front ∙ cut-inner c.args.items.now _ _ _ c.requires
    c.in-len1-up.len_at_least c.min.ensures (omega (arith, rest-count c.args.items.now))

pub returns-in-len1-up-clause-back : goal.returns-in-len1-up-clause-back
returns-in-len1-up-clause-back c =
    ap plain c.split_at.ensures.back ∙ cut-back c.args.items.now _ _ _ c.requires
    c.in-len1-up.len_at_least c.min.ensures (omega (arith, rest-count c.args.items.now))

pub returns-in-len1-up-clause-inner_matched : goal.returns-in-len1-up-clause-inner_matched
returns-in-len1-up-clause-inner_matched c =
    subst AreMatched (sym c.split_at.ensures.front)
    (matched-take _ _ (matched-rest c.args.items.now c.requires))

pub returns-in-len1-up-clause-back_matched : goal.returns-in-len1-up-clause-back_matched
returns-in-len1-up-clause-back_matched c =
    subst AreMatched (sym c.split_at.ensures.back)
    (matched-drop _ _ (matched-rest c.args.items.now c.requires))
