use Rattle.std.proofs.Common.{◌≡◌, sym, subst, Some, None, ◌-◌, take, drop, length}
use Rattle.go_ast.specs.Cutting.{split_once}
use Rattle.type_parser.specs.Matching.{plain, AreMatched}
use Rattle.type_parser.proofs.WordMatching.{matched-take, matched-drop}
use Rattle.type_parser.proofs.Cuts.{once-more, once-none, matched-rest}
use Rattle.type_parser.proofs.words.Words.split_once.Goals as goal

pub invariant_of-result : goal.invariant_of-result
invariant_of-result c = subst AreMatched (sym c.split_at.ensures.front)
    (matched-take _ _ c.self.invariant)

pub invariant_of-result-in-len1-up : goal.invariant_of-result-in-len1-up
invariant_of-result-in-len1-up c =
    matched-rest _
    (subst AreMatched (sym c.split_at.ensures.back) (matched-drop _ _ c.self.invariant))

pub returns-in-empty : goal.returns-in-empty
returns-in-empty c =
    sym (subst (λ ws. split_once c.args.separator ws ≡ None) c.self.view_is
    (once-none c.args.separator c.self.inside.items.now _ c.before-2.result
    c.before-2.ensures.value c.split_at.ensures.back c.in-empty.len_below))

pub returns-in-len1-up : goal.returns-in-len1-up
returns-in-len1-up c =
    sym (subst (λ ws. split_once c.args.separator ws ≡ Some (
      plain c.split_at.result.0.now,
      plain (take (length c.split_at.result.1.now - 1) (drop 1 c.split_at.result.1.now)),
    ))
    c.self.view_is
    (once-more c.args.separator c.self.inside.items.now _ _ c.before-2.result
    c.before-2.ensures.value c.split_at.ensures.front c.split_at.ensures.back
    c.in-len1-up.len_at_least))
