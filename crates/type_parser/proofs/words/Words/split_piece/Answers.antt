use Rattle.std.proofs.Common.{◌≡◌, sym, subst, refl, Some, None, [], ◌∷◌, ◌<◌, ◌-◌, take, drop}
use Rattle.std.proofs.Common.{length}
use Rattle.go_ast.specs.Cutting.{pieces, split_once}
use Rattle.type_parser.specs.Matching.{plain, AreMatched}
use Rattle.type_parser.proofs.WordMatching.{matched-take, matched-drop}
use Rattle.type_parser.proofs.Cuts.{split-more, split-all, shorter, matched-rest, once-more}
use Rattle.type_parser.proofs.Cuts.{once-none}
use Rattle.type_parser.proofs.words.Words.split_piece.Goals as goal

pub invariant_of-result-in-len1-up : goal.invariant_of-result-in-len1-up
invariant_of-result-in-len1-up c = subst AreMatched (sym c.split_at.ensures.front)
    (matched-take _ _ c.self.invariant)

pub invariant_of-result-in-len1-up-2 : goal.invariant_of-result-in-len1-up-2
invariant_of-result-in-len1-up-2 c =
    matched-rest _
    (subst AreMatched (sym c.split_at.ensures.back) (matched-drop _ _ c.self.invariant))

pub returns-in-empty-clause-pieces : goal.returns-in-empty-clause-pieces
returns-in-empty-clause-pieces c =
    subst (λ ws. pieces c.args.mark ws ≡ plain c.self.inside.items.now ∷ pieces c.args.mark [])
    c.self.view_is
    (split-all c.args.mark c.self.inside.items.now _ c.before-2.result
    (subst (λ ws. 0 < length ws) (sym c.self.view_is) c.requires)
    c.before-2.ensures.value c.split_at.ensures.back c.in-empty.len_below)

pub returns-in-len1-up-clause-pieces : goal.returns-in-len1-up-clause-pieces
returns-in-len1-up-clause-pieces c =
    subst (λ ws. pieces c.args.mark ws
    ≡ plain c.split_at.result.0.now ∷ pieces c.args.mark
    (plain (take (length c.split_at.result.1.now - 1)
    (drop 1 c.split_at.result.1.now)))) c.self.view_is
    (split-more c.args.mark c.self.inside.items.now _ _ c.before-2.result
    c.before-2.ensures.value c.split_at.ensures.front c.split_at.ensures.back
    c.in-len1-up.len_at_least)

pub returns-in-len1-up-clause-shorter : goal.returns-in-len1-up-clause-shorter
returns-in-len1-up-clause-shorter c =
    subst (λ ws. length
    (plain (take (length c.split_at.result.1.now - 1)
    (drop 1 c.split_at.result.1.now))) < length ws) c.self.view_is
    (shorter c.self.inside.items.now _ _ c.split_at.ensures.back c.in-len1-up.len_at_least)

pub returns-in-empty-clause-exact : goal.returns-in-empty-clause-exact
returns-in-empty-clause-exact c =
    let none = subst (λ ws. split_once c.args.mark ws ≡ None) c.self.view_is
    (once-none c.args.mark c.self.inside.items.now _ c.before-2.result
    c.before-2.ensures.value c.split_at.ensures.back c.in-empty.len_below) in
    rw (none, c.self.view_is) refl

pub returns-in-len1-up-clause-exact : goal.returns-in-len1-up-clause-exact
returns-in-len1-up-clause-exact c =
    let some = subst (λ ws. split_once c.args.mark ws ≡ Some (
      plain c.split_at.result.0.now,
      plain (take (length c.split_at.result.1.now - 1) (drop 1 c.split_at.result.1.now)),
    ))
    c.self.view_is
    (once-more c.args.mark c.self.inside.items.now _ _ c.before-2.result
    c.before-2.ensures.value c.split_at.ensures.front c.split_at.ensures.back
    c.in-len1-up.len_at_least) in
    rw some refl
