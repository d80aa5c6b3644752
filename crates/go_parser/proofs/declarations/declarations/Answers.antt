use Rattle.std.proofs.Common.{◌≡◌, ◌∙◌, ap, sym, subst, refl, ◌+◌, take, arith}
use Rattle.std.specs.List.{list_any}
use Rattle.go_ast.specs.Files.{AreDecls}
use Rattle.go_parser.specs.Parsing.{words_in}
use Rattle.go_parser.proofs.DeclLists.{all-taken, is_other, others-add, place-adds, place-stops}
use Rattle.go_parser.proofs.declarations.declarations.Goals as goal

pub loop-at-init : goal.loop-at-init
loop-at-init c = rw c.new-found.ensures ((tt, refl), refl)

pub returns-in_default : goal.returns-in_default
returns-in_default c =
    place-stops c.args.source.now c.args.tokens.now c.args.chunks.now c.loop-at.at _ c.loop-at.found
    c.loop-at.others (omega (arith, c.loop-at-test.true)) c.loop-at.invariant.0
    c.loop-at.invariant.1 c.in_ok-decl.field-0 c.in_ok-decl.ensures c.in_default.is

pub loop-at-preserved : goal.loop-at-preserved
loop-at-preserved c =
    let grown = c.in_ok-push.ensures.ok in
    let all = place-adds c.args.source.now c.args.tokens.now c.args.chunks.now c.loop-at.at _
    c.loop-at.found c.loop-at.others (omega (arith, c.loop-at-test.true)) c.loop-at.invariant.0
    c.loop-at.invariant.1 c.in_ok-decl.field-0 c.in-Some.decl c.in_ok-decl.ensures c.in-Some.is in (
      subst (AreDecls (take (c.loop-at.at + 1)
          (words_in c.args.source.now c.args.tokens.now c.args.chunks.now))) (sym grown) all,
      c.others_after-others.ensures
          ∙ others-add c.loop-at.found c.in-Some.decl c.loop-at.others c.loop-at.invariant.1
          ∙ ap (list_any is_other) (sym grown),
    )

pub returns : goal.returns
returns c =
    subst (λ us. AreDecls us c.loop-at.found)
    (all-taken c.args.source.now c.args.tokens.now c.args.chunks.now c.loop-at.at
    (omega (arith, c.loop-at-test.false)))
    c.loop-at.invariant.0
