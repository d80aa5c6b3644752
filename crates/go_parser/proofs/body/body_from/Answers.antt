use Rattle.std.proofs.Common.{◌≡◌, ◌∙◌, sym, inl, inr}
use Rattle.go_ast.specs.declared.word.Mark.TheVariants as m
use Rattle.go_parser.proofs.Bodies.{body-is, body-is-not}
use Rattle.type_parser.proofs.GrammarLaws.{differ_marks, marks_are}
use Rattle.go_parser.proofs.body.body_from.Goals as goal
use Rattle.go_parser.proofs.body.body_from.Goals.{then-not-is-via-then-not-is}
use Rattle.go_parser.proofs.body.body_from.Goals.{then-not-is-via-else-not-is+then-takes_braces}

pub returns-then-not-is-clause-body : goal.returns-then-not-is-clause-body
returns-then-not-is-clause-body c =
    body-is-not c.args.source.now c.args.tokens.now c.args.range c.args.place
    c.word_at-before.result c.word_at-opening.result c.requires.within c.requires.later
    c.word_at-before.ensures c.word_at-opening.ensures c.requires.opened
    (elim c.then-not-is.branch [
      | then-not-is-via-then-not-is w ↦ inr (differ_marks c.word_at-opening.result.mark m.OpenBrace
          (sym c.is.ensures ∙ w.if-not-is.true))
      | then-not-is-via-else-not-is+then-takes_braces w ↦
          inl (sym w.takes_braces.ensures ∙ w.if-takes_braces.true)
    ])

pub returns-clause-body : goal.returns-clause-body
returns-clause-body c =
    body-is c.args.source.now c.args.tokens.now c.args.range c.args.place
    c.word_at-before.result c.word_at-opening.result c.requires.within c.requires.later
    c.word_at-before.ensures c.word_at-opening.ensures c.requires.opened
    (marks_are c.word_at-opening.result.mark m.OpenBrace (sym c.is.ensures ∙ c.if-not-is.false))
    (sym c.takes_braces.ensures ∙ c.if-takes_braces.false)
