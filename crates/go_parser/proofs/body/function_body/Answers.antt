use Rattle.std.proofs.Common.{◌≡◌, ◌∙◌, sym}
use Rattle.go_ast.specs.declared.word.Mark.TheVariants as m
use Rattle.go_parser.proofs.ChunkDecls.{function-read, other-read}
use Rattle.type_parser.proofs.GrammarLaws.{differ_marks, marks_are}
use Rattle.go_parser.proofs.body.function_body.Goals as goal

pub returns-then-is-clause-read : goal.returns-then-is-clause-read
returns-then-is-clause-read c =
    function-read c.args.source.now c.args.tokens.now c.args.chunk.now.tokens
    c.word_at-first.result c.requires.chunk.some c.requires.chunk.within c.word_at-first.ensures _ _
    (marks_are c.word_at-first.result.mark m.Func (sym c.is.ensures ∙ c.if-is.true))
    c.body_of.ensures.body

pub returns-else-is-clause-read : goal.returns-else-is-clause-read
returns-else-is-clause-read c =
    other-read c.args.source.now c.args.tokens.now c.args.chunk.now.tokens
    c.word_at-first.result c.requires.chunk.some c.requires.chunk.within c.word_at-first.ensures
    (differ_marks c.word_at-first.result.mark m.Func (sym c.is.ensures ∙ c.if-is.false))
