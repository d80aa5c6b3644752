use Rattle.std.proofs.Common.{◌≡◌, ◌∙◌, ap, subst, IfOk}
use Rattle.go_ast.specs.Marks.{words_of}
use Rattle.go_parser.specs.Reading.{read_words}
use Rattle.go_parser.proofs.ChunkDecls.{decl-answer}
use Rattle.go_parser.proofs.declaration.decl_in.Goals as goal

pub returns : goal.returns
returns c =
    let source = c.args.source.now in
    let tokens = c.args.tokens.now in
    let chunk = c.args.chunk.now.tokens in
    let same = c.all.ensures ∙ c.in_ok-words.ensures
    ∙ ap (words_of source tokens) c.front_of.ensures.value in
    decl-answer source tokens chunk _ c.function_body-body.result c.declared.result
    c.requires.chunk.some c.requires.chunk.within c.function_body-body.ensures.read
    (subst (λ us. IfOk c.declared.result (λ o. o ≡ read_words chunk c.function_body-body.result us))
    same c.declared.ensures)
