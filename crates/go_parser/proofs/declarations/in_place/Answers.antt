use Rattle.std.proofs.Common.{◌≡◌, ◌∙◌, sym}
use Rattle.go_ast.specs.Marks.{words_of}
use Rattle.go_parser.proofs.DeclLists.{late-import}
use Rattle.go_parser.proofs.declarations.in_place.Goals as goal

pub returns-then-is_import : goal.returns-then-is_import
returns-then-is_import c =
    late-import (words_of c.args.source.now c.args.tokens.now c.args.chunk.now.tokens) c.args.others
    c.in_ok-decl_in.field-0 c.in-Some.decl c.in_ok-decl_in.ensures c.in-Some.is c.if-others.true
    (sym c.is_import.ensures ∙ c.if-is_import.true)
