use Rattle.std.proofs.Common.{◌≡◌, ◌+◌, ◌++◌, drop}
use Rattle.go_ast.specs.Marks.{words_from}
use Rattle.type_parser.proofs.mark.words_from.Given as goal

abbrev pub invariant-loop-token : goal.invariant-loop-token
invariant-loop-token l = record {
  place : l.place ≡ l.first + l.token-index;
  so_far : l.words.items ++ words_from l.source l.place (drop l.token-index l.tokens)
      ≡ words_from l.source l.first l.tokens;
}
