use Rattle.std.proofs.Common.{◌≡◌, drop, reverse}
use Rattle.go_ast.specs.Marks.{words_from}
use Rattle.go_parser.specs.Cutter.{Reached}
use Rattle.go_parser.proofs.chunks.chunks_of.Given as goal

-- the tokens before this one were taken
abbrev pub invariant-loop-token : goal.invariant-loop-token
invariant-loop-token l = record {
  place : l.place ≡ l.token-index;
  reached : Reached (words_from l.source 0 l.tokens)
      (words_from l.source l.place (drop l.token-index l.tokens)) l.place l.cutter.chunks.items
      (reverse l.cutter.brackets.items) l.cutter.first l.cutter.opened;
}
