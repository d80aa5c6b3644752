use Rattle.std.proofs.Common.{◌≡◌, ◌∙◌, ap, sym, ◌≤◌, ◌-◌, arith}
use Rattle.std.proofs.lemmas.Bool.Decides.{nat_tests}
use Rattle.go_parser.specs.Parsing.{read_clause}
use Rattle.go_parser.proofs.Clauses.{other-size, two-words}
use Rattle.go_parser.proofs.clause.clause_in.Goals as goal

pub returns-then-range-ne2 : goal.returns-then-range-ne2
returns-then-range-ne2 c =
    sym (other-size c.args.source.now c.args.tokens.now c.args.chunk.now.tokens.first
    c.args.chunk.now.tokens.after (omega (arith, c.requires.chunk.some)) c.requires.chunk.within
    c.if-range-ne2.true)

pub returns : goal.returns
returns c =
    c.clause_of.ensures
    ∙ ap (read_clause c.args.source.now)
    (sym (two-words c.args.source.now c.args.tokens.now c.args.chunk.now.tokens.first
    c.args.chunk.now.tokens.after c.word_at-word.result c.word_at-name.result
    (omega (arith, c.requires.chunk.some)) c.requires.chunk.within c.if-range-ne2.false
    c.word_at-word.ensures c.word_at-name.ensures))
