use Rattle.std.proofs.Common.{◌≡◌, ◌∙◌, sym, subst}
use Rattle.std.proofs.lemmas.List.Elements.{All-drop, All-take}
use Rattle.go_parser.specs.ChunkFacts.{IsChunk}
use Rattle.go_parser.specs.Parsing.{IsDeclared, words_in}
use Rattle.go_parser.proofs.FileChunks.{all-declared, first-lacks, one-bad, others}
use Rattle.go_parser.proofs.parse.file_of.Goals as goal

pub returns-in_default-clause_in : goal.returns-in_default-clause_in
returns-in_default-clause_in c =
    first-lacks c.args.source.now c.args.tokens.now c.args.chunks.now _ c.in-len1-up.len_at_least
    (sym c.clause_in.ensures ∙ c.in_default-clause_in.is)

pub declarations-requires-clause-chunks : goal.declarations-requires-clause-chunks
declarations-requires-clause-chunks c =
    All-take (IsChunk c.args.source.now c.args.tokens.now) _ _
    (All-drop (IsChunk c.args.source.now c.args.tokens.now) 1 _ c.requires.chunks)

pub returns-in-All : goal.returns-in-All
returns-in-All c =
    all-declared c.args.source.now c.args.tokens.now c.args.chunks.now _ c.in-Some.package
    c.in-All.decls c.in-len1-up.len_at_least (sym c.clause_in.ensures ∙ c.in-Some.is)
    (subst (IsDeclared (words_in c.args.source.now c.args.tokens.now (others c.args.chunks.now)))
    c.in-All.is c.in_ok-decls.ensures)

pub returns-in-Bad : goal.returns-in-Bad
returns-in-Bad c =
    one-bad c.args.source.now c.args.tokens.now c.args.chunks.now _ c.in-Some.package c.in-Bad.at
    c.in-len1-up.len_at_least (sym c.clause_in.ensures ∙ c.in-Some.is)
    (subst (IsDeclared (words_in c.args.source.now c.args.tokens.now (others c.args.chunks.now)))
    c.in-Bad.is c.in_ok-decls.ensures)
