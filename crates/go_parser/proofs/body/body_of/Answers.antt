use Rattle.std.proofs.Common.{◌≡◌, ◌≤◌, Some, None, subst, arith}
use Rattle.go_parser.specs.ChunkFacts.{IsOpened}
use Rattle.go_parser.proofs.Bodies.{first-opened, nothing-opened}
use Rattle.go_parser.proofs.body.body_of.Goals as goal

pub returns-in_default-clause-body : goal.returns-in_default-clause-body
returns-in_default-clause-body c =
    let here : c.in-Some.place ≤ c.args.chunk.now.tokens.first =
    omega (arith, c.if-chunk-place.false) in
    first-opened c.args.source.now c.args.tokens.now c.args.chunk.now.tokens c.in-Some.place
    (subst (IsOpened c.args.source.now c.args.tokens.now c.args.chunk.now.tokens) c.in-Some.is
    c.requires.chunk.last) here

pub returns-in_default-2-clause-body : goal.returns-in_default-2-clause-body
returns-in_default-2-clause-body c =
    nothing-opened c.args.source.now c.args.tokens.now c.args.chunk.now.tokens
    (subst (IsOpened c.args.source.now c.args.tokens.now c.args.chunk.now.tokens) c.in_default.is
    c.requires.chunk.last)
