use Rattle.std.proofs.Common.{◌≡◌, ◌+◌, ◌<◌, ◌≤◌, ◌^◌, arith}
use Rattle.go_parser.proofs.FileFaults.{bad-fault, bad-place, chunk-count}
use Rattle.go_parser.proofs.parse.bad_declaration.Goals as goal

pub overflow_cast-result : goal.overflow_cast-result
overflow_cast-result c =
    let place = bad-place c.args.source.now c.args.tokens.now c.args.chunks.now c.args.at
    c.requires.bad in
    let count = chunk-count c.args.source.now c.args.tokens.now c.args.chunks.now c.requires.chunks
    in
    omega (arith, place, count, c.requires.few)

pub overflow_add-result : goal.overflow_add-result
overflow_add-result c =
    let place = bad-place c.args.source.now c.args.tokens.now c.args.chunks.now c.args.at
    c.requires.bad in
    let count = chunk-count c.args.source.now c.args.tokens.now c.args.chunks.now c.requires.chunks
    in
    omega (arith, place, count, c.requires.few)

pub returns : goal.returns
returns c =
    bad-fault c.args.source.now c.args.tokens.now c.args.chunks.now c.args.at c.line_of.result _ _
    c.requires.chunks c.requires.bad c.line_of.ensures
