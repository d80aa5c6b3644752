use Rattle.std.proofs.Common.{◌≡◌, ◌∙◌, sym, ap, reverse, length, arith}
use Rattle.go_parser.proofs.Steps.{left-open, end-any, empty-is, first-last}
use Rattle.go_parser.proofs.cutter.Cutter.finish.Goals as goal

pub returns-in-len1-up : goal.returns-in-len1-up
returns-in-len1-up c = λ words r.
    left-open words c.args.count _ _ _ _ r _ _
    (ap reverse (sym c.as_slice.ensures.value)
    ∙ first-last c.as_slice.result.now _ c.in-len1-up.len_at_least)

pub returns : goal.returns
returns c = λ words r.
    let same = ap length c.as_slice.ensures.value in
    let none : length c.args.self.brackets.items ≡ 0 =
    omega (arith, same, c.in_default.len_below) in
    end-any words c.args.count _ _ _ _ r c.end_chunk.new.self.chunks.items
    c.in_ok-end_chunk.ensures.some c.in_ok-end_chunk.ensures.none
    (empty-is c.args.self.brackets.items none)
