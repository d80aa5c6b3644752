use Rattle.std.proofs.Common.{◌≡◌, ◌++◌, drop}
use Rattle.const_eval.specs.Lengths.{texts_of, spaced, joined}
use Rattle.const_eval.proofs.array_length.joined.Given as goal

abbrev pub invariant-loop-token : goal.invariant-loop-token
invariant-loop-token l = l.bytes.items ++ spaced (texts_of l.source (drop l.token-index l.others)) ≡
    joined (texts_of l.source l.tokens)
