use Rattle.std.proofs.Common.{◌≡◌, length}
use Rattle.comment_blocks.specs.Texts.{word_then_colon}
use Rattle.comment_blocks.proofs.text.word_then_colon.Given as goal

-- the rest says the same
abbrev pub invariant-loop-rest : goal.invariant-loop-rest
invariant-loop-rest l = word_then_colon l.rest ≡ word_then_colon l.text

abbrev pub decreases-loop-rest : goal.decreases-loop-rest
decreases-loop-rest l = length l.rest
