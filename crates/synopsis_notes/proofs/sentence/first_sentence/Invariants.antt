use Rattle.std.proofs.Common.{length}
use Rattle.std.specs.Str.Iter.{chars_rest}
use Rattle.synopsis_notes.specs.Synopses.{first_sentence}
use Rattle.synopsis_notes.proofs.Sentences.{GoesOn}
use Rattle.synopsis_notes.proofs.sentence.first_sentence.Given as goal

-- the sentence so far, with what the characters that are left add
abbrev pub invariant-loop-c : goal.invariant-loop-c
invariant-loop-c l = GoesOn (chars_rest l.characters) l.sentence (first_sentence l.text)

abbrev pub decreases-loop-c : goal.decreases-loop-c
decreases-loop-c l = length (chars_rest l.characters)
