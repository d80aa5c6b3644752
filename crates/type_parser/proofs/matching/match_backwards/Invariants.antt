use Rattle.std.proofs.Common.{◌≡◌, ◌+◌, drop, reverse, length}
use Rattle.type_parser.specs.Matching.{plain, AreMatched, unmatched}
use Rattle.type_parser.proofs.matching.match_backwards.Given as goal

-- the words from here on have been matched
abbrev pub invariant-loop-at : goal.invariant-loop-at
invariant-loop-at l = record {
  count : length l.found.items + l.at ≡ length l.words;
  words : plain (reverse l.found.items) ≡ drop l.at l.words;
  matched : AreMatched (reverse l.found.items);
  closings : reverse l.closings.items ≡ unmatched (drop l.at l.words);
}

abbrev pub decreases-loop-at : goal.decreases-loop-at
decreases-loop-at l = l.at
