use Rattle.std.proofs.Common.{◌≡◌, ◌<◌, ◌^◌, take}
use Rattle.corpus.specs.Snapshots.{bytes_of}
use Rattle.tests_corpus.proofs.whole.all_bytes.Given as goal

abbrev pub invariant-loop-entry : goal.invariant-loop-entry
invariant-loop-entry l = record {
  sum : l.bytes ≡ bytes_of (take l.entry-index l.entries);
  fits : l.bytes < 2 ^ 64;
}
