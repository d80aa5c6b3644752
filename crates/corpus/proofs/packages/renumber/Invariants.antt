use Rattle.std.proofs.Common.{◌≡◌, ◌++◌, map, take, drop}
use Rattle.std.specs.Prelude.{slice_index}
use Rattle.corpus.specs.Steps.{number_of}
use Rattle.corpus.proofs.packages.renumber.Given as goal

abbrev pub invariant-loop-place : goal.invariant-loop-place
invariant-loop-place l =
    l.places ≡ map (slice_index (map number_of l.files)) (take l.place-index l.fn.places) ++ drop
    l.place-index l.fn.places
