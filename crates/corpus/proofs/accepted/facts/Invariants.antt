use Rattle.std.proofs.Common.{◌≡◌, map, take}
use Rattle.corpus.specs.Corpora.{fact_of}
use Rattle.corpus.specs.Steps.{seen}
use Rattle.corpus.proofs.accepted.facts.Given as goal

abbrev pub invariant-loop-file : goal.invariant-loop-file
invariant-loop-file l = l.facts.items ≡ map (λ file. fact_of (seen file))
    (take l.file-index l.files)
