use Rattle.std.proofs.Common.{◌∙◌}
use Rattle.std.proofs.lemmas.List.Sorted.{searched}
use Rattle.std.proofs.lemmas.Map.Keys.{non_decreasing_from_sorted}
use Rattle.corpus.proofs.Beside.{search_told}
use Rattle.corpus.proofs.faulty.is_among.Goals as goal

pub returns : goal.returns
returns c =
    let numbers = c.args.numbers.now in
    c.is_ok.ensures.value
    ∙ search_told numbers c.args.number c.binary_search.result
    (searched numbers c.args.number c.binary_search.result c.binary_search.ensures.position
    (λ i j le below. non_decreasing_from_sorted numbers c.requires i j 0 le below))
