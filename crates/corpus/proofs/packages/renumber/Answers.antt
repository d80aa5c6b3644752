use Rattle.std.proofs.Common.{◌≡◌, ◌<◌, ◌∙◌, ap, sym, subst, length, map, get_or, set, ℕ, arith}
use Rattle.std.specs.Prelude.{slice_index}
use Rattle.std.proofs.lemmas.List.{get_or-map, get_or_default}
use Rattle.std.proofs.lemmas.List.Edits.{map_over_more}
use Rattle.corpus.specs.Steps.{number_of}
use Rattle.corpus.proofs.Lists.{unwritten}
use Rattle.corpus.proofs.packages.renumber.Goals as goal

pub loop-place-preserved : goal.loop-place-preserved
loop-place-preserved c =
    let files = c.args.files.now in
    let places = c.args.places.now in
    let i = c.loop-place.place-index in
    let now = c.loop-place.places in
    let place = get_or now i 0 in
    let f = slice_index (map number_of files) in
    let same = unwritten f places now i 0 c.loop-place-test.true c.loop-place.invariant in
    let within : place < length files = subst (λ (n : ℕ). n < length files) (sym same)
    (c.requires i 0 c.loop-place-test.true) in
    let number : (get_or files place c.index-files-place.result).number
    ≡ f place = sym (get_or-map number_of files place c.index-files-place.result 0 within) in
    ap (set now i) number
    ∙ map_over_more f places now i place c.loop-place-test.true c.loop-place.invariant
    (get_or_default now i 0 place (omega arith))
