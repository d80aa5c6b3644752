use Rattle.std.proofs.Common.{◌++◌, [], ◌∷◌, List, map, take, ap, sym, ◌∙◌}
use Rattle.std.specs.List.{enumerate_from}
use Rattle.std.proofs.lemmas.List.{map-append}
use Rattle.package_group.specs.Steps.{Placed, placed_by, placed_of}
use Rattle.package_group.proofs.Lists.{map-numbered_more}
use Rattle.package_group.proofs.grouping.place_files.Goals as goal

pub loop-place-preserved : goal.loop-place-preserved
loop-place-preserved c =
    let here = c.in_ok-place_file.ensures ∙ ap (λ file. placed_by c.args.prefix.now
    (c.loop-place.place, file)) c.index-files-place.is in
    let before : List Placed = map (placed_by c.args.prefix.now)
    (enumerate_from 0 (take c.loop-place.place c.args.files.now)) in
    ap (map placed_of) c.in_ok-push.ensures.items
    ∙ map-append placed_of c.loop-place.placed.items (c.in_ok-place_file.field-0 ∷ [])
    ∙ ap (λ (l : List Placed). l ++ placed_of c.in_ok-place_file.field-0 ∷ [])
    c.loop-place.invariant
    ∙ ap (λ (x : Placed). before ++ x ∷ []) here
    ∙ sym (map-numbered_more (placed_by c.args.prefix.now) c.args.files.now c.loop-place.place
    c.index-files-place.result c.loop-place-test.true)
