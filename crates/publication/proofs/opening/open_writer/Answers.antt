use Rattle.std.proofs.Common.{◌≡◌, [], ◌∷◌, ◌++◌, drop, fold, ap, sym, ◌∙◌}
use Rattle.left_right.specs.Sides.{view as sight}
use Rattle.publication.specs.Slots.{shown}
use Rattle.publication.proofs.Steps.{opens}
use Rattle.publication.proofs.opening.open_writer.Goals as goal

pub publish_as-requires : goal.publish_as-requires
publish_as-requires g c next is =
    let now = c.append.new.self in
    let third = c.in_ok-third.third in
    let desk = ap (λ d. d.shown.value) c.append.ensures.desk in
    let pending : drop now.behind now.log.items ≡ third ∷ [] = c.in-Ok.ensures.pending
    ∙ ap (λ l. l ++ third ∷ []) c.in_ok-writer.ensures.1 in
    let last : shown next ≡ shown third = is ∙ ap (fold (λ x change. shown change)
    (shown now.desk.shown.value)) pending in
    let whole : shown next ≡ shown now.desk.shown.value = last ∙ c.in_ok-third.ensures
    ∙ ap shown (sym (desk ∙ c.in_ok-writer.ensures.0)) in
    opens _ (sight now.desk.place) now.desk.shown.value next whole
