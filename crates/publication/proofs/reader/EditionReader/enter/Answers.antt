-- What an entry gives, and what stays.
use Rattle.std.proofs.Common.{◌≡◌, ◌⊎◌, ◌++◌, ◌∷◌, [], subst, ◌∙◌, inr, length, true}
use Rattle.std.proofs.lemmas.Result.{IfOk-weaker}
use Rattle.std.specs.Arc.{arc_value}
use Rattle.left_right.specs.Sides.{view as sight}
use Rattle.publication.specs.View.{OnlySees, StartsWith}
use Rattle.publication.specs.Chronicle.{editions_of}
use Rattle.publication.specs.Readers.{SeesMore, SeesNothing, view_by}
use Rattle.publication.proofs.Reading.{only_sees, only_sees-stayed, stayed, entered, informed, last, gains, number_is, newest, ok_of, if_of, err_of, on_ok_always, on_err_always}
use Rattle.publication.proofs.reader.EditionReader.enter.Goals as goal

pub invariant_of-self : goal.invariant_of-self
invariant_of-self g c =
    let before = sight c.self.inside.reader.place in
    let after = sight c.enter_informed-all.new.reader.place in
    let all = c.enter_informed-all.result.0 in
    let step = err_of c.enter_informed-all.result.1 _ _ c.in_err-noted.was
    c.enter_informed-all.ensures.err in
    stayed before after c.self.inside.seen c.self.inside.count c.self.inside.knowledge all
    c.self.invariant step.entries step.looks
    (subst (λ token. SeesNothing before after token all ⊎ SeesMore before after token all)
    c.again-known.ensures step.sees)

pub returns-in_err-noted-clause-only_sees : goal.returns-in_err-noted-clause-only_sees
returns-in_err-noted-clause-only_sees g c =
    let after = sight c.enter_informed-all.new.reader.place in
    let all = c.enter_informed-all.result.0 in
    subst (λ view. OnlySees view (view_by after c.self.inside.seen
    (record c.self.inside.knowledge { all = all }))) c.self.view_is
    (only_sees-stayed (sight c.self.inside.reader.place) after c.self.inside.seen
    c.self.inside.count c.self.inside.knowledge all (invariant_of-self g c))

pub invariant_of-self-2 : goal.invariant_of-self-2
invariant_of-self-2 g c =
    let before = sight c.self.inside.reader.place in
    let after = sight c.enter_informed-all.new.reader.place in
    let all = c.enter_informed-all.result.0 in
    let s = if_of c.enter_informed-all.result.1 c.in_ok-noted.noted _ c.in_ok-noted.was
    c.enter_informed-all.ensures.ok in
    let more = subst (λ token. SeesMore before after token all) c.again-known.ensures s.sees in
    entered before after c.self.inside.seen c.self.inside.count c.self.inside.knowledge all
    c.in_ok-noted.noted.sighting.seen c.in_ok-noted.noted.sighting.count c.self.invariant more
    s.seen s.entry s.looks

pub returns-clause-number : goal.returns-clause-number
returns-clause-number g c =
    let before = sight c.self.inside.reader.place in
    let after = sight c.enter_informed-all.new.reader.place in
    let all = c.enter_informed-all.result.0 in
    let s = if_of c.enter_informed-all.result.1 c.in_ok-noted.noted _ c.in_ok-noted.was
    c.enter_informed-all.ensures.ok in
    let more = subst (λ token. SeesMore before after token all) c.again-known.ensures s.sees in
    IfOk-weaker c.in_ok-noted.noted.entered _ _ (λ x h. h
    ∙ number_is before after c.self.inside.seen c.self.inside.count c.self.inside.knowledge all
    c.in_ok-noted.noted.sighting.seen c.in_ok-noted.noted.sighting.count c.self.invariant more
    s.seen) s.number

pub returns-clause-newest : goal.returns-clause-newest
returns-clause-newest g c =
    let before = sight c.self.inside.reader.place in
    let after = sight c.enter_informed-all.new.reader.place in
    let all = c.enter_informed-all.result.0 in
    let s = if_of c.enter_informed-all.result.1 c.in_ok-noted.noted _ c.in_ok-noted.was
    c.enter_informed-all.ensures.ok in
    let more = subst (λ token. SeesMore before after token all) c.again-known.ensures s.sees in
    IfOk-weaker c.in_ok-noted.noted.entered _ _ (λ x h. newest before after c.self.inside.seen
    c.self.inside.count c.self.inside.knowledge all c.in_ok-noted.noted.sighting.seen
    c.in_ok-noted.noted.sighting.count c.self.invariant more s.seen (arc_value x.edition) h)
    s.edition

pub returns-clause-entry : goal.returns-clause-entry
returns-clause-entry g c =
    let before = sight c.self.inside.reader.place in
    let after = sight c.enter_informed-all.new.reader.place in
    let all = c.enter_informed-all.result.0 in
    let s = if_of c.enter_informed-all.result.1 c.in_ok-noted.noted _ c.in_ok-noted.was
    c.enter_informed-all.ensures.ok in
    let more = subst (λ token. SeesMore before after token all) c.again-known.ensures s.sees in
    on_ok_always c.in_ok-noted.noted.entered _
    (subst (λ view. after.entries ≡ view.entries ++ length
    (editions_of c.in_ok-noted.noted.sighting.seen.log) ∷ []) c.self.view_is
    (gains before after c.self.inside.seen c.self.inside.count c.self.inside.knowledge all
    c.in_ok-noted.noted.sighting.seen c.in_ok-noted.noted.sighting.count c.self.invariant more
    s.seen s.entry))

pub returns-clause-informed : goal.returns-clause-informed
returns-clause-informed g c =
    let before = sight c.self.inside.reader.place in
    let after = sight c.enter_informed-all.new.reader.place in
    let all = c.enter_informed-all.result.0 in
    let s = if_of c.enter_informed-all.result.1 c.in_ok-noted.noted _ c.in_ok-noted.was
    c.enter_informed-all.ensures.ok in
    let late = ok_of c.enter_informed-all.result.1 c.in_ok-noted.noted _ c.in_ok-noted.was
    c.enter_informed-all.ensures.late in
    let more = subst (λ token. SeesMore before after token all) c.again-known.ensures s.sees in
    on_ok_always c.in_ok-noted.noted.entered _
    (subst (λ view. StartsWith (editions_of c.in_ok-noted.noted.sighting.seen.log) view.told)
    c.self.view_is
    (informed before after c.self.inside.seen c.self.inside.count c.self.inside.knowledge all
    c.in_ok-noted.noted.sighting.seen c.in_ok-noted.noted.sighting.count c.self.invariant more
    s.seen late))

pub returns-clause-last : goal.returns-clause-last
returns-clause-last g c =
    let before = sight c.self.inside.reader.place in
    let after = sight c.enter_informed-all.new.reader.place in
    let all = c.enter_informed-all.result.0 in
    let s = if_of c.enter_informed-all.result.1 c.in_ok-noted.noted _ c.in_ok-noted.was
    c.enter_informed-all.ensures.ok in
    let late = ok_of c.enter_informed-all.result.1 c.in_ok-noted.noted _ c.in_ok-noted.was
    c.enter_informed-all.ensures.late in
    let more = subst (λ token. SeesMore before after token all) c.again-known.ensures s.sees in
    on_ok_always c.in_ok-noted.noted.entered _ (subst (λ view. view.closed ≡ true
    → editions_of c.in_ok-noted.noted.sighting.seen.log ≡ view.told) c.self.view_is
    (last before after c.self.inside.seen c.self.inside.count c.self.inside.knowledge all
    c.in_ok-noted.noted.sighting.seen c.in_ok-noted.noted.sighting.count c.self.invariant more
    s.seen late))

pub returns-clause-refused : goal.returns-clause-refused
returns-clause-refused g c =
    let before = sight c.self.inside.reader.place in
    let after = sight c.enter_informed-all.new.reader.place in
    let all = c.enter_informed-all.result.0 in
    let s = if_of c.enter_informed-all.result.1 c.in_ok-noted.noted _ c.in_ok-noted.was
    c.enter_informed-all.ensures.ok in
    let late = ok_of c.enter_informed-all.result.1 c.in_ok-noted.noted _ c.in_ok-noted.was
    c.enter_informed-all.ensures.late in
    let more = subst (λ token. SeesMore before after token all) c.again-known.ensures s.sees in
    on_err_always c.in_ok-noted.noted.entered _
    (inr (subst (λ view. (after.entries ≡ view.entries ++ length
    (editions_of c.in_ok-noted.noted.sighting.seen.log) ∷ []) × StartsWith
    (editions_of c.in_ok-noted.noted.sighting.seen.log) view.told) c.self.view_is (
      gains before after c.self.inside.seen c.self.inside.count c.self.inside.knowledge all
          c.in_ok-noted.noted.sighting.seen c.in_ok-noted.noted.sighting.count c.self.invariant more
          s.seen s.entry,
      informed before after c.self.inside.seen c.self.inside.count
          c.self.inside.knowledge all c.in_ok-noted.noted.sighting.seen
          c.in_ok-noted.noted.sighting.count c.self.invariant more s.seen late,
    )))

pub returns-clause-only_sees : goal.returns-clause-only_sees
returns-clause-only_sees g c =
    let before = sight c.self.inside.reader.place in
    let after = sight c.enter_informed-all.new.reader.place in
    let all = c.enter_informed-all.result.0 in
    let s = if_of c.enter_informed-all.result.1 c.in_ok-noted.noted _ c.in_ok-noted.was
    c.enter_informed-all.ensures.ok in
    let more = subst (λ token. SeesMore before after token all) c.again-known.ensures s.sees in
    subst (λ view. OnlySees view (view_by after c.in_ok-noted.noted.sighting.seen
    (record c.self.inside.knowledge { all = all }))) c.self.view_is
    (only_sees before after c.self.inside.seen c.self.inside.count c.self.inside.knowledge all
    c.in_ok-noted.noted.sighting.seen c.in_ok-noted.noted.sighting.count c.self.invariant more s.seen
    (invariant_of-self-2 g c))
