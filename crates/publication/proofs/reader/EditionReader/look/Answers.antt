-- What a look shows, and what stays.
use Rattle.std.proofs.Common.{◌≡◌, ◌⊎◌, ◌++◌, ◌∷◌, [], subst, length, true}
use Rattle.left_right.specs.Sides.{view as sight}
use Rattle.publication.specs.View.{OnlySees, StartsWith}
use Rattle.publication.specs.Chronicle.{editions_of}
use Rattle.publication.specs.Readers.{SeesMore, SeesNothing, view_by}
use Rattle.publication.proofs.Reading.{only_sees, only_sees-stayed, stayed, looked, informed, last, gains_look, ok_of, if_of, err_of}
use Rattle.publication.proofs.reader.EditionReader.look.Goals as goal

pub invariant_of-self : goal.invariant_of-self
invariant_of-self g c =
    let before = sight c.self.inside.reader.place in
    let after = sight c.look_informed-all.new.reader.place in
    let all = c.look_informed-all.result.0 in
    let step = err_of c.look_informed-all.result.1 _ _ c.in_err-sighting.was
    c.look_informed-all.ensures.err in
    stayed before after c.self.inside.seen c.self.inside.count c.self.inside.knowledge all
    c.self.invariant step.entries step.looks
    (subst (λ token. SeesNothing before after token all ⊎ SeesMore before after token all)
    c.again-known.ensures step.sees)

pub returns-in_err-sighting-clause-only_sees : goal.returns-in_err-sighting-clause-only_sees
returns-in_err-sighting-clause-only_sees g c =
    let after = sight c.look_informed-all.new.reader.place in
    let all = c.look_informed-all.result.0 in
    subst (λ view. OnlySees view (view_by after c.self.inside.seen
    (record c.self.inside.knowledge { all = all }))) c.self.view_is
    (only_sees-stayed (sight c.self.inside.reader.place) after c.self.inside.seen
    c.self.inside.count c.self.inside.knowledge all (invariant_of-self g c))

pub invariant_of-self-2 : goal.invariant_of-self-2
invariant_of-self-2 g c =
    let before = sight c.self.inside.reader.place in
    let after = sight c.look_informed-all.new.reader.place in
    let all = c.look_informed-all.result.0 in
    let s = if_of c.look_informed-all.result.1 c.in_ok-sighting.sighting _ c.in_ok-sighting.was
    c.look_informed-all.ensures.ok in
    let more = subst (λ token. SeesMore before after token all) c.again-known.ensures s.sees in
    looked before after c.self.inside.seen c.self.inside.count c.self.inside.knowledge all
    c.in_ok-sighting.sighting.seen c.in_ok-sighting.sighting.count c.self.invariant more s.seen
    s.entries s.look

pub returns-clause-look : goal.returns-clause-look
returns-clause-look g c =
    let before = sight c.self.inside.reader.place in
    let after = sight c.look_informed-all.new.reader.place in
    let all = c.look_informed-all.result.0 in
    let s = if_of c.look_informed-all.result.1 c.in_ok-sighting.sighting _ c.in_ok-sighting.was
    c.look_informed-all.ensures.ok in
    let more = subst (λ token. SeesMore before after token all) c.again-known.ensures s.sees in
    subst (λ view. after.looks ≡ view.looks ++ length
    (editions_of c.in_ok-sighting.sighting.seen.log) ∷ []) c.self.view_is
    (gains_look before after c.self.inside.seen c.self.inside.count c.self.inside.knowledge all
    c.in_ok-sighting.sighting.seen c.in_ok-sighting.sighting.count c.self.invariant more s.seen
    s.look)

pub returns-clause-informed : goal.returns-clause-informed
returns-clause-informed g c =
    let before = sight c.self.inside.reader.place in
    let after = sight c.look_informed-all.new.reader.place in
    let all = c.look_informed-all.result.0 in
    let s = if_of c.look_informed-all.result.1 c.in_ok-sighting.sighting _ c.in_ok-sighting.was
    c.look_informed-all.ensures.ok in
    let late = ok_of c.look_informed-all.result.1 c.in_ok-sighting.sighting _ c.in_ok-sighting.was
    c.look_informed-all.ensures.late in
    let more = subst (λ token. SeesMore before after token all) c.again-known.ensures s.sees in
    subst (λ view. StartsWith (editions_of c.in_ok-sighting.sighting.seen.log) view.told)
    c.self.view_is
    (informed before after c.self.inside.seen c.self.inside.count c.self.inside.knowledge all
    c.in_ok-sighting.sighting.seen c.in_ok-sighting.sighting.count c.self.invariant more s.seen
    late)

pub returns-clause-last : goal.returns-clause-last
returns-clause-last g c =
    let before = sight c.self.inside.reader.place in
    let after = sight c.look_informed-all.new.reader.place in
    let all = c.look_informed-all.result.0 in
    let s = if_of c.look_informed-all.result.1 c.in_ok-sighting.sighting _ c.in_ok-sighting.was
    c.look_informed-all.ensures.ok in
    let late = ok_of c.look_informed-all.result.1 c.in_ok-sighting.sighting _ c.in_ok-sighting.was
    c.look_informed-all.ensures.late in
    let more = subst (λ token. SeesMore before after token all) c.again-known.ensures s.sees in
    subst (λ view. view.closed ≡ true → editions_of c.in_ok-sighting.sighting.seen.log ≡ view.told)
    c.self.view_is
    (last before after c.self.inside.seen c.self.inside.count c.self.inside.knowledge all
    c.in_ok-sighting.sighting.seen c.in_ok-sighting.sighting.count c.self.invariant more s.seen
    late)

pub returns-clause-only_sees : goal.returns-clause-only_sees
returns-clause-only_sees g c =
    let before = sight c.self.inside.reader.place in
    let after = sight c.look_informed-all.new.reader.place in
    let all = c.look_informed-all.result.0 in
    let s = if_of c.look_informed-all.result.1 c.in_ok-sighting.sighting _ c.in_ok-sighting.was
    c.look_informed-all.ensures.ok in
    let more = subst (λ token. SeesMore before after token all) c.again-known.ensures s.sees in
    subst (λ view. OnlySees view (view_by after c.in_ok-sighting.sighting.seen
    (record c.self.inside.knowledge { all = all }))) c.self.view_is
    (only_sees before after c.self.inside.seen c.self.inside.count c.self.inside.knowledge all
    c.in_ok-sighting.sighting.seen c.in_ok-sighting.sighting.count c.self.invariant more s.seen
    (invariant_of-self-2 g c))
