use Rattle.std.proofs.Common.{◌≡◌, ◌∙◌, sym, ap, subst, suc, [], ◌∷◌}
use Rattle.std.proofs.Common.{Some, reverse, length, drop, slice_get, ◌-◌, arith}
use Rattle.std.proofs.lemmas.List.{reverse-append}
use Rattle.type_parser.specs.Reading.{type_of}
use Rattle.type_parser.specs.TypeParams.{entries, entry}
use Rattle.type_parser.proofs.TypeParamLists.{entry-adds, entry-stops, last-first}
use Rattle.type_parser.proofs.reader.Reader.type_params_of.Goals as goal

pub returns-in-None : goal.returns-in-None
returns-in-None g c =
    let f = type_of c.args.self.now.levels in
    let was = c.loop-at.invariant in
    let found = c.loop-at.found.items in
    let next : c.loop-at.at ≡ suc (c.loop-at.at - 1) = omega arith in
    let so_far = subst (λ n. entries f (drop n c.args.entries.now) ≡ Some (reverse found)) next
    was.so_far in
    let first = c.last.ensures.value
    ∙ ap (λ us. slice_get us (length us - 1)) c.deref.ensures.value ∙ last-first found in
    sym (entry-stops f c.args.entries.now (c.loop-at.at - 1) c.index-entries-at.result
    (reverse found) (omega (arith, was.within)) so_far
    (ap (λ e. entry f e (slice_get (reverse found) 0)) (sym c.index-entries-at.is)
    ∙ ap (entry f c.index-entries-at.result) (sym first)
    ∙ sym c.in_ok-type_param.ensures ∙ c.in-None.is))

pub loop-at-preserved : goal.loop-at-preserved
loop-at-preserved g c =
    let f = type_of c.args.self.now.levels in
    let was = c.loop-at.invariant in
    let found = c.loop-at.found.items in
    let next : c.loop-at.at ≡ suc (c.loop-at.at - 1) = omega arith in
    let so_far = subst (λ n. entries f (drop n c.args.entries.now) ≡ Some (reverse found)) next
    was.so_far in
    let first = c.last.ensures.value
    ∙ ap (λ us. slice_get us (length us - 1)) c.deref.ensures.value ∙ last-first found in
    record {
      within = omega (arith, was.within);
      so_far = entry-adds f c.args.entries.now (c.loop-at.at - 1) c.index-entries-at.result
          (reverse found) (omega (arith, was.within)) so_far c.in-Some.param
          (ap (λ e. entry f e (slice_get (reverse found) 0)) (sym c.index-entries-at.is)
          ∙ ap (entry f c.index-entries-at.result) (sym first)
          ∙ sym c.in_ok-type_param.ensures ∙ c.in-Some.is)
          ∙ ap Some (sym (ap reverse c.in_ok-push-in-Some.ensures.items
          ∙ reverse-append found (c.in-Some.param ∷ [])));
    }
