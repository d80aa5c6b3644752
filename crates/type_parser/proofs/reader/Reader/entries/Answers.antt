use Rattle.std.proofs.Common.{◌≡◌, ◌∙◌, sym, ap, subst, option_map, suc, [], ◌∷◌}
use Rattle.std.proofs.Common.{Some, reverse, length, drop, ◌-◌, ◌<◌, arith}
use Rattle.std.proofs.lemmas.Bool.Decides.{nat_tests}
use Rattle.type_parser.specs.Reading.{type_of}
use Rattle.type_parser.specs.Entries.{from_last, last_entry, entry_before}
use Rattle.type_parser.proofs.EntryLists.{last-none, entry-adds, entry-stops}
use Rattle.type_parser.proofs.reader.Reader.entries.Goals as goal

pub returns-in-None : goal.returns-in-None
returns-in-None g c =
    let some : 0 < length c.args.entries.now = grind (arith, nat_tests, c.if-is_empty.ensures) in
    let f = type_of c.args.self.now.levels in
    sym (last-none f c.args.named c.args.dots c.args.entries.now c.index-entries-at.result some
    (ap (λ e. last_entry f c.args.named c.args.dots e) (sym c.index-entries-at.is)
    ∙ sym c.in_ok-last_entry.ensures ∙ ap (option_map (λ p. p ∷ [])) c.in-None.is))

pub returns-in-None-2 : goal.returns-in-None-2
returns-in-None-2 g c =
    let f = type_of c.args.self.now.levels in
    let was = c.loop-at.invariant in
    let next : c.loop-at.at ≡ suc (c.loop-at.at - 1) = omega arith in
    let so_far =
    subst (λ n. from_last f c.args.named c.args.dots (drop n c.args.entries.now)
    ≡ Some (reverse c.loop-at.found.items)) next was.so_far in
    sym (entry-stops f c.args.named c.args.dots c.args.entries.now (c.loop-at.at - 1)
    c.index-entries-at-in-loop-at.result _ _ (omega (arith, was.within)) so_far
    (c.in_ok-add_entry.ensures.value
    ∙ ap (λ e. entry_before f c.args.named e (reverse c.loop-at.found.items))
    c.index-entries-at-in-loop-at.is)
    (ap (option_map (λ v. reverse v.items)) c.in-None-2.is))

pub loop-at-preserved : goal.loop-at-preserved
loop-at-preserved g c =
    let f = type_of c.args.self.now.levels in
    let was = c.loop-at.invariant in
    let next : c.loop-at.at ≡ suc (c.loop-at.at - 1) = omega arith in
    let so_far =
    subst (λ n. from_last f c.args.named c.args.dots (drop n c.args.entries.now)
    ≡ Some (reverse c.loop-at.found.items)) next was.so_far in
    record {
      within = omega (arith, was.within);
      some = rw c.in-Some-2.is at c.in_ok-add_entry.ensures.more;
      so_far = entry-adds f c.args.named c.args.dots c.args.entries.now (c.loop-at.at - 1)
          c.index-entries-at-in-loop-at.result _ _ (omega (arith, was.within)) so_far
          (c.in_ok-add_entry.ensures.value
          ∙ ap (λ e. entry_before f c.args.named e (reverse c.loop-at.found.items))
          c.index-entries-at-in-loop-at.is)
          ∙ ap (option_map (λ v. reverse v.items)) c.in-Some-2.is;
    }
