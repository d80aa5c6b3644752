use Rattle.std.proofs.Common.{rules, ◌≡◌, ◌++◌, [], AllPairs, append-nil, map, sym, ap, subst, ◌∙◌}
use Rattle.std.proofs.lemmas.Map.Iter.{rest_all}
use Rattle.ident_index.specs.Postings.{IsNameBelow}
use Rattle.ident_index.specs.Tables.{posting_of}
use Rattle.ident_index.proofs.Layouts.{postings_rise}
use Rattle.ident_index.proofs.postings.lay_out.Goals as goal

pub invariant_of-result : goal.invariant_of-result
invariant_of-result c =
    let entries = c.loop-name.entries.items in
    let none : c.loop-name.name-iterator ≡ [] = search (rules, rest_all) in
    let done : entries ≡ map posting_of c.args.groups.entries =
    sym (append-nil entries) ∙ ap (λ left. entries ++ map posting_of left) (sym none)
    ∙ c.loop-name.invariant.left in
    record {
      rising = subst (AllPairs IsNameBelow) (sym done)
          (postings_rise c.args.groups c.len.ensures.ordered);
      whole = c.loop-name.invariant.whole;
    }
