use Rattle.std.proofs.Common.{Result, IfOk, OnOk, map, sym, subst}
use Rattle.std.specs.declared.result.Result.TheVariants.{Ok, Err}
use Rattle.ident_index.specs.Postings.{IsTableOf, named_of_all, source_and_hits}
use Rattle.ident_index.proofs.Layouts.{table_of}
use Rattle.ident_index.proofs.postings.Postings.build.Goals as goal

both : {T E P : Type 0} (r : Result T E) (Q R : T → Type 0) → (P → (x : T) → Q x → R x) → OnOk r P
    → IfOk r Q → IfOk r R
both (Ok x) Q R follows p q = follows p x q
both (Err d) Q R follows p q = tt

pub returns : goal.returns
returns c =
    let named = named_of_all (map source_and_hits c.args.files.now) in
    let groups = c.in_ok-groups.groups in
    both c.lay_out.result _ _ (λ ordered postings is. subst (IsTableOf named) (sym is)
    (table_of groups ordered named c.in_ok-groups.ensures))
    c.lay_out.ensures.ordered c.lay_out.ensures.laid
