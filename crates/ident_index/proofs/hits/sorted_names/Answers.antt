use Rattle.std.proofs.Common.{◌∙◌, ap, rules}
use Rattle.std.proofs.lemmas.List.Sorted.{IsNonDecreasingBy-from_sort_by_key, answers_always}
use Rattle.ident_index.specs.Hits.{kind_at}
use Rattle.ident_index.specs.Naming.{Name}
use Rattle.ident_index.proofs.KindLemmas.{kind_sorted}
use Rattle.ident_index.proofs.hits.sorted_names.Goals as goal

pub returns-clause-rising : goal.returns-clause-rising
returns-clause-rising c =
    IsNonDecreasingBy-from_sort_by_key (λ (n : Name). n.0) _ c.in_ok-sort_by_key.ensures.sorted
    (λ a r q k. search rules)

pub returns-clause-same : goal.returns-clause-same
returns-clause-same c = λ offset.
    kind_sorted _ _ offset (c.sort_by_key.ensures.stable (λ (n : Name). n.0)
    (answers_always _ _ _ (λ f a r g h. search rules)))
    ∙ ap (λ ns. kind_at ns offset) c.in_ok-names.ensures
