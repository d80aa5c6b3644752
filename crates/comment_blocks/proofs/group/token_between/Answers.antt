use Rattle.std.proofs.Common.{◌≡◌, ltb, leb, sym, ◌∙◌, ap, subst, rules, true, false}
use Rattle.std.specs.Prelude.{◌&&◌}
use Rattle.std.specs.List.Sorted.{IsNonDecreasingBy, IsPartitionPoint}
use Rattle.std.proofs.lemmas.List.Sorted.{IsPartitionPoint-from_clause, IsPartitionedBy-ltb}
use Rattle.std.proofs.lemmas.Bool.{le-leb, lt-leb}
use Rattle.go_ast.specs.declared.token.Token.{Token}
use Rattle.comment_blocks.proofs.Halves.{at_place, between_found}
use Rattle.comment_blocks.proofs.group.token_between.Goals as goal

pub returns-in-None : goal.returns-in-None
returns-in-None c =
    let same = c.as_slice-tokens.ensures in
    let starts = subst (λ ts. IsNonDecreasingBy (λ (t : Token). t.span.start) ts) (sym same)
    c.requires.token_starts in
    let point = IsPartitionPoint-from_clause (λ (t : Token). ltb t.span.start c.args.from) _ _
    c.partition_point-place.ensures.partitioned
    (IsPartitionedBy-ltb (λ (t : Token). t.span.start) _ c.args.from starts)
    (λ a r q k. search rules) in
    let there = subst (λ ts. IsPartitionPoint (λ (t : Token). ltb t.span.start c.args.from ≡ true)
    (λ (t : Token). ltb t.span.start c.args.from ≡ false) ts c.partition_point-place.result)
    same point in
    ap (at_place (λ (t : Token). leb c.args.from t.span.start && leb t.span.end c.args.to))
    c.in-None.ensures
    ∙ sym (between_found c.args.scanned.now c.args.from c.args.to c.partition_point-place.result
    c.requires there)

pub returns-then-from-token : goal.returns-then-from-token
returns-then-from-token c =
    let same = c.as_slice-tokens.ensures in
    let starts = subst (λ ts. IsNonDecreasingBy (λ (t : Token). t.span.start) ts) (sym same)
    c.requires.token_starts in
    let point = IsPartitionPoint-from_clause (λ (t : Token). ltb t.span.start c.args.from) _ _
    c.partition_point-place.ensures.partitioned
    (IsPartitionedBy-ltb (λ (t : Token). t.span.start) _ c.args.from starts)
    (λ a r q k. search rules) in
    let there = subst (λ ts. IsPartitionPoint (λ (t : Token). ltb t.span.start c.args.from ≡ true)
    (λ (t : Token). ltb t.span.start c.args.from ≡ false) ts c.partition_point-place.result)
    same point in
    ap (λ b. b && leb c.in-Some.token.now.span.end c.args.to)
    (sym (le-leb _ _ c.if-from-token.true))
    ∙ ap (at_place (λ (t : Token). leb c.args.from t.span.start && leb t.span.end c.args.to))
    c.in-Some.ensures
    ∙ sym (between_found c.args.scanned.now c.args.from c.args.to c.partition_point-place.result
    c.requires there)

pub returns-else-from-token : goal.returns-else-from-token
returns-else-from-token c =
    let same = c.as_slice-tokens.ensures in
    let starts = subst (λ ts. IsNonDecreasingBy (λ (t : Token). t.span.start) ts) (sym same)
    c.requires.token_starts in
    let point = IsPartitionPoint-from_clause (λ (t : Token). ltb t.span.start c.args.from) _ _
    c.partition_point-place.ensures.partitioned
    (IsPartitionedBy-ltb (λ (t : Token). t.span.start) _ c.args.from starts)
    (λ a r q k. search rules) in
    let there = subst (λ ts. IsPartitionPoint (λ (t : Token). ltb t.span.start c.args.from ≡ true)
    (λ (t : Token). ltb t.span.start c.args.from ≡ false) ts c.partition_point-place.result)
    same point in
    lt-leb _ _ c.if-from-token.false
    ∙ ap (λ b. b && leb c.in-Some.token.now.span.end c.args.to)
    (sym (lt-leb _ _ c.if-from-token.false))
    ∙ ap (at_place (λ (t : Token). leb c.args.from t.span.start && leb t.span.end c.args.to))
    c.in-Some.ensures
    ∙ sym (between_found c.args.scanned.now c.args.from c.args.to c.partition_point-place.result
    c.requires there)
