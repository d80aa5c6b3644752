use Rattle.std.proofs.Common.{◌≡◌, ltb, sym, subst, rules, true, false}
use Rattle.std.specs.List.Sorted.{IsNonDecreasingBy, IsPartitionPoint}
use Rattle.std.proofs.lemmas.List.Sorted.{IsPartitionPoint-from_clause, IsPartitionedBy-ltb}
use Rattle.go_ast.specs.declared.token.Token.{Token}
use Rattle.comment_blocks.specs.Groups.{line_at}
use Rattle.comment_blocks.specs.GroupSteps.{NeverFall}
use Rattle.comment_blocks.proofs.Halves.{line_at_never_falls}
use Rattle.comment_blocks.proofs.group.tokens_before.Goals as goal

pub returns : goal.returns
returns c =
    let lines = c.as_slice-lines.result.now in
    let never : NeverFall lines = subst NeverFall (sym c.as_slice-lines.ensures) c.requires.lines in
    let ends : IsNonDecreasingBy (λ (x : Token). x.span.end) c.as_slice-tokens.result.now =
    subst (λ xs. IsNonDecreasingBy (λ (x : Token). x.span.end) xs) (sym c.as_slice-tokens.ensures)
    c.requires.token_ends in
    let rise : IsNonDecreasingBy (λ (x : Token). line_at lines x.span.end)
    c.as_slice-tokens.result.now =
    λ i j d le lt. line_at_never_falls lines _ _ (ends i j d le lt) in
    let point = IsPartitionPoint-from_clause
    (λ (x : Token). ltb (line_at lines x.span.end) c.args.line) _ _
    c.partition_point.ensures.partitioned
    (IsPartitionedBy-ltb (λ (x : Token). line_at lines x.span.end) _ c.args.line rise)
    (λ a r q k. search rules) in
    subst (λ ls. IsPartitionPoint (λ (x : Token). ltb (line_at ls x.span.end) c.args.line ≡ true)
    (λ (x : Token). ltb (line_at ls x.span.end) c.args.line ≡ false) c.args.scanned.now.tokens
    c.partition_point.result)
    c.as_slice-lines.ensures
    (subst (λ xs. IsPartitionPoint
    (λ (x : Token). ltb (line_at lines x.span.end) c.args.line ≡ true)
    (λ (x : Token). ltb (line_at lines x.span.end) c.args.line ≡ false) xs c.partition_point.result)
    c.as_slice-tokens.ensures point)
