use Rattle.std.proofs.Common.{◌≡◌, ltb, sym, subst, rules, true, false}
use Rattle.std.specs.List.Sorted.{IsNonDecreasingBy, IsPartitionPoint}
use Rattle.std.proofs.lemmas.List.Sorted.{IsPartitionPoint-from_clause, IsPartitionedBy-ltb}
use Rattle.go_ast.specs.declared.token.Comment.{Comment}
use Rattle.comment_blocks.specs.Groups.{line_at}
use Rattle.comment_blocks.specs.GroupSteps.{NeverFall}
use Rattle.comment_blocks.proofs.Halves.{line_at_never_falls}
use Rattle.comment_blocks.proofs.group.comments_before.Goals as goal

pub returns-clause-before : goal.returns-clause-before
returns-clause-before c =
    let lines = c.as_slice-lines.result.now in
    let never : NeverFall lines = subst NeverFall (sym c.as_slice-lines.ensures) c.requires.lines in
    let ends : IsNonDecreasingBy (λ (x : Comment). x.span.end) c.as_slice-comments.result.now =
    subst (λ xs. IsNonDecreasingBy (λ (x : Comment). x.span.end) xs)
    (sym c.as_slice-comments.ensures) c.requires.comment_ends in
    let rise : IsNonDecreasingBy (λ (x : Comment). line_at lines x.span.end)
    c.as_slice-comments.result.now =
    λ i j d le lt. line_at_never_falls lines _ _ (ends i j d le lt) in
    let point = IsPartitionPoint-from_clause
    (λ (x : Comment). ltb (line_at lines x.span.end) c.args.line) _ _
    c.partition_point.ensures.partitioned
    (IsPartitionedBy-ltb (λ (x : Comment). line_at lines x.span.end) _ c.args.line rise)
    (λ a r q k. search rules) in
    subst (λ ls. IsPartitionPoint (λ (x : Comment). ltb (line_at ls x.span.end) c.args.line ≡ true)
    (λ (x : Comment). ltb (line_at ls x.span.end) c.args.line ≡ false) c.args.scanned.now.comments
    c.partition_point.result)
    c.as_slice-lines.ensures
    (subst (λ xs. IsPartitionPoint
    (λ (x : Comment). ltb (line_at lines x.span.end) c.args.line ≡ true)
    (λ (x : Comment). ltb (line_at lines x.span.end) c.args.line ≡ false) xs
    c.partition_point.result)
    c.as_slice-comments.ensures point)
