use Rattle.std.proofs.Common.{leb, arith, rules}
use Rattle.std.proofs.lemmas.List.Sorted.{IsPartitionPoint-from_clause, IsPartitionedBy-leb}
use Rattle.comment_blocks.proofs.Halves.{count_point}
use Rattle.comment_blocks.proofs.group.line_at.Goals as goal

pub returns-clause-line : goal.returns-clause-line
returns-clause-line c = λ never.
    let parted = IsPartitionedBy-leb (λ o. o) _ c.args.offset never in
    let point = IsPartitionPoint-from_clause (λ o. leb o c.args.offset) _ _
    c.partition_point.ensures.partitioned parted (λ a r q k. search rules) in
    count_point (λ o. leb o c.args.offset) c.args.starts.now c.partition_point.result
    c.partition_point.ensures.bound
    (λ k d below. point.0 k d (omega arith) below) (λ k d from within. point.1 k d from within)
