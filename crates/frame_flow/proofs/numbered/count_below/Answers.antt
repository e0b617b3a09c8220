use Rattle.std.proofs.Common.{ltb, ltb-true, ltb-false, rules}
use Rattle.std.proofs.lemmas.List.Sorted.{IsPartitionPoint-from_clause, IsPartitionedBy-ltb}
use Rattle.frame_flow.proofs.numbered.count_below.Goals as goal

pub returns-clause-before : goal.returns-clause-before
returns-clause-before g c =
    let n = g.T.Numbered.number in
    let parted = IsPartitionedBy-ltb n c.args.items.now c.args.number c.requires in
    let point = IsPartitionPoint-from_clause (λ x. ltb (n x) c.args.number) _ _ c.partition_point.ensures.partitioned parted (λ a r q k. search rules) in
    λ k d from lt. ltb-true _ _ (point.0 k d from lt)

pub returns-clause-after : goal.returns-clause-after
returns-clause-after g c =
    let n = g.T.Numbered.number in
    let parted = IsPartitionedBy-ltb n c.args.items.now c.args.number c.requires in
    let point = IsPartitionPoint-from_clause (λ x. ltb (n x) c.args.number) _ _ c.partition_point.ensures.partitioned parted (λ a r q k. search rules) in
    λ k d from lt. ltb-false _ _ (point.1 k d from lt)
