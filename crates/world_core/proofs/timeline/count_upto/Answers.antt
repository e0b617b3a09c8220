use Rattle.std.proofs.Common.{rules}
use Rattle.std.specs.Prelude.{not}
use Rattle.std.proofs.lemmas.{Bool.not-true, Bool.not-false, List.Sorted.IsPartitionPoint-from_clause}
use Rattle.srp_base.specs.declared.ports.PortChange.{PortChange}
use Rattle.world_core.specs.{precedes}
use Rattle.world_core.proofs.LastChange.{parted}
use Rattle.world_core.proofs.timeline.count_upto.Goals as goal

pub returns-clause-upto : goal.returns-clause-upto
returns-clause-upto c =
    let test = λ (x : PortChange). not (precedes c.args.at x.at) in
    let point = IsPartitionPoint-from_clause test _ _ c.partition_point.ensures.partitioned (parted c.args.at c.args.changes.now c.requires) (λ a r q k. search rules) in
    λ k d from lt. not-true _ (point.0 k d from lt)

pub returns-clause-after : goal.returns-clause-after
returns-clause-after c =
    let test = λ (x : PortChange). not (precedes c.args.at x.at) in
    let point = IsPartitionPoint-from_clause test _ _ c.partition_point.ensures.partitioned (parted c.args.at c.args.changes.now c.requires) (λ a r q k. search rules) in
    λ k d from lt. not-false _ (point.1 k d from lt)
