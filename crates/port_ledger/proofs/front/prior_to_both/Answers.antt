use Rattle.std.proofs.Common.{◌≡◌, true, false, arith, rules}
use Rattle.std.proofs.lemmas.List.Sorted.{IsPartitionPoint-from_clause}
use Rattle.port_ledger.proofs.Settling.{dropped_within, is_prior_to_both, prior_parted, taken_within}
use Rattle.port_ledger.proofs.front.prior_to_both.Goals as goal

pub returns-clause-prior : goal.returns-clause-prior
returns-clause-prior c =
    let parted = prior_parted c.args.now.0 (c.importance_is_an_order.ensures c.args.now.0) c.args.goes c.args.comes c.args.ranked.now c.requires in
    let point = IsPartitionPoint-from_clause (is_prior_to_both c.args.now.0 c.args.goes c.args.comes) _ _ c.partition_point.ensures.partitioned parted (λ a r q k. search rules) in
    taken_within (λ y. is_prior_to_both c.args.now.0 c.args.goes c.args.comes y ≡ true) _ c.args.ranked.now c.partition_point.ensures.bound (λ k d l. point.0 k d (omega arith) l)

pub returns-clause-rest : goal.returns-clause-rest
returns-clause-rest c =
    let parted = prior_parted c.args.now.0 (c.importance_is_an_order.ensures c.args.now.0) c.args.goes c.args.comes c.args.ranked.now c.requires in
    let point = IsPartitionPoint-from_clause (is_prior_to_both c.args.now.0 c.args.goes c.args.comes) _ _ c.partition_point.ensures.partitioned parted (λ a r q k. search rules) in
    dropped_within (λ y. is_prior_to_both c.args.now.0 c.args.goes c.args.comes y ≡ false) _ c.args.ranked.now (λ k d le l. point.1 k d le l)
