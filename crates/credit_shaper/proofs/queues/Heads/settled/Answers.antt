-- Each index moves on over frames of other traffic.
use Rattle.std.proofs.Common.{◌≡◌, false, ◌≤◌}
use Rattle.std.specs.List.{AllWithin}
use Rattle.credit_shaper.specs.{Traffic, A, B, Other, Heads, is_of, head_index}
use Rattle.credit_shaper.proofs.QueueLemmas.{pending-settled}
use Rattle.credit_shaper.proofs.queues.Heads.settled.Goals as goal

pub returns-clause-same : goal.returns-clause-same
returns-clause-same c =
    let h : Heads = record { a = c.first_of.result; b = c.first_of-2.result; other = c.first_of-3.result } in
    let each : (traffic : Traffic) → (head_index c.args.self traffic ≤ head_index h traffic)
    × AllWithin (λ x. is_of traffic x ≡ false) c.args.arrivals.now (head_index c.args.self traffic) (head_index h traffic) =
    λ traffic. elim traffic as (λ t. (head_index c.args.self t ≤ head_index h t) × AllWithin (λ x. is_of t x ≡ false) c.args.arrivals.now (head_index c.args.self t) (head_index h t)) [
      | A ↦ (c.first_of.ensures.from, c.first_of.ensures.others)
      | B ↦ (c.first_of-2.ensures.from, c.first_of-2.ensures.others)
      | Other ↦ (c.first_of-3.ensures.from, c.first_of-3.ensures.others)
    ] in
    pending-settled c.args.self h c.args.arrivals.now c.args.came c.requires.came each

pub first_of-requires-clause-range : goal.first_of-requires-clause-range
first_of-requires-clause-range c = c.requires.heads A

pub first_of-requires-2-clause-range : goal.first_of-requires-2-clause-range
first_of-requires-2-clause-range c = c.requires.heads B

pub first_of-requires-3-clause-range : goal.first_of-requires-3-clause-range
first_of-requires-3-clause-range c = c.requires.heads Other
