use Rattle.std.proofs.Common.{◌≡◌, ◌≤◌, ◌++◌, length, take, drop}
use Rattle.port_ledger.specs.{importance_order}
use Rattle.port_ledger.proofs.order.rank.Given as goal

abbrev pub invariant-loop-rest : goal.invariant-loop-rest
invariant-loop-rest l =
    (l.rest ≤ length l.fn.entries) × (l.entries ≡ take l.rest l.fn.entries ++ importance_order l.now.0 (drop l.rest l.fn.entries))

abbrev pub decreases-loop-rest : goal.decreases-loop-rest
decreases-loop-rest l = l.rest
