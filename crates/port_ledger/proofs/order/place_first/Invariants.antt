use Rattle.std.proofs.Common.{◌≡◌, ◌-◌, ◌++◌, length, take, drop}
use Rattle.port_ledger.specs.{place_first}
use Rattle.port_ledger.proofs.order.place_first.Given as goal

abbrev pub invariant-loop-at : goal.invariant-loop-at
invariant-loop-at l =
    (length l.entries ≡ length l.fn.entries)
    × (place_first l.now.0 l.fn.entries ≡ take (l.at - 1) l.entries ++ place_first l.now.0 (drop (l.at - 1) l.entries))
