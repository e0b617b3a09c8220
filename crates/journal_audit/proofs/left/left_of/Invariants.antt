use Rattle.std.proofs.Common.{◌≡◌, ◌++◌, ◌-◌, map, length}
use Rattle.std.specs.List.{range_with_len}
use Rattle.node_core.specs.State.{ports_of}
use Rattle.journal_audit.specs.{left_at, left_of}
use Rattle.journal_audit.proofs.left.left_of.Given as goal

-- the ports so far and those that are left are all
abbrev pub invariant-loop-at : goal.invariant-loop-at
invariant-loop-at l =
    (l.left.items ++ map (left_at l.scenario l.t l.number l.node.state) (range_with_len l.at (ports_of l.node.state - l.at)) ≡ left_of l.scenario l.t l.number l.node.state)
    × (length l.left.items ≡ l.at)
