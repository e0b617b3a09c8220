use Rattle.std.proofs.Common.{◌≡◌, ◌++◌, drop}
use Rattle.node_core.proofs.inbox.push_copies.Given as goal

-- the copies so far and those that are left are all
abbrev pub invariant-loop-wire : goal.invariant-loop-wire
invariant-loop-wire l = l.copies.items ++ drop l.wire-index l.wires ≡ l.fn.copies.items ++ l.wires
