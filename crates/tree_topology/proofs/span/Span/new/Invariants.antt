use Rattle.std.proofs.Common.{◌≢◌, ◌<◌, ◌≤◌, ◌+◌, ◌-◌, ℕ, length, get_or}
use Rattle.tree_topology.specs.{Joined, IsSpan}
use Rattle.tree_topology.proofs.span.Span.new.Given as goal

abbrev pub invariant-loop-done : goal.invariant-loop-done
invariant-loop-done l = record {
  span : IsSpan (length l.graph.kinds.items) l.graph.links.items l.span.parents.items l.span.depths.items l.span.order.items;
  within : l.done ≤ length l.span.order.items;
  closed : (k v : ℕ) → k < l.done → Joined l.graph.links.items (get_or l.span.order.items k 0) v → get_or l.span.parents.items v 0 ≢ 0;
}

abbrev pub decreases-loop-done : goal.decreases-loop-done
decreases-loop-done l = length l.graph.kinds.items + 1 - l.done
