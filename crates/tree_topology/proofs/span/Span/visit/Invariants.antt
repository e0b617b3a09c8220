use Rattle.std.proofs.Common.{◌≢◌, ◌<◌, ℕ, length, get_or}
use Rattle.tree_topology.specs.{IsSpan, Grows}
use Rattle.tree_topology.proofs.span.Span.visit.Given as goal

abbrev pub invariant-loop-neighbour : goal.invariant-loop-neighbour
invariant-loop-neighbour l = record {
  span : IsSpan (length l.graph.kinds.items) l.graph.links.items l.self.parents.items l.self.depths.items l.self.order.items;
  grows : Grows l.fn.self.parents.items l.fn.self.order.items l.self.parents.items l.self.order.items;
  reached : (k : ℕ) → k < l.neighbour-index → get_or l.self.parents.items (get_or l.neighbour-items k 0) 0 ≢ 0;
}
