use Rattle.std.proofs.Common.{◌≡◌, length, get_or}
use Rattle.tree_topology.specs.{IsNode, begins_with, walk_between}
use Rattle.tree_topology.proofs.routes.Routes.is_below.Given as goal

abbrev pub invariant-loop-at : goal.invariant-loop-at
invariant-loop-at l = record {
  node : IsNode (length l.self.kinds) l.at;
  side : begins_with l.top (walk_between l.self.links (get_or l.self.parents l.top 0) l.at)
      ≡ begins_with l.top (walk_between l.self.links (get_or l.self.parents l.top 0) l.fn.node);
}

abbrev pub decreases-loop-at : goal.decreases-loop-at
decreases-loop-at l = get_or l.self.depths l.at 0
