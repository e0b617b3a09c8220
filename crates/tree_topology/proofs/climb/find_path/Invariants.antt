use Rattle.std.proofs.Common.{◌≡◌, ◌+◌, length, get_or}
use Rattle.tree_topology.specs.{IsNode, path_between, ports_made}
use Rattle.tree_topology.proofs.climb.find_path.Given as goal

abbrev pub invariant-loop-climb : goal.invariant-loop-climb
invariant-loop-climb l = record {
  here : IsNode (length l.routes.kinds) l.climb.here;
  there : IsNode (length l.routes.kinds) l.climb.there;
  path : ports_made l.routes.links l.climb.here l.climb.there l.climb.ups.items l.climb.downs.items ≡ path_between l.routes.links l.fn.from.0 l.fn.to.0;
}

abbrev pub decreases-loop-climb : goal.decreases-loop-climb
decreases-loop-climb l = get_or l.routes.depths l.climb.here 0 + get_or l.routes.depths l.climb.there 0
