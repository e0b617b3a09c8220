-- That no port gives away more than its link's entry allows (IEEE Std 802.1Q-2018, 34.3).
use Rattle.std.specs.Prelude.{◌≤◌, ℕ, ◌+◌, ◌==◌, Bool, ◌||◌, List, filter, slice_get}
use Rattle.std.specs.Option.{option_map_or}
use Rattle.srp_base.specs.declared.{bandwidth.Class.Class, bandwidth.Class.TheVariants.A, bandwidth.Class.TheVariants.B, numbers.EgressPort.EgressPort}
use Rattle.stream_importance.specs.declared.slope.Caps.{Caps}
use Rattle.stream_importance.specs.Bandwidth.{caps_of}
use Rattle.tree_topology.specs.Topology.{HasPort}
use Rattle.topology_file.specs.declared.entries.LinkEntry.{LinkEntry}
use Rattle.topology_file.specs.Plan.{Plan}
use Rattle.attribute_propagation.specs.Ports.{place_of}
use Rattle.node_core.specs.State.{slope_at}
use Rattle.world_core.specs.World.{WorldState, node_at}

-- whether a link has this node as an end
abbrev pub is_link_of : ℕ → LinkEntry → Bool
is_link_of x l = (l.a.0 == x) || (l.b.0 == x)

-- the links of a node, in the order of its ports
abbrev pub links_of : ℕ → Plan → List LinkEntry
links_of x plan = filter (is_link_of x) plan.links

-- what the ports of a link may give away: class A its share of the rate, and both classes together
-- theirs
abbrev pub caps_of_link : LinkEntry → Caps
caps_of_link l = caps_of l.rate l.delta_a l.delta_b

-- nothing may be given away
abbrev pub no_caps : Caps
no_caps = record { class_a = 0; both = 0 }

-- what a port may give away, by the entry of its link; where there is no such link, nothing
abbrev pub caps_at : Plan → EgressPort → Caps
caps_at plan p = option_map_or caps_of_link (slice_get (links_of p.node.0 plan) (place_of p.port)) no_caps

-- the slopes of the booked streams of a class at a port, together, in bit/s
abbrev pub booked_at_port : Class → EgressPort → WorldState → ℕ
booked_at_port class p w = option_map_or (slope_at class (place_of p.port)) (node_at p.node w) 0

-- a port's bookings of class A are within its cap, and those of both classes within theirs
pub record IsWithinCaps (plan : Plan) (w : WorldState) (p : EgressPort) : Type 0 where
  pub class_a : booked_at_port A p w ≤ (caps_at plan p).class_a
  pub both : booked_at_port A p w + booked_at_port B p w ≤ (caps_at plan p).both

-- so are those of every port
abbrev pub IsWithinLimits : Plan → WorldState → Type 0
IsWithinLimits plan w = (p : EgressPort) → HasPort plan.tree p → IsWithinCaps plan w p
