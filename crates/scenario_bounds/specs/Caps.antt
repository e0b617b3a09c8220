-- What a port may give away, by the entry of its link (IEEE Std 802.1Q-2018, 34.3).
use Rattle.std.specs.Prelude.{ℕ, ◌-◌, ◌==◌, Bool, ◌||◌, List, filter, slice_get, Option}
use Rattle.std.specs.Option.{option_map_or}
use Rattle.srp_base.specs.declared.numbers.EgressPort.{EgressPort}
use Rattle.stream_importance.specs.declared.slope.Caps.{Caps}
use Rattle.stream_importance.specs.Bandwidth.{caps_of}
use Rattle.topology_file.specs.declared.entries.LinkEntry.{LinkEntry}
use Rattle.topology_file.specs.Plan.{Plan}

-- whether a link has this node as an end
abbrev pub is_link_of : ℕ → LinkEntry → Bool
is_link_of x l = (l.a.0 == x) || (l.b.0 == x)

-- the links of a node, in the order of its ports
abbrev pub links_of : ℕ → Plan → List LinkEntry
links_of x plan = filter (is_link_of x) plan.links

-- what the ports of a link may give away: class A its share of the rate, and both classes together
-- theirs
abbrev pub caps_of_link : LinkEntry → Caps
caps_of_link l = caps_of l.rate l.delta_a l.delta_b

-- nothing may be given away
abbrev pub no_caps : Caps
no_caps = record { class_a = 0; both = 0 }

-- the link of a port: a node's links are those of its ports, in order. Ports count from 1; 0, which
-- no node has, is read as 1
abbrev pub link_at : Plan → EgressPort → Option LinkEntry
link_at plan p = slice_get (links_of p.node.0 plan) (p.port.0 - 1)

-- what a port may give away, by the entry of its link; where there is no such link, nothing. Port 0
-- is read as port 1
abbrev pub caps_at : Plan → EgressPort → Caps
caps_at plan p = option_map_or caps_of_link (link_at plan p) no_caps
