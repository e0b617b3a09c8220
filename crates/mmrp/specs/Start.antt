-- A network at its start: its tree, and each node with its ports, nothing joined and no PDU
-- anywhere.
use Rattle.std.specs.Prelude.{ℕ, ◌+◌, ◌*◌, ◌-◌, ◌%◌, ◌==◌, Bool, if◌then◌else◌, List, [], ◌∷◌, ◌++◌}
use Rattle.srp_base.specs.declared.{numbers.Cs.Cs, ports.PortSetup.PortSetup}
use Rattle.topology_file.specs.declared.{entries.LinkEntry.LinkEntry, entries.NodeEntry.NodeEntry}
use Rattle.tree_topology.specs.Topology.{Topology}
use Rattle.mmrp.specs.{Node.NodeGroups, Node.new_node, Net.NetGroups}

-- the LeaveAll period of the end of a link with this number, in cs: the ends of link l have the
-- numbers 2l - 1 and 2l, so that ends don't all send LeaveAll at once (IEEE Std 802.1Q-2018,
-- 10.7.11: LeaveAllTime)
abbrev pub period_of : ℕ → Cs
period_of n = record { 0 = 1001 + 7 * (n % 64) }

-- what the end of a link with this number is set up with
abbrev pub setup_of : ℕ → LinkEntry → PortSetup
setup_of n l = record { rate = l.rate; delta_a = l.delta_a; delta_b = l.delta_b; latency = l.latency; period = period_of n }

-- the port of node x on link number n, if the link has the node as an end
abbrev pub end_setup : ℕ → ℕ → LinkEntry → List PortSetup
end_setup n x l =
    if l.a.0 == x then setup_of (2 * n - 1) l ∷ []
    else if l.b.0 == x then setup_of (2 * n) l ∷ []
    else []

-- the ports of node x in the order of its links, the first of which has number n
abbrev pub setups_from : ℕ → ℕ → List LinkEntry → List PortSetup
setups_from n x [] = []
setups_from n x (l ∷ links) = end_setup n x l ++ setups_from (n + 1) x links

-- the nodes of these entries, the first of which has number x
abbrev pub nodes_from : Cs → Bool → List LinkEntry → ℕ → List NodeEntry → List NodeGroups
nodes_from leave_time periodic links x [] = []
nodes_from leave_time periodic links x (n ∷ entries) =
    new_node leave_time periodic (setups_from 1 x links) ∷ nodes_from leave_time periodic links (x + 1) entries

-- the network of these nodes and links, whose tree this is, at its start
abbrev pub net_of : Topology → Cs → Bool → List NodeEntry → List LinkEntry → NetGroups
net_of tree leave_time periodic nodes links =
    record { tree = tree; clock = record { 0 = 0 }; nodes = nodes_from leave_time periodic links 1 nodes }
