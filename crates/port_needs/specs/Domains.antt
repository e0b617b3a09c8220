-- Which ports are at the boundary of an SR class's domain once every node has heard its neighbours
-- (IEEE Std 802.1Q-2018, 35.1.4, 35.2.2.9).
use Rattle.std.specs.Prelude.{◌-◌, Bool, true, false, not, ◌&&◌, List, slice_get}
use Rattle.std.specs.Option.{option_map_or}
use Rattle.srp_base.specs.declared.{bandwidth.Class.Class, bandwidth.Class.TheVariants.A, bandwidth.Class.TheVariants.B, numbers.EgressPort.EgressPort, numbers.NodeNo.NodeNo}
use Rattle.tree_topology.specs.Ports.{peer_of}
use Rattle.topology_file.specs.declared.{entries.DomainWord.DomainWord, entries.NodeEntry.NodeEntry}
use Rattle.topology_file.specs.declared.entries.DomainWord.TheVariants.{Both, OnlyA, Nothing}
use Rattle.topology_file.specs.Plan.{Plan}

-- whether a node with this word says the Domain value of a class
abbrev pub says_class : DomainWord → Class → Bool
says_class Both class = true
says_class OnlyA A = true
says_class OnlyA B = false
says_class Nothing class = false

-- whether the node of a number says it
abbrev pub node_says : List NodeEntry → NodeNo → Class → Bool
node_says nodes x class = option_map_or (λ node. says_class node.domain class) (slice_get nodes (x.0 - 1)) false

-- whether a port is at the boundary of the domain of a class: the file has domains, and the node at
-- one of the ends of the link doesn't say the class's Domain value
abbrev pub is_edge : Plan → Class → EgressPort → Bool
is_edge plan class p =
    plan.domains
    && not (node_says plan.nodes p.node class && node_says plan.nodes (peer_of plan.tree.links p).node class)
