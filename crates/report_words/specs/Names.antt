-- The names of nodes and ports as they are printed.
use Rattle.std.specs.Prelude.{ℕ, ◌-◌, ◌==◌, if◌then◌else◌, List, [], ◌∷◌, codes, slice_get}
use Rattle.std.specs.Option.{option_map_or}
use Rattle.srp_base.specs.Text.{whole_of}
use Rattle.srp_base.specs.declared.{numbers.NodeNo.NodeNo, numbers.EgressPort.EgressPort}
use Rattle.tree_topology.specs.declared.graph.Link.{Link}
use Rattle.tree_topology.specs.Ports.{peer_of}
use Rattle.topology_file.specs.declared.entries.NodeEntry.{NodeEntry}

-- the name of the node of a number, from 1 on; that of a number without an entry is empty
abbrev pub name_of : List NodeEntry → NodeNo → List ℕ
name_of nodes x = if x.0 == 0 then [] else option_map_or (λ node. node.name) (slice_get nodes (x.0 - 1)) []

-- a port as `x>y`: the names of its node and of its peer's
abbrev pub port_name : List NodeEntry → List Link → EgressPort → List ℕ
port_name nodes links p = whole_of (name_of nodes p.node ∷ codes ">" ∷ name_of nodes (peer_of links p).node ∷ [])
