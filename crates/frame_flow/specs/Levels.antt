-- In which order the code goes over the ports: level by level, in each level node by node, and in
-- the order of the links at each node. No public contract names these words.
use Rattle.std.specs.Prelude.{◌≡◌, ℕ, ◌<◌, ◌⊎◌, List, length, map, All}
use Rattle.std.proofs.Common.{get_or}
use Rattle.srp_base.specs.declared.numbers.EgressPort.{EgressPort}
use Rattle.tree_topology.specs.{Topology.Topology, Topology.HasPort, Ports.peer_of, Walk.count_behind}
use Rattle.frame_flow.specs.declared.{place.Place.Place, result.PortFlow.PortFlow}
use Rattle.frame_flow.specs.Flow.{Setting, port_flow}

-- the number of nodes behind a port's peer
abbrev pub level_at : Topology → EgressPort → ℕ
level_at tree p = count_behind (length tree.kinds) tree.links (peer_of tree.links p)

-- the level of a port with its rate
abbrev pub level_of : Topology → Place → ℕ
level_of tree place = level_at tree place.at

-- each is a port of the tree
abbrev pub ArePorts : Topology → List Place → Type 0
ArePorts tree places = All (λ x. HasPort tree x.at) places

-- there is a flow at each port, in their order
abbrev pub AreAt : List Place → List PortFlow → Type 0
AreAt places flows = map (λ x. x.at) flows ≡ map (λ x. x.at) places

-- the flow of this index is what the others give it
abbrev pub IsDone : Setting → List Place → List PortFlow → ℕ → Type 0
IsDone s places flows j =
    (x : PortFlow) (place : Place) → get_or flows j x ≡ port_flow s flows (get_or places j place)

-- a port is gone over before the one of index k at this node and level: its level is lower, or the
-- same with a lower node, or both are the same with an index j below k
abbrev pub IsGoneOverBefore : Topology → ℕ → ℕ → ℕ → Place → ℕ → Type 0
IsGoneOverBefore tree level node k place j =
    (level_of tree place < level)
    ⊎ ((level_of tree place ≡ level) × ((place.at.node.0 < node) ⊎ ((place.at.node.0 ≡ node) × (j < k))))

-- the flows at all ports that are gone over before are what the others give them
abbrev pub AreDoneBefore : Setting → ℕ → ℕ → ℕ → List Place → List PortFlow → Type 0
AreDoneBefore s level node k places flows =
    (j : ℕ) (place : Place) → j < length places
    → IsGoneOverBefore s.tree level node k (get_or places j place) j → IsDone s places flows j
