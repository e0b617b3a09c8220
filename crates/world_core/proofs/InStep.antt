-- Whether all ports of a node are sound, port by port, and those of all nodes, node by node.
use Rattle.std.proofs.Common.{◌≡◌, ℕ, suc, ◌+◌, ◌-◌, ◌<◌, Bool, true, List, ◌∷◌, length, drop, get_or, ap, sym, ◌∙◌, arith}
use Rattle.std.specs.Prelude.{◌&&◌}
use Rattle.std.specs.List.{list_all}
use Rattle.std.proofs.lemmas.{List.drop_more, List.Folds.list_all-map}
use Rattle.srp_base.specs.declared.{numbers.NodeNo.NodeNo, mrp.App.TheVariants.Mvrp, mrp.App.TheVariants.Msrp}
use Rattle.node_core.specs.{Holding.NodeHolding, Holding.states_in, State.NodeState, State.is_still_node, State.ports_of}
use Rattle.world_core.specs.{MarksState, are_nodes_sound, are_ports_sound, is_sound_in}
use Rattle.world_core.proofs.Happenings.{state_is}

-- whether both applications at a port of a node are sound
abbrev pub is_end_sound : NodeNo → NodeState → MarksState → ℕ → Bool
is_end_sound n s m port =
    is_sound_in Mvrp (record { node = n; port = record { 0 = port } }) s m && is_sound_in Msrp (record { node = n; port = record { 0 = port } }) s m

-- the next port, and those behind it
next_port : (n : NodeNo) (s : NodeState) (m : MarksState) (i count : ℕ) → i < count
    → are_ports_sound n s m (i + 1) (count - i) ≡ (is_end_sound n s m (i + 1) && are_ports_sound n s m (i + 1 + 1) (count - (i + 1)))
next_port n s m i count below =
    ap (λ (k : ℕ). are_ports_sound n s m (i + 1) k) (let more : count - i ≡ suc (count - (i + 1)) = omega (arith, below) in more)

pub port_sound : (n : NodeNo) (s : NodeState) (m : MarksState) (i count : ℕ) (all : Bool) → i < count → is_end_sound n s m (i + 1) ≡ true
    → all ≡ are_ports_sound n s m (i + 1) (count - i) → all ≡ are_ports_sound n s m (i + 1 + 1) (count - (i + 1))
port_sound n s m i count all below sound before =
    before ∙ (next_port n s m i count below ∙ ap (λ (b : Bool). b && are_ports_sound n s m (i + 1 + 1) (count - (i + 1))) sound)

-- the next node, and those behind it
pub node_sound : (nodes : List NodeHolding) (m : MarksState) (i : ℕ) (x : NodeHolding) (all b : Bool) → i < length (states_in nodes) → x ≡ get_or nodes i x
    → are_ports_sound (record { 0 = i + 1 }) x.state m 1 (ports_of x.state) ≡ b → all ≡ are_nodes_sound (i + 1) (drop i (states_in nodes)) m
    → all ≡ (b && are_nodes_sound (i + 1 + 1) (drop (i + 1) (states_in nodes)) m)
node_sound nodes m i x all b below value sound before =
    let rest = drop (i + 1) (states_in nodes) in
    before
    ∙ (ap (λ (ss : List NodeState). are_nodes_sound (i + 1) ss m)
    (drop_more (states_in nodes) i x.state below ∙ ap (λ (s : NodeState). s ∷ rest) (sym (state_is nodes i x value)))
    ∙ ap (λ (c : Bool). c && are_nodes_sound (i + 1 + 1) rest m) sound)

-- nothing is pending at all nodes where nothing is at the state of each
pub still_states : (nodes : List NodeHolding) → list_all is_still_node (states_in nodes) ≡ list_all (λ (n : NodeHolding). is_still_node n.state) nodes
still_states nodes = list_all-map is_still_node (λ (n : NodeHolding). n.state) nodes
