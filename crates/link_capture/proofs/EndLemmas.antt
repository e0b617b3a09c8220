-- A node whose port's outbox was read is as it was, and so are the nodes of its network.
use Rattle.std.proofs.Common.{◌≡◌, ℕ, zero, suc, ◌-◌, List, [], ◌∷◌, ◌++◌, length, get_or, Option, Some, refl, sym, ap, subst, ◌∙◌, append_assoc, arith}
use Rattle.std.specs.Prelude.{slice_get, slice_set}
use Rattle.std.specs.Option.{option_map_or}
use Rattle.std.proofs.lemmas.{Option.slice_get_read}
use Rattle.srp_base.specs.declared.numbers.EgressPort.{EgressPort}
use Rattle.tree_topology.specs.Topology.{Topology, HasPort}
use Rattle.attribute_propagation.specs.Ports.{place_of}
use Rattle.node_core.specs.declared.types.Wire.{Wire}
use Rattle.node_core.specs.{Holding.NodeHolding, Holding.states_in, State.NodeState, State.box_at, Links.with_outbox}
use Rattle.world_core.specs.{World.WorldState, World.world_with, Marks.MarksState, Kept.IsKeptWorld}
use Rattle.world_core.proofs.LinkPorts.{link-port}
use Rattle.link_capture.specs.{Crossing, HasEnd, outbox_in, records_of}
use Rattle.link_capture.proofs.FrameLemmas.{records_both}

-- ---- boxes

box_back : (boxes : List (List Wire)) (i : ℕ) → slice_set (slice_set boxes i []) i (box_at i boxes) ≡ boxes
box_back [] i = refl
box_back (b ∷ boxes) zero = refl
box_back (b ∷ boxes) (suc i) = ap (λ (bs : List (List Wire)). b ∷ bs) (box_back boxes i)

pub box_empty : (boxes : List (List Wire)) (i : ℕ) → box_at i (slice_set boxes i []) ≡ []
box_empty [] i = refl
box_empty (b ∷ boxes) zero = refl
box_empty (b ∷ boxes) (suc i) = box_empty boxes i

-- an outbox that is taken and put back
pub outbox_back : (at : ℕ) (wires : List Wire) (s taken back : NodeState) → wires ≡ box_at at s.outboxes → taken ≡ with_outbox at [] s → back ≡ with_outbox at wires taken → back ≡ s
outbox_back at wires s taken back are without with =
    with ∙ ap (λ (v : NodeState). with_outbox at wires v) without ∙ ap (λ (ws : List Wire). with_outbox at ws (with_outbox at [] s)) are
    ∙ ap (λ (boxes : List (List Wire)). record s { outboxes = boxes }) (box_back s.outboxes at)

-- ---- the node at a port's place

state-read : (nodes : List NodeHolding) (i : ℕ) (x : NodeHolding) → get_or (states_in nodes) i x.state ≡ (get_or nodes i x).state
state-read [] i x = refl
state-read (n ∷ nodes) zero x = refl
state-read (n ∷ nodes) (suc i) x = state-read nodes i x

pub same_states : (nodes : List NodeHolding) (i : ℕ) (x y : NodeHolding) → x ≡ get_or nodes i x → y.state ≡ x.state → states_in (slice_set nodes i y) ≡ states_in nodes
same_states [] i x y value e = refl
same_states (n ∷ nodes) zero x y value e = ap (λ (s : NodeState). s ∷ states_in nodes) (e ∙ ap (λ (m : NodeHolding). m.state) value)
same_states (n ∷ nodes) (suc i) x y value e = ap (λ (ss : List NodeState). n.state ∷ ss) (same_states nodes i x y value e)

pub get_there : (p : EgressPort) (nodes : List NodeHolding) (n : ℕ) (x : NodeHolding) → HasEnd (states_in nodes) p → n ≡ p.node.0 → x ≡ get_or nodes (n - 1) x
    → slice_get (states_in nodes) (p.node.0 - 1) ≡ Some x.state
get_there p nodes n x stands is value =
    let here : x ≡ get_or nodes (p.node.0 - 1) x = value ∙ ap (λ (k : ℕ). get_or nodes (k - 1) x) is in
    slice_get_read (states_in nodes) (length (states_in nodes)) (p.node.0 - 1) x.state refl (omega (arith, stands.some, stands.few))
    (ap (λ (h : NodeHolding). h.state) here ∙ sym (state-read nodes (p.node.0 - 1) x))

-- what it has to send
pub outbox_there : (p : EgressPort) (nodes : List NodeHolding) (n : ℕ) (x : NodeHolding) → HasEnd (states_in nodes) p → n ≡ p.node.0 → x ≡ get_or nodes (n - 1) x
    → box_at (place_of p.port) x.state.outboxes ≡ outbox_in p (states_in nodes)
outbox_there p nodes n x stands is value =
    sym (ap (λ (o : Option NodeState). option_map_or (λ (s : NodeState). box_at (place_of p.port) s.outboxes) o []) (get_there p nodes n x stands is value))

-- a port of a network stands among its nodes
pub stands : (w : WorldState) → IsKeptWorld w → (p : EgressPort) → HasPort w.tree p → HasEnd w.nodes p
stands w kept p has =
    record {
      some = has.0.0;
      few = omega (arith, has.0.1, kept.many);
      port = λ s is. link-port w kept p has s is;
    }

-- and among its nodes where it was taken apart
pub stands_apart : (tree rest : Topology) (marks : MarksState) (states : List NodeState) (p : EgressPort) → rest ≡ tree → IsKeptWorld (world_with rest states marks) → HasPort tree p → HasEnd states p
stands_apart tree rest marks states p same kept has = stands (world_with rest states marks) kept p (subst (λ (r : Topology). HasPort r p) (sym same) has)

-- what both ends of a link have to send, one end and then the other
pub both_ends : (out first second : List ℕ) (cs ds : List Crossing) → first ≡ out ++ records_of cs → second ≡ first ++ records_of ds → second ≡ out ++ records_of (cs ++ ds)
both_ends out first second cs ds one two =
    two ∙ ap (λ (o : List ℕ). o ++ records_of ds) one ∙ append_assoc out (records_of cs) (records_of ds) ∙ ap (λ (o : List ℕ). out ++ o) (sym (records_both cs ds))
