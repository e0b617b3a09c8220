-- A network of nodes of one kind, and one event of it: the network afterwards, and what it answers.
use Rattle.std.specs.Prelude.{◌≡◌, ◌<◌, ◌≤◌, ◌^◌, ◌-◌, ℕ, Bool, true, false, nat_le, List, [], ◌∷◌, map, length, fold, Option, Some, None, option_map, slice_get, slice_set}
use Rattle.std.specs.{Option.option_map_or, Option.option_and_then, List.list_all}
use Rattle.srp_base.specs.declared.{numbers.Cs.Cs, numbers.NodeNo.NodeNo, numbers.EgressPort.EgressPort}
use Rattle.tree_topology.specs.{Topology.Topology, Topology.HasNode, Topology.HasPort, Ports.peer_of}
use Rattle.tree_topology.specs.declared.graph.NodeKind.TheVariants.{Station}
use Rattle.attribute_propagation.specs.Ports.{IsLinkPort, place_of}
use Rattle.link_net.specs.declared.{events.NetEvent.NetEvent, events.NetReply.NetReply, events.NetReply.TheVariants.Node, events.NetReply.TheVariants.Done, events.NetReply.TheVariants.Missed}
use Rattle.link_net.specs.declared.events.NetEvent.TheVariants as events
use Rattle.link_net.specs.{Meaning.NodeMeaning, Meaning.carried_at, Meaning.lost_at, Meaning.repeated_at, Meaning.forged_at, NodeLaws.next_of}

-- a tree, one clock, and the state of each node of the tree, in the order of their numbers
pub record NetState (State : Type 0) : Type 0 where
  pub tree : Topology
  pub clock : Cs
  pub nodes : List State

module _ {State : Type 0} where
  -- the network of a tree at a moment, of these nodes
  abbrev pub net_with : Topology → Cs → List State → NetState State
  net_with tree clock nodes = record { tree = tree; clock = clock; nodes = nodes }

  -- the node of a number
  abbrev pub node_at : NodeNo → NetState State → Option State
  node_at n w = slice_get w.nodes (n.0 - 1)

  -- a list of nodes after one of them has become another
  abbrev pub nodes_with : NodeNo → (State → State) → List State → List State
  nodes_with n change nodes =
      option_map_or (λ s. slice_set nodes (n.0 - 1) (change s)) (slice_get nodes (n.0 - 1)) nodes

  -- the network after a node has become another
  abbrev pub with_changed : NodeNo → (State → State) → NetState State → NetState State
  with_changed n change w = record w { nodes = nodes_with n change w.nodes }

  -- the network after the nodes at both ends of a port's link have, each at its place
  abbrev pub with_ends : EgressPort → (near far : ℕ → State → State) → NetState State → NetState State
  with_ends p near far w =
      let q = peer_of w.tree.links p in
      with_changed q.node (far (place_of q.port))
      (with_changed p.node (near (place_of p.port)) w)

-- the network of which each node is seen as its state
abbrev pub seen : {X State : Type 0} → (X → State) → NetState X → NetState State
seen state w = record { tree = w.tree; clock = w.clock; nodes = map state w.nodes }

-- a network after an event, and its answer
abbrev pub Happened : Type 0 → Type 0 → Type 0
Happened State Reply = NetState State × NetReply Reply

-- the tree has a station of this number
abbrev pub IsStation : Topology → NodeNo → Type 0
IsStation tree n = HasNode tree n.0 × (slice_get tree.kinds (n.0 - 1) ≡ Some Station)

-- the answer of a node's step; where there is no such node, it is missed
abbrev pub answer_of : {State Reply : Type 0} → (State → State × Reply) → Option State → NetReply Reply
answer_of step None = Missed
answer_of step (Some s) = Node (step s).1

module _ {Name Step Reply Request Pdu : Type 0} (node : NodeMeaning Name Step Reply Request Pdu) where
  -- a node of a list stands where a port is, and has it
  pub record StandsAt (p : EgressPort) (nodes : List node.State) : Type 0 where
    pub some : 1 ≤ p.node.0
    pub few : p.node.0 ≤ length nodes
    pub port : (s : node.State) → slice_get nodes (p.node.0 - 1) ≡ Some s → IsLinkPort p.port (node.ports_of s)

  -- ---- what there is at a port

  -- the participant of an application
  abbrev pub part_at : (n : Name) → EgressPort → NetState node.State → Option (node.Part n)
  part_at n p w = option_and_then (node.part_at n (place_of p.port)) (node_at p.node w)

  -- the PDUs that came in, in order
  abbrev pub inbox : EgressPort → NetState node.State → List Pdu
  inbox p w = option_map_or (node.inbox (place_of p.port)) (node_at p.node w) []

  -- the PDUs that are to go out, in order
  abbrev pub outbox : EgressPort → NetState node.State → List Pdu
  outbox p w = option_map_or (node.outbox (place_of p.port)) (node_at p.node w) []

  -- the application of the PDU of an index in the inbox
  abbrev pub name_in : EgressPort → ℕ → NetState node.State → Option Name
  name_in p index w = option_map node.name_of (slice_get (inbox p w) index)

  -- whether the inbox reaches to an index, so that a PDU may stand there
  abbrev pub reaches : EgressPort → ℕ → NetState node.State → Bool
  reaches p index w = nat_le index (length (inbox p w))

  -- ---- one event

  -- a node makes a step
  abbrev pub after_step : NodeNo → (node.State → node.State × Reply) → NetState node.State → Happened node.State Reply
  after_step n step w = (with_changed n (λ s. (step s).0) w, answer_of step (node_at n w))

  -- the PDU of an index in a port's inbox, which is of this application, is lost, where there is
  -- one: neither end of the port's link is sound any more in the application
  abbrev pub after_loss : EgressPort → ℕ → Option Name → NetState node.State → Happened node.State Reply
  after_loss p index None w = (w, Missed)
  after_loss p index (Some n) w =
      (with_ends p (λ at s. node.spoilt n at (lost_at node at index s)) (node.spoilt n) w, Done)

  -- it is there twice, the copy right behind its original
  abbrev pub after_repeat : EgressPort → ℕ → Option Name → NetState node.State → Happened node.State Reply
  after_repeat p index None w = (w, Missed)
  after_repeat p index (Some n) w =
      (with_changed p.node (repeated_at node (place_of p.port) index) w, Done)

  -- a PDU that no neighbour sent stands at an index in a port's inbox, where that reaches so far:
  -- neither end of the port's link is sound any more in the PDU's application
  abbrev pub after_forgery : EgressPort → ℕ → Pdu → Bool → NetState node.State → Happened node.State Reply
  after_forgery p index pdu false w = (w, Missed)
  after_forgery p index pdu true w =
      let n = node.name_of pdu in
      (with_ends p (λ at s. node.spoilt n at (forged_at node at index pdu s)) (node.spoilt n) w, Done)

  -- the PDUs of a port's outbox come in at its peer
  abbrev pub after_carrying : EgressPort → NetState node.State → NetState node.State
  after_carrying p w =
      with_ends p (λ at. node.with_outbox at []) (λ at. carried_at node at (outbox p w)) w

  -- the clock goes on by 1 cs, at every node
  abbrev pub after_clock : NetState node.State → NetState node.State
  after_clock w =
      let now = next_of w.clock in net_with w.tree now (map (node.ticked now) w.nodes)

  -- one event: the network afterwards, and the answer
  abbrev pub net_step : NetEvent Request Step Pdu → NetState node.State → Happened node.State Reply
  net_step (events.Request n request) w = after_step n (node.asked request) w
  net_step (events.Port p step) w = after_step p.node (node.stepped w.clock step (place_of p.port)) w
  net_step (events.Lose p index) w = after_loss p index (name_in p index w) w
  net_step (events.Repeat p index) w = after_repeat p index (name_in p index w) w
  net_step (events.Forge p index pdu) w = after_forgery p index pdu (reaches p index w) w
  net_step (events.Carry p) w = (after_carrying p w, Done)
  net_step events.Clock w = (after_clock w, Done)

  -- the network after a list of events
  abbrev pub net_after : List (NetEvent Request Step Pdu) → NetState node.State → NetState node.State
  net_after es w = fold (λ v e. (net_step e v).0) w es

  -- ---- when an event may happen

  -- its nodes and ports exist, a station asks, a forged PDU is as short as a frame allows, and the
  -- clock goes on from below 2^61
  abbrev pub CanHappen : NetEvent Request Step Pdu → NetState node.State → Type 0
  CanHappen (events.Request n request) w = IsStation w.tree n
  CanHappen (events.Port p step) w = HasPort w.tree p
  CanHappen (events.Lose p index) w = HasPort w.tree p
  CanHappen (events.Repeat p index) w = HasPort w.tree p
  CanHappen (events.Forge p index pdu) w = HasPort w.tree p × node.IsShort pdu
  CanHappen (events.Carry p) w = HasPort w.tree p
  CanHappen events.Clock w = w.clock.0 < 2 ^ 61

  -- each of some events may happen in its turn
  abbrev pub CanAllHappen : List (NetEvent Request Step Pdu) → NetState node.State → Type 0
  CanAllHappen [] w = Unit {0}
  CanAllHappen (e ∷ es) w = CanHappen e w × CanAllHappen es (net_step e w).0

  -- what is asked for and a forged PDU are as their types have them
  abbrev pub IsEventInRange : NetEvent Request Step Pdu → Type 0
  IsEventInRange (events.Request n request) = node.IsRequest request
  IsEventInRange (events.Port p step) = Unit {0}
  IsEventInRange (events.Lose p index) = Unit {0}
  IsEventInRange (events.Repeat p index) = Unit {0}
  IsEventInRange (events.Forge p index pdu) = node.IsPdu pdu
  IsEventInRange (events.Carry p) = Unit {0}
  IsEventInRange events.Clock = Unit {0}

  -- ---- what the readers say

  -- whether nothing is pending at any node
  abbrev pub is_quiet : NetState node.State → Bool
  is_quiet w = list_all node.is_still w.nodes

  -- whether every participant is sound
  abbrev pub is_in_step : NetState node.State → Bool
  is_in_step w = list_all node.is_sound w.nodes

  -- whether a node is busy
  abbrev pub is_busy_at : NodeNo → NetState node.State → Bool
  is_busy_at n w = option_map_or (node.is_busy w.clock) (node_at n w) false
