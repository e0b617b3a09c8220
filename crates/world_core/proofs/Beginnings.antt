-- The network of a scenario keeps what every network keeps.
use Rattle.std.proofs.Common.{◌≡◌, ℕ, zero, suc, ◌+◌, ◌-◌, ◌*◌, ◌<◌, ◌≤◌, ◌^◌, Bool, true, false, List, [], ◌∷◌, length, map, fold, refl, sym, ap, subst, ◌∙◌, arith}
use Rattle.std.specs.Prelude.{slice_get, Some, option_map}
use Rattle.std.proofs.lemmas.Option.{slice_get_within}
use Rattle.srp_base.proofs.Lists.{mapped_length, all_each, at_each}
use Rattle.srp_base.specs.declared.{bandwidth.Class.Class, numbers.Cs.Cs, numbers.EgressPort.EgressPort, numbers.BridgeId.BridgeId, ports.PortSetup.PortSetup}
use Rattle.tree_topology.specs.declared.graph.NodeKind.{NodeKind}
use Rattle.tree_topology.specs.{Topology.Topology, Topology.HasPort, Topology.IsSound, Ports.peer_of, Ports.neighbours, PortLaws.HasPortLaws}
use Rattle.topology_file.specs.declared.{entries.NodeEntry.NodeEntry, entries.LinkEntry.LinkEntry}
use Rattle.topology_file.specs.{Plan.Plan, Scenario.KeepsRules, Scenario.tree_links}
use Rattle.mrp_participant.specs.{Link.LinkEvent, Link.EndEvent.Declares, Link.LinkEvent.AtNear, State.State, State.new_state, State.declared_state, MarkedLink.MarkedLink, MarkedLink.AreMarkedDutiesMet, MarkedLink.unmarked, MarkedLink.new_marked_link, MarkedLink.other_marked_view, MarkedLink.after_marked_event}
use Rattle.msrp_codec.specs.declared.{pdu.MsrpKey.MsrpKey, pdu.MsrpContent.MsrpContent}
use Rattle.msrp_codec.specs.Content.{base_octets, octets_of}
use Rattle.msrp.specs.{PortState.PortState, Part.Part as StreamPart, Part.key_cmp, Part.same_content, Domain.classes_of, Domain.domain_key, Domain.domain_content, Domain.domain_part, Side.new_port}
use Rattle.msrp.specs.declared.domain.DomainSet.{DomainSet}
use Rattle.mvrp.specs.Part.{Part}
use Rattle.attribute_propagation.specs.Ports.{place_of}
use Rattle.node_core.specs.{State.NodeState, State.box_at, State.new_node, Proper.IsProperNode}
use Rattle.topology_file.proofs.EntryLemmas.{one_end}
use Rattle.world_core.specs.{domain_set, setup_of, setups_from, nodes_from, world_of, inbox, outbox, part_at, FitsTree, IsKeptWorld, EndMark, mark_at, no_mark}
use Rattle.world_core.proofs.{Nodes.Base, Nodes.node_there, Nodes.part_is, Nodes.inbox_is, Nodes.outbox_is, EventSteps.HasMarks, NewMarks.mark_none, NewMarks.new_of, Views.AppView, Views.AreMet, Views.Boxed, Views.met_same, VlanSteps.vlan_view, StreamSteps.stream_view, Keeping.kept_whole, Carrying.box_new}

-- a port for each link of the node
pub ports_length : (n x : ℕ) (links : List LinkEntry) → length (setups_from n x links) ≡ length (neighbours (tree_links links) x)
ports_length n x [] = refl
ports_length n x (l ∷ links) = one_end x l (setup_of (2 * n - 1) l) (setup_of (2 * n) l) (setups_from (n + 1) x links) (neighbours (tree_links links) x) (ports_length (n + 1) x links)

-- the node at a place is a new one, of its entry
pub record IsNewNode (plan : Plan) (entries : List NodeEntry) (first x : ℕ) (s : NodeState) : Type 0 where
  pub entry : NodeEntry
  pub at : slice_get entries x ≡ Some entry
  pub kind_at : slice_get (map (λ (n : NodeEntry). n.kind) entries) x ≡ Some entry.kind
  pub number : ℕ
  pub number_is : number ≡ first + x
  pub is : s ≡ new_node entry.kind entry.id plan.leave_time plan.periodic (domain_set plan.domains entry.domain) (setups_from 1 number plan.links)

pub new_at : (plan : Plan) (entries : List NodeEntry) (first x : ℕ) (s : NodeState) → slice_get (nodes_from plan first entries) x ≡ Some s → IsNewNode plan entries first x s
new_at plan [] first x s get = cc
new_at plan (n ∷ entries) first zero s get = record { entry = n; at = refl; kind_at = refl; number = first; number_is = omega arith; is = cc }
new_at plan (n ∷ entries) first (suc x) s get =
    let later = new_at plan entries (first + 1) x s get in
    let place = later.number_is in
    record { entry = later.entry; at = later.at; kind_at = later.kind_at; number = later.number; number_is = omega (arith, place); is = later.is }

nodes_length : (plan : Plan) (first : ℕ) (entries : List NodeEntry) → length (nodes_from plan first entries) ≡ length (map (λ (n : NodeEntry). n.kind) entries)
nodes_length plan first [] = refl
nodes_length plan first (n ∷ entries) = ap suc (nodes_length plan (first + 1) entries)

-- ---- a link between two participants as a network begins with them

module _ {K C : Type 0} (v : AppView K C) where
  -- nothing is in flight, and no mark is set
  abbrev pub BeginsWith : State K C → State K C → Type 0
  BeginsWith x z = AreMarkedDutiesMet v.cmp (record { link = record { near = x; far = z; sent = []; coming = [] }; near = unmarked; far = unmarked })

  abbrev pub new_of_times : Cs × Cs × Bool → State K C
  new_of_times t = new_state t.0 t.1 t.2

  -- a participant that has declared since it was new: what a new link keeps with a new one it keeps with this one
  abbrev pub IsBegun : State K C → Type 0
  IsBegun x = (t : Cs × Cs × Bool) × ((z : State K C) → BeginsWith (new_of_times t) z → BeginsWith x z)

  -- a participant of an application at a place of a new node
  abbrev pub IsNewThere : Type 0
  IsNewThere =
      (kind : NodeKind) (bridge : BridgeId) (leave_time : Cs) (periodic : Bool) (domain : DomainSet) (ports : List PortSetup) (at : ℕ) (x : State K C)
      → v.part at (new_node kind bridge leave_time periodic domain ports) ≡ Some x → IsBegun x

  -- what the public law says of new links
  pub record NewLinks : Type 0 where
    pub new : (near far : Cs × Cs × Bool) → AreMarkedDutiesMet v.cmp (new_marked_link {K = K} {C = C} near far)
    pub turns : (l : MarkedLink K C) → AreMarkedDutiesMet v.cmp l → AreMarkedDutiesMet v.cmp (other_marked_view l)

  -- two that have declared: first the one, and then, as the other end sees the link, the other
  both_begun : NewLinks → (x z : State K C) → IsBegun x → IsBegun z → BeginsWith x z
  both_begun links x z near far =
      let turned : (a b : State K C) → BeginsWith a b → BeginsWith b a = λ a b met. links.turns
      (record { link = record { near = a; far = b; sent = []; coming = [] }; near = unmarked; far = unmarked }) met in
      turned z x (far.1 x (turned x (new_of_times far.0) (near.1 (new_of_times far.0) (links.new near.0 far.0))))

-- VIDs: a new participant
new_part : (leave_time : Cs) (periodic : Bool) (ports : List PortSetup) (at : ℕ) (x : Part) → slice_get (map (λ p. new_state p.period leave_time periodic) ports) at ≡ Some x
    → IsBegun vlan_view x
new_part leave_time periodic [] at x get = cc
new_part leave_time periodic (p ∷ ports) zero x get =
    let is : new_state p.period leave_time periodic ≡ x = cc in
    ((p.period, leave_time, periodic), λ z met. subst (λ (y : Part). BeginsWith vlan_view y z) is met)
new_part leave_time periodic (p ∷ ports) (suc at) x get = new_part leave_time periodic ports at x get

new_vlans_there : IsNewThere vlan_view
new_vlans_there kind bridge leave_time periodic domain ports at x get = new_part leave_time periodic ports at x get

-- what the public law says of events on a link of MSRP
abbrev pub HasStreamEvents : Type 0
HasStreamEvents =
    (l : MarkedLink MsrpKey MsrpContent) (e : LinkEvent MsrpKey MsrpContent) → AreMarkedDutiesMet key_cmp l
    → AreMarkedDutiesMet key_cmp (after_marked_event base_octets octets_of key_cmp same_content l e)

-- streams: a new participant that has declared its node's Domain values
module _ (event : HasStreamEvents) where
  declares_each : (classes : List Class) (x z : StreamPart) → BeginsWith stream_view x z
      → BeginsWith stream_view (fold (λ (t : StreamPart) (class : Class). declared_state key_cmp same_content (domain_key class) (domain_content class) t) x classes) z
  declares_each [] x z met = met
  declares_each (class ∷ classes) x z met =
      declares_each classes (declared_state key_cmp same_content (domain_key class) (domain_content class) x) z
      (event (record { link = record { near = x; far = z; sent = []; coming = [] }; near = unmarked; far = unmarked }) (AtNear (Declares (domain_key class) (domain_content class))) met)

  new_stream_part : (bridge : BridgeId) (leave_time : Cs) (periodic : Bool) (domain : DomainSet) (ports : List PortSetup) (at : ℕ) (x : StreamPart)
      → option_map (λ (p : PortState). p.part) (slice_get (map (new_port bridge leave_time periodic domain) ports) at) ≡ Some x → IsBegun stream_view x
  new_stream_part bridge leave_time periodic domain [] at x get = cc
  new_stream_part bridge leave_time periodic domain (p ∷ ports) zero x get =
      let new : StreamPart = new_state p.period leave_time periodic in
      let is : domain_part domain new ≡ x = cc in
      ((p.period, leave_time, periodic), λ z met. subst (λ (y : StreamPart). BeginsWith stream_view y z) is (declares_each (classes_of domain) new z met))
  new_stream_part bridge leave_time periodic domain (p ∷ ports) (suc at) x get = new_stream_part bridge leave_time periodic domain ports at x get

  new_streams_there : IsNewThere stream_view
  new_streams_there kind bridge leave_time periodic domain ports at x get = new_stream_part bridge leave_time periodic domain ports at x get

module _ (plan : Plan) (rules : KeepsRules plan)
    (laws : (tree : Topology) → IsSound tree → HasPortLaws tree)
    (proper : (kind : NodeKind) (bridge : BridgeId) (leave_time : Cs) (periodic : Bool) (domain : DomainSet) (ports : List PortSetup)
    → length ports ≤ 255 → bridge.0 < 2 ^ 64 → IsProperNode (new_node kind bridge leave_time periodic domain ports)) where
  sound : IsSound plan.tree
  sound = subst IsSound (sym rules.tree) rules.accepted

  fits : (x : ℕ) (s : NodeState) → IsNewNode plan plan.nodes 1 x s → x < length plan.nodes → FitsTree plan.tree x s
  fits x s new below =
      let setups : List PortSetup = setups_from 1 new.number plan.links in
      let place : new.number ≡ x + 1 = (let is = new.number_is in omega (arith, is)) in
      let count : length setups ≡ length (neighbours plan.tree.links (x + 1)) =
      ports_length 1 new.number plan.links ∙ (ap (λ (k : ℕ). length (neighbours (tree_links plan.links) k)) place ∙ ap (λ (t : Topology). length (neighbours t.links (x + 1))) (sym rules.tree)) in
      let few = rules.uncrowded (x + 1) (omega arith, omega (arith, below)) in
      let same = ap (λ (t : Topology). length (neighbours t.links (x + 1))) rules.tree in
      subst (FitsTree plan.tree x) (sym new.is)
      (record {
        kind = ap (λ (t : Topology). slice_get t.kinds x) rules.tree ∙ new.kind_at;
        ports = mapped_length _ setups ∙ count;
        kept = proper new.entry.kind new.entry.id plan.leave_time plan.periodic (domain_set plan.domains new.entry.domain) setups (omega (arith, count, few, same))
            (at_each (λ (n : NodeEntry). n.id.0 < 2 ^ 64) plan.nodes (all_each _ plan.nodes rules.node_ids) x new.entry new.at);
      })

  pub base : Base (world_of plan)
  base =
      record {
        tree = sound;
        many = nodes_length plan 1 plan.nodes ∙ ap (λ (t : Topology). length t.kinds) (sym rules.tree);
        nodes = λ x s get.
            let inside = slice_get_within (nodes_from plan 1 plan.nodes) x s get in
            let count = nodes_length plan 1 plan.nodes in
            let kinds = mapped_length (λ (n : NodeEntry). n.kind) plan.nodes in
            fits x s (new_at plan plan.nodes 1 x s get) (omega (arith, inside, count, kinds));
        clock = λ x y s t gs gt. ap (λ (r : NodeState). r.clock) (new_at plan plan.nodes 1 x s gs).is ∙ ap (λ (r : NodeState). r.clock) (sym (new_at plan plan.nodes 1 y t gt).is);
      }

  has_marks : HasMarks (world_of plan)
  has_marks = record { tree = refl; of = new_of plan.tree }

  -- what is at a port at the start, in an application
  module _ {K C : Type 0} (v : AppView K C) (there : IsNewThere v) (links : NewLinks v) where
    record AtStart (p : EgressPort) (x : State K C) : Type 0 where
      begun : IsBegun v x
      in_none : inbox p (world_of plan) ≡ []
      out_none : outbox p (world_of plan) ≡ []

    at_start : (p : EgressPort) → HasPort plan.tree p → (x : State K C) → part_at v.part p (world_of plan) ≡ Some x → AtStart p x
    at_start p has x get =
        let node = node_there (world_of plan) base p has in
        let s = node.0 in
        let is = node.1 in
        let new = new_at plan plan.nodes 1 (p.node.0 - 1) s is in
        let setups : List PortSetup = setups_from 1 new.number plan.links in
        let one = there new.entry.kind new.entry.id plan.leave_time plan.periodic (domain_set plan.domains new.entry.domain) setups (place_of p.port) x
        (ap (v.part (place_of p.port)) (sym new.is) ∙ (sym (part_is v p (world_of plan) s is) ∙ get)) in
        record {
          begun = one;
          in_none = inbox_is p (world_of plan) s is ∙ (ap (λ (r : NodeState). box_at (place_of p.port) r.inboxes) new.is ∙ box_new setups (place_of p.port));
          out_none = outbox_is p (world_of plan) s is ∙ (ap (λ (r : NodeState). box_at (place_of p.port) r.outboxes) new.is ∙ box_new setups (place_of p.port));
        }

    pub met_start : AreMet v (world_of plan)
    met_start p has near far a b =
        let w = world_of plan in
        let q = peer_of plan.tree.links p in
        let ports = laws plan.tree sound in
        let here = at_start p has near a in
        let far_start = at_start q (ports.peer_port p has) far b in
        let back : inbox (peer_of plan.tree.links q) w ≡ [] = ap (λ (r : EgressPort). inbox r w) (ports.peer_twice p has) ∙ here.in_none in
        let no_marks_at : (r : EgressPort) → mark_at v.app r w.marks ≡ no_mark = mark_none v.app plan.tree in
        subst (λ (x : EndMark). Boxed v near far (inbox q w) (outbox p w) (inbox (peer_of plan.tree.links q) w) (outbox q w) (x, mark_at v.app q w.marks)) (sym (no_marks_at p))
        (subst (λ (y : EndMark). Boxed v near far (inbox q w) (outbox p w) (inbox (peer_of plan.tree.links q) w) (outbox q w) (no_mark, y)) (sym (no_marks_at q))
        (met_same v (no_mark, no_mark) near near far far
        [] (inbox q w) [] (outbox p w) [] (inbox (peer_of plan.tree.links q) w) [] (outbox q w)
        refl refl (sym far_start.in_none) (sym here.out_none) (sym back) (sym far_start.out_none)
        (record {
          duties = both_begun v links near far here.begun far_start.begun;
          near_flying = refl;
          far_flying = refl;
          near_clear = λ is. let never : false ≡ true = is in cc;
          far_clear = λ is. let never : false ≡ true = is in cc;
        })))

  pub begins : NewLinks vlan_view → NewLinks stream_view → HasStreamEvents → IsKeptWorld (world_of plan)
  begins vlans streams event =
      kept_whole (world_of plan) base has_marks
      (met_start vlan_view new_vlans_there vlans)
      (met_start stream_view (new_streams_there event) streams)
