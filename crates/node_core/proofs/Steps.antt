-- A call that makes what a step makes of a node, or nothing, keeps what every node keeps.
use Rattle.std.proofs.Common.{◌≡◌, ◌<◌, ◌≤◌, ◌+◌, ◌^◌, ℕ, Bool, true, false, nat_lt, nat_le, List, [], ◌∷◌, length, sym, ap, subst, ◌∙◌, arith, rules}
use Rattle.std.specs.Prelude.{Result, Ok, Err, IfOk, OnOk, OnErr, slice_index_or, slice_set}
use Rattle.srp_base.specs.declared.{memory.NoMemory.NoMemory, mrp.App.App, mrp.App.TheVariants.Mvrp, mrp.App.TheVariants.Msrp, numbers.PortNo.PortNo}
use Rattle.attribute_propagation.specs.Ports.{IsLinkPort, place_of}
use Rattle.tree_topology.specs.declared.graph.NodeKind.TheVariants.{Station}
use Rattle.mvrp.specs.{Side.Vlans, Side.due_vlans, Side.leave_all_vlans, Side.periodic_vlans, Side.settled_vlans, Side.spoilt_vlans, Side.requested_vlans, Vids.IsVid}
use Rattle.msrp_codec.specs.declared.pdu.MsrpKey.{MsrpKey}
use Rattle.msrp.specs.declared.asking.SrpRequest.{SrpRequest}
use Rattle.msrp.specs.declared.asking.SrpRequest.TheVariants as asks
use Rattle.msrp.specs.{Proper.IsRequestInRange, Side.Streams, Side.clocked_streams, Side.due_streams, Side.leave_all_streams, Side.periodic_streams, Side.settled_streams, Side.spoilt_streams, Side.requested_streams}
use Rattle.node_core.specs.{Wire, Declare, Withdraw, Talk, Hush, Listen, Unlisten, Vlan, Srp, LeaveNow, LeaveAllNow, PeriodicNow, Due, Settle, HasOneTaken, spoilt_at, without, NodeEvent, Request, Port, Clock, PortStep, StepReply, NodeState, ports_of, box_at, NodeHolding, CanStep, Stepped, node_step, port_step, after_work, worked_app, left_vid_now, left_key_now, IsInRange, IsProperNode}

-- nodes that are the same have the same state
pub state_of : {a b : NodeHolding} → a ≡ b → a.state ≡ b.state
state_of e = ap (λ (n : NodeHolding). n.state) e

-- the law of steps, as laws.rt says it
abbrev pub StepLaw : Type 0
StepLaw = (event : NodeEvent) (s : NodeState) → CanStep event s → IsInRange event → IsProperNode s → IsProperNode (node_step event s).0

-- the node is that which a step makes
pub made : (m : Stepped) (n : NodeState) (reply : StepReply) → m ≡ (n, reply) → IsProperNode m.0 → IsProperNode n
made m n reply is h = subst (λ (p : Stepped). IsProperNode p.0) is h

-- it is so, or after want of memory as it was
pub made_or_not : (m : Stepped) (s n : NodeState) (r : Result StepReply NoMemory) → IfOk r (λ reply. m ≡ (n, reply)) → OnErr r (n ≡ s)
    → IsProperNode s → IsProperNode m.0 → IsProperNode n
made_or_not m s n (Ok reply) ok err was is = made m n reply ok is
made_or_not m s n (Err e) ok err was is = subst IsProperNode (sym err) was

-- a step of a port keeps it, of a node that is seen in two ways
pub port_kept : StepLaw → (port : PortNo) (step : PortStep) (s u : NodeState) → s ≡ u → IsLinkPort port (ports_of u) → IsProperNode s
    → IsProperNode (port_step step (place_of port) s).0
port_kept law port step s u same can h = law (Port port step) s (subst (λ (t : NodeState). IsLinkPort port (ports_of t)) (sym same) can) tt h

-- ---- one application has become another

pub of_vlans : (s : NodeState) (v u : Vlans) → v ≡ u → IsProperNode (record s { vlans = u }) → IsProperNode (record s { vlans = v })
of_vlans s v u e h = subst (λ (w : Vlans). IsProperNode (record s { vlans = w })) (sym e) h

pub vlans_or_not : (s : NodeState) (v u : Vlans) (r : Result StepReply NoMemory) → OnOk r (v ≡ u) → OnErr r (v ≡ s.vlans)
    → IsProperNode s → IsProperNode (record s { vlans = u }) → IsProperNode (record s { vlans = v })
vlans_or_not s v u (Ok reply) ok err was h = of_vlans s v u ok h
vlans_or_not s v u (Err e) ok err was h = of_vlans s v s.vlans err was

pub vlans_made : (s : NodeState) (v : Vlans) (m : Vlans × StepReply) (r : Result StepReply NoMemory) → IfOk r (λ reply. m ≡ (v, reply)) → OnErr r (v ≡ s.vlans)
    → IsProperNode s → IsProperNode (record s { vlans = m.0 }) → IsProperNode (record s { vlans = v })
vlans_made s v m (Ok reply) ok err was h = of_vlans s v m.0 (sym (ap (λ (p : Vlans × StepReply). p.0) ok)) h
vlans_made s v m (Err e) ok err was h = of_vlans s v s.vlans err was

pub of_streams : (s : NodeState) (v u : Streams) → v ≡ u → IsProperNode (record s { streams = u }) → IsProperNode (record s { streams = v })
of_streams s v u e h = subst (λ (w : Streams). IsProperNode (record s { streams = w })) (sym e) h

pub streams_or_not : (s : NodeState) (v u : Streams) (r : Result StepReply NoMemory) → OnOk r (v ≡ u) → OnErr r (v ≡ s.streams)
    → IsProperNode s → IsProperNode (record s { streams = u }) → IsProperNode (record s { streams = v })
streams_or_not s v u (Ok reply) ok err was h = of_streams s v u ok h
streams_or_not s v u (Err e) ok err was h = of_streams s v s.streams err was

pub streams_made : (s : NodeState) (v : Streams) (m : Streams × StepReply) (r : Result StepReply NoMemory) → IfOk r (λ reply. m ≡ (v, reply)) → OnErr r (v ≡ s.streams)
    → IsProperNode s → IsProperNode (record s { streams = m.0 }) → IsProperNode (record s { streams = v })
streams_made s v m (Ok reply) ok err was h = of_streams s v m.0 (sym (ap (λ (p : Streams × StepReply). p.0) ok)) h
streams_made s v m (Err e) ok err was h = of_streams s v s.streams err was

-- ---- both have

pub both_or_not : (s : NodeState) (v w : Vlans) (t u : Streams) (r : Result StepReply NoMemory) → OnOk r (v ≡ w) → OnOk r (t ≡ u)
    → OnErr r (v ≡ s.vlans) → OnErr r (t ≡ s.streams)
    → IsProperNode s → IsProperNode (record s { vlans = w; streams = u }) → IsProperNode (record s { vlans = v; streams = t })
both_or_not s v w t u (Ok reply) ok also err too was h =
    of_vlans (record s { streams = t }) v w ok (of_streams (record s { vlans = w }) t u also h)
both_or_not s v w t u (Err e) ok also err too was h =
    of_vlans (record s { streams = t }) v s.vlans err (of_streams s t s.streams too was)

-- the clock has gone on
pub clocked : (s : NodeState) (t : Streams) → t ≡ clocked_streams (s.clock.0 + 1) s.streams → StepLaw → s.clock.0 < 2 ^ 61 → IsProperNode s
    → IsProperNode (record s { clock = record { 0 = s.clock.0 + 1 }; streams = t })
clocked s t e law below h = of_streams (record s { clock = record { 0 = s.clock.0 + 1 } }) t (clocked_streams (s.clock.0 + 1) s.streams) e (law Clock s below tt h)

-- ---- a step of a port, by what the call at an application answers

module _ (law : StepLaw) (port : PortNo) (s u : NodeState) (same : s ≡ u) (can : IsLinkPort port (ports_of u)) (h : IsProperNode s) where
  pub vid_left : (vid : ℕ) (v : Vlans) (r : Result StepReply NoMemory) → IfOk r (λ reply. left_vid_now vid (place_of port) s.vlans ≡ (v, reply)) → OnErr r (v ≡ s.vlans)
      → IsProperNode (record s { vlans = v })
  vid_left vid v r ok err = vlans_made s v (left_vid_now vid (place_of port) s.vlans) r ok err h (port_kept law port (LeaveNow (Vlan vid)) s u same can h)

  pub key_left : (key : MsrpKey) (t : Streams) (r : Result StepReply NoMemory) → IfOk r (λ reply. left_key_now key (place_of port) s.streams ≡ (t, reply)) → OnErr r (t ≡ s.streams)
      → IsProperNode (record s { streams = t })
  key_left key t r ok err = streams_made s t (left_key_now key (place_of port) s.streams) r ok err h (port_kept law port (LeaveNow (Srp key)) s u same can h)

  pub vlans_left_all : (v : Vlans) → v ≡ leave_all_vlans s.clock (place_of port) s.vlans → IsProperNode (record s { vlans = v })
  vlans_left_all v e = of_vlans s v (leave_all_vlans s.clock (place_of port) s.vlans) e (port_kept law port (LeaveAllNow Mvrp) s u same can h)

  pub streams_left_all : (t : Streams) → t ≡ leave_all_streams s.clock (place_of port) s.streams → IsProperNode (record s { streams = t })
  streams_left_all t e = of_streams s t (leave_all_streams s.clock (place_of port) s.streams) e (port_kept law port (LeaveAllNow Msrp) s u same can h)

  pub vlans_periodic : (v : Vlans) → v ≡ periodic_vlans (place_of port) s.vlans → IsProperNode (record s { vlans = v })
  vlans_periodic v e = of_vlans s v (periodic_vlans (place_of port) s.vlans) e (port_kept law port (PeriodicNow Mvrp) s u same can h)

  pub streams_periodic : (t : Streams) → t ≡ periodic_streams (place_of port) s.streams → IsProperNode (record s { streams = t })
  streams_periodic t e = of_streams s t (periodic_streams (place_of port) s.streams) e (port_kept law port (PeriodicNow Msrp) s u same can h)

  pub both_due : (v : Vlans) (t : Streams) (r : Result StepReply NoMemory) → OnOk r (v ≡ due_vlans s.clock (place_of port) s.vlans) → OnOk r (t ≡ due_streams s.clock (place_of port) s.streams)
      → OnErr r (v ≡ s.vlans) → OnErr r (t ≡ s.streams) → IsProperNode (record s { vlans = v; streams = t })
  both_due v t r ok also err too = both_or_not s v _ t _ r ok also err too h (port_kept law port Due s u same can h)

  pub both_settled : (v : Vlans) (t : Streams) (r : Result StepReply NoMemory) → OnOk r (v ≡ settled_vlans (place_of port) s.vlans) → OnOk r (t ≡ settled_streams (place_of port) s.streams)
      → OnErr r (v ≡ s.vlans) → OnErr r (t ≡ s.streams) → IsProperNode (record s { vlans = v; streams = t })
  both_settled v t r ok also err too = both_or_not s v _ t _ r ok also err too h (port_kept law port Settle s u same can h)

-- ---- a request of a station

module _ (law : StepLaw) (s : NodeState) (station : s.kind ≡ Station) (h : IsProperNode s) where
  asked_vlan : (vid : ℕ) (declared : Bool) → IsVid vid → IsProperNode (record s { vlans = requested_vlans vid declared s.vlans })
  asked_vlan vid true fits = law (Request (Declare vid)) s station fits h
  asked_vlan vid false fits = law (Request (Withdraw vid)) s station fits h

  pub vlan_asked : (vid : ℕ) (declared : Bool) (v : Vlans) (r : Result StepReply NoMemory) → IsVid vid → OnOk r (v ≡ requested_vlans vid declared s.vlans) → OnErr r (v ≡ s.vlans)
      → IsProperNode (record s { vlans = v })
  vlan_asked vid declared v r fits ok err = vlans_or_not s v (requested_vlans vid declared s.vlans) r ok err h (asked_vlan vid declared fits)

  asked_srp : (request : SrpRequest) → IsRequestInRange request → IsProperNode (record s { streams = requested_streams request s.streams })
  asked_srp (asks.Talk talker) fits = law (Request (Talk talker)) s station fits h
  asked_srp (asks.Hush stream) fits = law (Request (Hush stream)) s station tt h
  asked_srp (asks.Listen stream) fits = law (Request (Listen stream)) s station tt h
  asked_srp (asks.Unlisten stream) fits = law (Request (Unlisten stream)) s station tt h

  pub srp_asked : (request : SrpRequest) (t : Streams) (r : Result StepReply NoMemory) → IsRequestInRange request → OnOk r (t ≡ requested_streams request s.streams) → OnErr r (t ≡ s.streams)
      → IsProperNode (record s { streams = t })
  srp_asked request t r fits ok err = streams_or_not s t (requested_streams request s.streams) r ok err h (asked_srp request fits)

-- ---- the front PDU of an inbox

is_taken : (app : App) (at : ℕ) (octets : List ℕ) (s : NodeState) (reply : StepReply) (v : Vlans) (t : Streams) → HasOneTaken app s.clock at octets s.vlans s.streams reply v t
    → worked_app app at octets s ≡ (record s { vlans = v; streams = t }, reply)
is_taken Mvrp at octets s reply v t h =
    ap (λ (p : Vlans × StepReply). (record s { vlans = p.0 }, p.1)) h.0 ∙ ap (λ (x : Streams). (record s { vlans = v; streams = x }, reply)) (sym h.1)
is_taken Msrp at octets s reply v t h =
    ap (λ (p : Streams × StepReply). (record s { streams = p.0 }, p.1)) h.0 ∙ ap (λ (x : Vlans). (record s { vlans = x; streams = t }, reply)) (sym h.1)

-- the node that has taken it
pub front_taken : (at : ℕ) (ws : List Wire) (w : Wire) (s : NodeState) (reply : StepReply) (v : Vlans) (t : Streams) → 0 < length ws → w ≡ slice_index_or ws 0 w
    → HasOneTaken w.app s.clock at w.octets s.vlans s.streams reply v t
    → after_work at ws s ≡ (record s { vlans = v; streams = t; inboxes = slice_set s.inboxes at (without 0 ws) }, reply)
front_taken at [] w s reply v t some is h = absurd (omega arith)
front_taken at (x ∷ xs) w s reply v t some is h =
    let P : Wire → Type 0 = λ y. HasOneTaken y.app s.clock at y.octets s.vlans s.streams reply v t in
    is_taken x.app at x.octets (record s { inboxes = slice_set s.inboxes at xs }) reply v t (subst P is h)

-- the same of the node in which the PDU was read, by its place's number
pub work_made : (at i : ℕ) (s : NodeState) (w : Wire) (read box now : List Wire) (reply : StepReply) (v : Vlans) (t : Streams)
    → i ≡ at → read ≡ box_at i s.inboxes → now ≡ box_at i s.inboxes → box ≡ without 0 now → 0 < length read → w ≡ slice_index_or read 0 w
    → HasOneTaken w.app s.clock at w.octets s.vlans s.streams reply v t
    → after_work at (box_at at s.inboxes) s ≡ (record s { vlans = v; streams = t; inboxes = slice_set s.inboxes i box }, reply)
work_made at i s w read box now reply v t e reads nows is some front h =
    let here : read ≡ box_at at s.inboxes = reads ∙ ap (λ (n : ℕ). box_at n s.inboxes) e in
    let same : slice_set s.inboxes at (without 0 (box_at at s.inboxes)) ≡ slice_set s.inboxes i box =
    ap (λ (n : ℕ). slice_set s.inboxes n (without 0 (box_at n s.inboxes))) (sym e)
    ∙ ap (λ (b : List Wire). slice_set s.inboxes i b) (ap (without 0) (sym nows) ∙ sym is) in
    front_taken at (box_at at s.inboxes) w s reply v t
    (subst (λ (ws : List Wire). 0 < length ws) here some) (subst (λ (ws : List Wire). w ≡ slice_index_or ws 0 w) here front) h
    ∙ ap (λ (bs : List (List Wire)). (record s { vlans = v; streams = t; inboxes = bs }, reply)) same

-- ---- nothing has changed, or one inbox, or an application is sound no more

pub both_same : (s : NodeState) (v : Vlans) (t : Streams) → v ≡ s.vlans → t ≡ s.streams → IsProperNode s → IsProperNode (record s { vlans = v; streams = t })
both_same s v t e f h = of_vlans (record s { streams = t }) v s.vlans e (of_streams s t s.streams f h)

pub of_inbox : (s : NodeState) (i : ℕ) (b box : List Wire) → b ≡ box → IsProperNode (record s { inboxes = slice_set s.inboxes i box })
    → IsProperNode (record s { inboxes = slice_set s.inboxes i b })
of_inbox s i b box e h = subst (λ (ws : List Wire). IsProperNode (record s { inboxes = slice_set s.inboxes i ws })) (sym e) h

module _ (law : (app : App) (at : ℕ) (s : NodeState) → IsProperNode s → IsProperNode (spoilt_at app at s)) (s : NodeState) (h : IsProperNode s) (at : ℕ) where
  pub vlans_spoilt : (v : Vlans) → v ≡ spoilt_vlans at s.vlans → IsProperNode (record s { vlans = v })
  vlans_spoilt v e = of_vlans s v (spoilt_vlans at s.vlans) e (law Mvrp at s h)

  pub streams_spoilt : (t : Streams) → t ≡ spoilt_streams at s.streams → IsProperNode (record s { streams = t })
  streams_spoilt t e = of_streams s t (spoilt_streams at s.streams) e (law Msrp at s h)

-- ---- an index is one of those that wait, or the next

pub is_below : (a b : ℕ) → a < b → true ≡ nat_lt a b
is_below a b h = search rules

pub is_upto : (a b : ℕ) → a ≤ b → true ≡ nat_le a b
is_upto a b h = search rules
