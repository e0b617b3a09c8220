-- Each event of a network keeps what all links do in an application, whichever it is, from what the application shows.
use Rattle.std.proofs.Common.{◌≡◌, ◌≢◌, ◌⊎◌, inl, inr, ℕ, zero, suc, ◌+◌, ◌-◌, Bool, true, false, ◌&&◌, if◌then◌else◌, List, [], ◌∷◌, ◌++◌, refl, sym, ap, subst, ◌∙◌, arith}
use Rattle.std.specs.Prelude.{slice_get, Option, Some, None, option_map, filter_map}
use Rattle.std.specs.Option.{option_map_or}
use Rattle.std.proofs.lemmas.List.{append-nil}
use Rattle.srp_base.proofs.Options.{one_some}
use Rattle.srp_base.specs.declared.{numbers.NodeNo.NodeNo, numbers.EgressPort.EgressPort, mrp.App.App}
use Rattle.tree_topology.specs.{Topology.Topology, Topology.HasPort, Ports.peer_of, PortLaws.HasPortLaws}
use Rattle.mrp_participant.specs.{State.State, State.Messages, Link.with_repeat as twice_in, Link.EndEvent.Repeats, Link.LinkEvent.AtFar, MarkedLink.AreMarkedDutiesMet}
use Rattle.tree_topology.proofs.EgressPorts.{other_place, other_node}
use Rattle.attribute_propagation.specs.Ports.{place_of}
use Rattle.flat_side.proofs.Lists.{said_twice}
use Rattle.node_core.specs.declared.{types.Wire.Wire, types.AppRequest.AppRequest, types.NodeEvent.NodeEvent, types.PortStep.PortStep, types.StepReply.StepReply}
use Rattle.node_core.specs.declared.types.NodeEvent.TheVariants as node_events
use Rattle.node_core.specs.declared.types.PortStep.TheVariants as steps
use Rattle.node_core.specs.declared.types.StepReply.TheVariants.{Nothing, Discarded, Received, Fired, Settled, Silent, Sent, Taken}
use Rattle.node_core.specs.{Leaving.has_leave_all, Leaving.is_leave_all_at, Wires.without, Wires.with_wire, State.NodeState, State.box_at, Step.node_step, Step.port_step, Links.with_outbox, Links.with_inbox, Links.with_carried, Links.lost_at, Links.repeated_at, Links.forged_at, Links.spoilt_at}
use Rattle.world_core.specs.{WorldEvent, Request, Port, Lose, Repeat, Forge, Carry, Clock, WorldReply, Step, Done, EndMark, MarksState, BothMarks, IsOfTree, is_same_app, mark_at, count_of, without_mark, with_fewer, with_more, both_took, both_sent, both_lost, both_copied, both_forged, WorldState, node_at, with_changed, inbox, outbox, app_of, reaches, step_of_node, after_step, has_leave_all_next, marks_taking, marks_sending, marks_stepping, marks_losing, marks_copying, marks_forging, with_unsound_ends, with_loss, after_repeat, with_forgery, after_clock, world_step, CanHappen, part_at, marked_link, flags_of}
use Rattle.world_core.specs.declared.events.WorldReply.TheVariants.{Missed}
use Rattle.world_core.proofs.{Lists.nothing_lost, Lists.nothing_added, Boxes.box_got, Boxes.box_other, Boxes.box_none, Counts.one_of, Counts.app_is, Counts.count_append, Counts.count_without, Counts.count_twice, Counts.count_with, Counts.count_some, Views.AppView, Views.LinkLaws, Views.StepFacts, Views.AreMet, Views.Met, Views.Boxed, Views.KeepsLink, Views.both_heard, Views.both_said, Views.both_stepped, Views.met_same, Views.unsound, StepBoxes.asked_boxes, StepBoxes.step_boxes, StepBoxes.spoilt_boxes, Nodes.Base, Nodes.SameAtPort, Nodes.same_then, Nodes.same_port, Nodes.by_states, Nodes.by_node, Nodes.node_same, Nodes.node_other, Nodes.same_tree, Nodes.same_marks, Nodes.stepped_is, Nodes.ticked_at, Nodes.node_there, Nodes.place_within, Nodes.inbox_there, Nodes.part_there, Nodes.part_is, Nodes.inbox_is, Nodes.outbox_is, Nodes.proper_at, Ends.MetOn, Ends.one_link, Ends.on_tree, Ends.nowhere, Ends.duties_changed, MarkSteps.AreChanged, MarkSteps.are_changed}

-- the marks of a network are those of its tree
pub record HasMarks (w : WorldState) : Type 0 where
  pub tree : w.marks.tree ≡ w.tree
  pub of : IsOfTree w.marks

-- both ends lose their marks, and the count of the far one becomes another
abbrev pub both_spoiling : (EndMark → EndMark) → BothMarks → BothMarks
both_spoiling recount marks = (without_mark marks.0, without_mark (recount marks.1))

-- the PDU of an index in an inbox
wire_at : (wires : List Wire) (i : ℕ) (app : App) → option_map (λ wire. wire.app) (slice_get wires i) ≡ Some app → (wire : Wire) × (slice_get wires i ≡ Some wire) × (wire.app ≡ app)
wire_at [] i app h = cc
wire_at (wire ∷ wires) zero app h = (wire, refl, cc)
wire_at (wire ∷ wires) (suc i) app h = wire_at wires i app h

-- sums, on plain variables
copied_count : (a b c d : ℕ) → a ≡ b + c → d ≡ (b + 1) + c → a + 1 ≡ d
copied_count a b c d e f = omega (arith, e, f)

same_count : (a b c d b' : ℕ) → a ≡ b + c → b' ≡ b + 0 → d ≡ b' + c → a ≡ d
same_count a b c d b' e f g = omega (arith, e, f, g)

lost_count : (a b c d b' : ℕ) → a ≡ b + c → b' + 1 ≡ b → d ≡ b' + c → a - 1 ≡ d
lost_count a b c d b' e f g = omega (arith, e, f, g)

unlost_count : (a b c d b' : ℕ) → a ≡ b + c → b' + 0 ≡ b → d ≡ b' + c → a ≡ d
unlost_count a b c d b' e f g = omega (arith, e, f, g)

first_none : (a b c : ℕ) → a ≡ b + c → a ≡ 0 → b ≡ 0
first_none a b c e f = omega (arith, e, f)

module _ {K C : Type 0} (v : AppView K C) (links : LinkLaws v) (facts : StepFacts v) where
  -- ---- a request

  met_request : (n : NodeNo) (request : AppRequest) (w : WorldState) → HasPortLaws w.tree → AreMet v w → AreMet v (world_step (Request n request) w).0
  met_request n request w laws met =
      let event : NodeEvent = node_events.Request request in
      let change : NodeState → NodeState = λ s. (node_step event s).0 in
      subst (AreMet v) (stepped_is n event w)
      (nowhere v w (with_changed n change w) laws (same_tree n change w) (same_marks n change w)
      (λ p has. same_port v n change w p (λ s is at. record { part = facts.asked request (place_of p.port) s; boxes = asked_boxes request (place_of p.port) s })) met)

  -- ---- the marks of a port's link after its step

  taking_as : (e : EgressPort) (w : WorldState) → HasPortLaws w.tree → HasPort w.tree e → HasMarks w → (o : Option Wire)
      → (mark_at v.app e (marks_taking e o w.marks), mark_at v.app (peer_of w.tree.links e) (marks_taking e o w.marks))
      ≡ both_heard v.app o (mark_at v.app e w.marks, mark_at v.app (peer_of w.tree.links e) w.marks)
  taking_as e w laws has of None = refl
  taking_as e w laws has of (Some wire) = by (is_same_app v.app wire.app) refl
    where
      changed : AreChanged w.tree w.marks (marks_taking e (Some wire) w.marks) wire.app e (both_took ((mark_at wire.app e w.marks).clear && has_leave_all wire))
      changed = are_changed w.tree w.marks of.tree of.of wire.app e (both_took ((mark_at wire.app e w.marks).clear && has_leave_all wire)) laws has

      by : (b : Bool) → is_same_app v.app wire.app ≡ b
          → (mark_at v.app e (marks_taking e (Some wire) w.marks), mark_at v.app (peer_of w.tree.links e) (marks_taking e (Some wire) w.marks))
          ≡ (if b then both_took ((mark_at v.app e w.marks).clear && has_leave_all wire) (mark_at v.app e w.marks, mark_at v.app (peer_of w.tree.links e) w.marks)
          else (mark_at v.app e w.marks, mark_at v.app (peer_of w.tree.links e) w.marks))
      by true own =
          changed.here v.app true own
          ∙ ap (λ (a : App). both_took ((mark_at a e w.marks).clear && has_leave_all wire) (mark_at v.app e w.marks, mark_at v.app (peer_of w.tree.links e) w.marks))
          (sym (app_is v.app wire.app own))
      by false other = changed.here v.app false other

  sending_as : (e : EgressPort) (w : WorldState) → HasPortLaws w.tree → HasPort w.tree e → HasMarks w → (app : App) (l : Bool) (r : StepReply)
      → (mark_at v.app e (marks_sending e app l (Step r) w.marks), mark_at v.app (peer_of w.tree.links e) (marks_sending e app l (Step r) w.marks))
      ≡ both_said (is_same_app v.app app) l r (mark_at v.app e w.marks, mark_at v.app (peer_of w.tree.links e) w.marks)
  sending_as e w laws has of app l (Sent octets) = by (is_same_app v.app app) refl
    where
      by : (b : Bool) → is_same_app v.app app ≡ b
          → (mark_at v.app e (marks_sending e app l (Step (Sent octets)) w.marks), mark_at v.app (peer_of w.tree.links e) (marks_sending e app l (Step (Sent octets)) w.marks))
          ≡ both_said b l (Sent octets) (mark_at v.app e w.marks, mark_at v.app (peer_of w.tree.links e) w.marks)
      by true own = (are_changed w.tree w.marks of.tree of.of app e (both_sent l) laws has).here v.app true own
      by false other = (are_changed w.tree w.marks of.tree of.of app e (both_sent l) laws has).here v.app false other
  sending_as e w laws has of app l Nothing = silent (is_same_app v.app app)
    where
      silent : (b : Bool) → (mark_at v.app e w.marks, mark_at v.app (peer_of w.tree.links e) w.marks) ≡ both_said b l Nothing (mark_at v.app e w.marks, mark_at v.app (peer_of w.tree.links e) w.marks)
      silent true = refl
      silent false = refl
  sending_as e w laws has of app l (Discarded place) = silent (is_same_app v.app app)
    where
      silent : (b : Bool) → (mark_at v.app e w.marks, mark_at v.app (peer_of w.tree.links e) w.marks) ≡ both_said b l
          (Discarded place) (mark_at v.app e w.marks, mark_at v.app (peer_of w.tree.links e) w.marks)
      silent true = refl
      silent false = refl
  sending_as e w laws has of app l (Received n) = silent (is_same_app v.app app)
    where
      silent : (b : Bool) → (mark_at v.app e w.marks, mark_at v.app (peer_of w.tree.links e) w.marks) ≡ both_said b l
          (Received n) (mark_at v.app e w.marks, mark_at v.app (peer_of w.tree.links e) w.marks)
      silent true = refl
      silent false = refl
  sending_as e w laws has of app l (Fired n) = silent (is_same_app v.app app)
    where
      silent : (b : Bool) → (mark_at v.app e w.marks, mark_at v.app (peer_of w.tree.links e) w.marks) ≡ both_said b l
          (Fired n) (mark_at v.app e w.marks, mark_at v.app (peer_of w.tree.links e) w.marks)
      silent true = refl
      silent false = refl
  sending_as e w laws has of app l (Settled n) = silent (is_same_app v.app app)
    where
      silent : (b : Bool) → (mark_at v.app e w.marks, mark_at v.app (peer_of w.tree.links e) w.marks) ≡ both_said b l
          (Settled n) (mark_at v.app e w.marks, mark_at v.app (peer_of w.tree.links e) w.marks)
      silent true = refl
      silent false = refl
  sending_as e w laws has of app l Silent = silent (is_same_app v.app app)
    where
      silent : (b : Bool) → (mark_at v.app e w.marks, mark_at v.app (peer_of w.tree.links e) w.marks) ≡ both_said b l Silent (mark_at v.app e w.marks, mark_at v.app (peer_of w.tree.links e) w.marks)
      silent true = refl
      silent false = refl
  sending_as e w laws has of app l Taken = silent (is_same_app v.app app)
    where
      silent : (b : Bool) → (mark_at v.app e w.marks, mark_at v.app (peer_of w.tree.links e) w.marks) ≡ both_said b l Taken (mark_at v.app e w.marks, mark_at v.app (peer_of w.tree.links e) w.marks)
      silent true = refl
      silent false = refl

  abbrev marks_are : EgressPort → WorldState → MarksState → BothMarks
  marks_are e w m = (mark_at v.app e m, mark_at v.app (peer_of w.tree.links e) m)

  stepping_as : (e : EgressPort) (w : WorldState) → HasPortLaws w.tree → HasPort w.tree e → HasMarks w → (s : NodeState) → node_at e.node w ≡ Some s
      → (step : PortStep) (r : StepReply)
      → marks_are e w (marks_stepping e step (Step r) w) ≡ both_stepped v.app step (place_of e.port) s r (marks_are e w w.marks)
  stepping_as e w laws has of s is steps.Work r =
      taking_as e w laws has of (slice_get (inbox e w) 0)
      ∙ ap (λ (ws : List Wire). both_heard v.app (slice_get ws 0) (marks_are e w w.marks)) (inbox_is e w s is)
  stepping_as e w laws has of s is (steps.Send app) r =
      sending_as e w laws has of app (has_leave_all_next app e w) r
      ∙ ap (λ (l : Bool). both_said (is_same_app v.app app) l r (marks_are e w w.marks)) (leaves_next (node_at e.node w) is)
    where
      leaves_next : (o : Option NodeState) → o ≡ Some s → option_map_or (λ s. is_leave_all_at app (place_of e.port) s) o false ≡ is_leave_all_at app (place_of e.port) s
      leaves_next None i = cc
      leaves_next (Some t) i = let same : t ≡ s = cc in ap (λ (t : NodeState). is_leave_all_at app (place_of e.port) t) same
  stepping_as e w laws has of s is (steps.LeaveNow key) r = refl
  stepping_as e w laws has of s is (steps.LeaveAllNow app) r = refl
  stepping_as e w laws has of s is (steps.PeriodicNow app) r = refl
  stepping_as e w laws has of s is steps.Due r = refl
  stepping_as e w laws has of s is steps.Settle r = refl

  stepping_else : (e : EgressPort) (w : WorldState) → HasPortLaws w.tree → HasPort w.tree e → HasMarks w → (step : PortStep) (r : WorldReply) (p : EgressPort) → HasPort w.tree p
      → p ≢ e → p ≢ peer_of w.tree.links e → mark_at v.app p (marks_stepping e step r w) ≡ mark_at v.app p w.marks
  stepping_else e w laws has of steps.Work r p hp ne nq = by (slice_get (inbox e w) 0)
    where
      by : (o : Option Wire) → mark_at v.app p (marks_taking e o w.marks) ≡ mark_at v.app p w.marks
      by None = refl
      by (Some wire) = (are_changed w.tree w.marks of.tree of.of wire.app e (both_took ((mark_at wire.app e w.marks).clear && has_leave_all wire)) laws has).others v.app p hp ne nq
  stepping_else e w laws has of (steps.Send app) (Step (Sent octets)) p hp ne nq =
      (are_changed w.tree w.marks of.tree of.of app e (both_sent (has_leave_all_next app e w)) laws has).others v.app p hp ne nq
  stepping_else e w laws has of (steps.Send app) (Step Nothing) p hp ne nq = refl
  stepping_else e w laws has of (steps.Send app) (Step (Discarded place)) p hp ne nq = refl
  stepping_else e w laws has of (steps.Send app) (Step (Received n)) p hp ne nq = refl
  stepping_else e w laws has of (steps.Send app) (Step (Fired n)) p hp ne nq = refl
  stepping_else e w laws has of (steps.Send app) (Step (Settled n)) p hp ne nq = refl
  stepping_else e w laws has of (steps.Send app) (Step Silent) p hp ne nq = refl
  stepping_else e w laws has of (steps.Send app) (Step Taken) p hp ne nq = refl
  stepping_else e w laws has of (steps.Send app) Done p hp ne nq = refl
  stepping_else e w laws has of (steps.Send app) Missed p hp ne nq = refl
  stepping_else e w laws has of (steps.LeaveNow key) r p hp ne nq = refl
  stepping_else e w laws has of (steps.LeaveAllNow app) r p hp ne nq = refl
  stepping_else e w laws has of (steps.PeriodicNow app) r p hp ne nq = refl
  stepping_else e w laws has of steps.Due r p hp ne nq = refl
  stepping_else e w laws has of steps.Settle r p hp ne nq = refl

  -- ---- a step of a port

  replied : (e : EgressPort) (step : PortStep) (w : WorldState) (s : NodeState) → node_at e.node w ≡ Some s
      → (step_of_node e.node (node_events.Port e.port step) w).1 ≡ Step (port_step step (place_of e.port) s).1
  replied e step w s is = by (node_at e.node w) is
    where
      by : (o : Option NodeState) → o ≡ Some s
          → (option_map_or (λ s. after_step e.node (node_step (node_events.Port e.port step) s) w) o (w, Missed)).1 ≡ Step (port_step step (place_of e.port) s).1
      by None i = cc
      by (Some t) i = let same : t ≡ s = cc in ap (λ (t : NodeState). Step (port_step step (place_of e.port) t).1) same

  met_port : (e : EgressPort) (step : PortStep) (w : WorldState) → HasPortLaws w.tree → HasPort w.tree e → Base w → HasMarks w → AreMet v w
      → AreMet v (world_step (Port e.node e.port step) w).0
  met_port e step w laws has base of met =
      let event : NodeEvent = node_events.Port e.port step in
      let change : NodeState → NodeState = λ s. (node_step event s).0 in
      let reply : WorldReply = (step_of_node e.node event w).1 in
      let m' : MarksState = marks_stepping e step reply w in
      let on : MetOn v w.tree m' (with_changed e.node change w)
      = duties_changed v links.turns facts.there w laws base met e has change
      (λ s. both_stepped v.app step (place_of e.port) s (port_step step (place_of e.port) s).1) m'
      (λ s is. ap (λ (r : WorldReply). marks_are e w (marks_stepping e step r w)) (replied e step w s is)
      ∙ stepping_as e w laws has of s is step (port_step step (place_of e.port) s).1)
      (λ p hp ne nq. stepping_else e w laws has of step reply p hp ne nq)
      (λ s is k ne. record { part = facts.apart step (place_of e.port) k s ne; boxes = step_boxes step (place_of e.port) k s ne })
      (λ s is. facts.keeps step (place_of e.port) s (proper_at w base e.node s is)) in
      let whole : AreMet v (record (with_changed e.node change w) { marks = m' })
      = on_tree v w.tree m' (record (with_changed e.node change w) { marks = m' }) (same_tree e.node change w) refl on in
      subst (λ (u : WorldState). AreMet v (record u { marks = m' })) (stepped_is e.node event w) whole

  -- ---- a copy behind its original

  repeat_kept : (at index : ℕ) (s : NodeState) (app : App) (wire : Wire) (own : Bool) → slice_get (box_at at s.inboxes) index ≡ Some wire → wire.app ≡ app
      → is_same_app v.app app ≡ own → (ws : List Wire) × (slice_get s.inboxes at ≡ Some ws)
      → KeepsLink v at s (repeated_at at index s) (λ marks. if own then both_copied marks else marks)
  repeat_kept at index s app wire own get of_wire same there x y z far_in far_out marks old new met =
      let is : x ≡ y = one_some (v.part at s) x y old (sym (facts.boxes at s (repeated_at at index s).inboxes s.outboxes) ∙ new) in
      met_same v (if own then both_copied marks else marks) x y z z far_in far_in (box_at at s.outboxes) (box_at at s.outboxes)
      (twice_in index (box_at at s.inboxes)) (box_at at (repeated_at at index s).inboxes) far_out far_out
      is refl refl refl (sym (box_got s.inboxes at there.0 (twice_in index (box_at at s.inboxes)) there.1)) refl
      (as_marked own same)
    where
      ins : List Wire
      ins = box_at at s.inboxes

      said : (filter_map v.said (twice_in index (box_at at s.inboxes) ++ far_out) ≡ filter_map v.said (box_at at s.inboxes ++ far_out))
          ⊎ ((j : ℕ) × (filter_map v.said (twice_in index (box_at at s.inboxes) ++ far_out) ≡ twice_in j (filter_map v.said (box_at at s.inboxes ++ far_out))))
          → AreMarkedDutiesMet v.cmp (marked_link v.said x z (far_in ++ box_at at s.outboxes) (twice_in index (box_at at s.inboxes) ++ far_out) marks)
      said (inl e) =
          subst (λ (ms : List (Messages K C)). AreMarkedDutiesMet v.cmp
          (record { link = record { near = x; far = z; sent = filter_map v.said (far_in ++ box_at at s.outboxes); coming = ms }; near = flags_of marks.0; far = flags_of marks.1 }))
          (sym e) met.duties
      said (inr (j, e)) =
          subst (λ (ms : List (Messages K C)). AreMarkedDutiesMet v.cmp
          (record { link = record { near = x; far = z; sent = filter_map v.said (far_in ++ box_at at s.outboxes); coming = ms }; near = flags_of marks.0; far = flags_of marks.1 }))
          (sym e) (links.event (marked_link v.said x z (far_in ++ box_at at s.outboxes) (box_at at s.inboxes ++ far_out) marks) (AtFar (Repeats j)) met.duties)

      same_wire : (b : Bool) → is_same_app v.app app ≡ b → is_same_app v.app wire.app ≡ b
      same_wire b e = ap (is_same_app v.app) of_wire ∙ e

      split : marks.1.flying ≡ count_of v.app (box_at at s.inboxes) + count_of v.app far_out
      split = met.far_flying ∙ count_append v.app (box_at at s.inboxes) far_out

      as_marked : (b : Bool) → is_same_app v.app app ≡ b
          → Boxed v x z far_in (box_at at s.outboxes) (twice_in index (box_at at s.inboxes)) far_out (if b then both_copied marks else marks)
      as_marked true e =
          record {
            duties = said (said_twice v.said index (box_at at s.inboxes) far_out);
            near_flying = met.near_flying;
            far_flying =
                copied_count marks.1.flying (count_of v.app (box_at at s.inboxes)) (count_of v.app far_out) _ split
                (count_append v.app (twice_in index (box_at at s.inboxes)) far_out
                ∙ ap (λ (n : ℕ). n + count_of v.app far_out)
                (count_twice v.app index (box_at at s.inboxes) wire get ∙ ap (λ (b : Bool). count_of v.app (box_at at s.inboxes) + one_of b) (same_wire true e)));
            near_clear = met.near_clear;
            far_clear = λ clear.
                let none = first_none marks.1.flying (count_of v.app (box_at at s.inboxes)) (count_of v.app far_out) split (met.far_clear clear) in
                let never : zero ≡ suc zero = count_some v.app index (box_at at s.inboxes) wire get (same_wire true e) none in
                absurd (let no : zero ≡ suc zero = never in cc);
          }
      as_marked false e =
          record {
            duties = said (said_twice v.said index (box_at at s.inboxes) far_out);
            near_flying = met.near_flying;
            far_flying =
                same_count marks.1.flying (count_of v.app (box_at at s.inboxes)) (count_of v.app far_out) _ (count_of v.app (twice_in index (box_at at s.inboxes))) split
                (count_twice v.app index (box_at at s.inboxes) wire get ∙ ap (λ (b : Bool). count_of v.app (box_at at s.inboxes) + one_of b) (same_wire false e))
                (count_append v.app (twice_in index (box_at at s.inboxes)) far_out);
            near_clear = met.near_clear;
            far_clear = met.far_clear;
          }

  met_repeat : (e : EgressPort) (index : ℕ) (w : WorldState) → HasPortLaws w.tree → HasPort w.tree e → Base w → HasMarks w → AreMet v w → AreMet v (world_step (Repeat e index) w).0
  met_repeat e index w laws has base of met = by (app_of e index w) refl
    where
      by : (o : Option App) → app_of e index w ≡ o → AreMet v (record (after_repeat e index o w).0 { marks = marks_copying e o w.marks })
      by None is = met
      by (Some app) is =
          let changed = are_changed w.tree w.marks of.tree of.of app e both_copied laws has in
          let change : NodeState → NodeState = repeated_at (place_of e.port) index in
          let m' : MarksState = marks_copying e (Some app) w.marks in
          let wire = wire_at (inbox e w) index app is in
          on_tree v w.tree m' (record (with_changed e.node change w) { marks = m' }) (same_tree e.node change w) refl
          (duties_changed v links.turns facts.there w laws base met e has change
          (λ s marks. if is_same_app v.app app then both_copied marks else marks) m'
          (λ s at. changed.here v.app (is_same_app v.app app) refl)
          (λ p hp ne nq. changed.others v.app p hp ne nq)
          (λ s at k ne. record {
            part = facts.boxes k s (repeated_at (place_of e.port) index s).inboxes s.outboxes;
            boxes = record { inbox = box_other s.inboxes (place_of e.port) k _ ne; outbox = refl };
          })
          (λ s at. repeat_kept (place_of e.port) index s app wire.0 (is_same_app v.app app)
          (subst (λ (ws : List Wire). slice_get ws index ≡ Some wire.0) (inbox_is e w s at) wire.1) wire.2 refl
          (inbox_there s (proper_at w base e.node s at) (place_of e.port) (place_within w base e has s at))))

  -- ---- the clock

  met_clock : (w : WorldState) → HasPortLaws w.tree → AreMet v w → AreMet v (after_clock w)
  met_clock w laws met = nowhere v w (after_clock w) laws refl refl (λ p has. same p) met
    where
      same : (p : EgressPort) → SameAtPort v p w (after_clock w)
      same p = by (node_at p.node w) refl
        where
          by : (o : Option NodeState) → node_at p.node w ≡ o → SameAtPort v p w (after_clock w)
          by None is = by_node v p w (after_clock w) (ticked_at w.nodes (p.node.0 - 1) ∙ (ap (option_map (λ s. (node_step node_events.Clock s).0)) is ∙ sym is))
          by (Some s) is =
              by_states v p w (after_clock w) s (node_step node_events.Clock s).0 is (ticked_at w.nodes (p.node.0 - 1) ∙ ap (option_map (λ s. (node_step node_events.Clock s).0)) is)
              (record { part = facts.ticked (place_of p.port) s; boxes = record { inbox = refl; outbox = refl } })

  -- ---- what happens at both ends of a link

  module _ (e : EgressPort) (w : WorldState) (laws : HasPortLaws w.tree) (has : HasPort w.tree e) (base : Base w) (of : HasMarks w) (met : AreMet v w) where
    abbrev q : EgressPort
    q = peer_of w.tree.links e

    has_q : HasPort w.tree q
    has_q = laws.peer_port e has

    apart : e.node.0 - 1 ≢ q.node.0 - 1
    apart is =
        let some = has.0.0 in
        let peer = has_q in
        let first = peer.0.0 in
        other_node w.tree laws e has (omega (arith, is, some, first))

    -- the two nodes before
    node_e : (s : NodeState) × (node_at e.node w ≡ Some s)
    node_e = node_there w base e has

    node_q : (s : NodeState) × (node_at q.node w ≡ Some s)
    node_q = node_there w base q has_q

    old_e : (x : State K C) × (v.part (place_of e.port) node_e.0 ≡ Some x)
    old_e = part_there v facts.there w base e has node_e.0 node_e.1

    old_q : (x : State K C) × (v.part (place_of q.port) node_q.0 ≡ Some x)
    old_q = part_there v facts.there w base q has_q node_q.0 node_q.1

    abbrev marks : BothMarks
    marks = (mark_at v.app e w.marks, mark_at v.app q w.marks)

    met_before : Boxed v old_e.0 old_q.0 (inbox q w) (outbox e w) (inbox e w) (outbox q w) marks
    met_before =
        met_same v marks old_e.0 old_e.0 old_q.0 old_q.0 (inbox q w) (inbox q w) (outbox e w) (outbox e w) (inbox (peer_of w.tree.links q) w) (inbox e w) (outbox q w) (outbox q w)
        refl refl refl refl (ap (λ (r : EgressPort). inbox r w) (laws.peer_twice e has)) refl
        (met e has old_e.0 old_q.0 (part_is v e w node_e.0 node_e.1 ∙ old_e.1) (part_is v q w node_q.0 node_q.1 ∙ old_q.1))

    -- ---- carrying

    abbrev emptied : WorldState
    emptied = with_changed e.node (with_outbox (place_of e.port) []) w

    abbrev filled : WorldState
    filled = with_changed q.node (with_carried (place_of q.port) (outbox e w)) emptied

    tree_filled : filled.tree ≡ w.tree
    tree_filled = same_tree q.node (with_carried (place_of q.port) (outbox e w)) emptied ∙ same_tree e.node (with_outbox (place_of e.port) []) w

    e_filled : node_at e.node filled ≡ Some (with_outbox (place_of e.port) [] node_e.0)
    e_filled =
        node_other q.node (with_carried (place_of q.port) (outbox e w)) emptied e.node (λ i. apart (sym i))
        ∙ (node_same e.node (with_outbox (place_of e.port) []) w ∙ ap (option_map (with_outbox (place_of e.port) [])) node_e.1)

    q_filled : node_at q.node filled ≡ Some (with_carried (place_of q.port) (outbox e w) node_q.0)
    q_filled =
        node_same q.node (with_carried (place_of q.port) (outbox e w)) emptied
        ∙ ap (option_map (with_carried (place_of q.port) (outbox e w))) (node_other e.node (with_outbox (place_of e.port) []) w q.node apart ∙ node_q.1)

    out_e : outbox e filled ≡ []
    out_e = outbox_is e filled _ e_filled ∙ box_none node_e.0.outboxes (place_of e.port)

    in_e : inbox e filled ≡ inbox e w
    in_e = inbox_is e filled _ e_filled ∙ sym (inbox_is e w node_e.0 node_e.1)

    part_e : part_at v.part e filled ≡ part_at v.part e w
    part_e = part_is v e filled _ e_filled ∙ (facts.boxes (place_of e.port) node_e.0 node_e.0.inboxes _ ∙ sym (part_is v e w node_e.0 node_e.1))

    in_q : inbox q filled ≡ inbox q w ++ outbox e w
    in_q =
        let box = inbox_there node_q.0 (proper_at w base q.node node_q.0 node_q.1) (place_of q.port) (place_within w base q has_q node_q.0 node_q.1) in
        inbox_is q filled _ q_filled
        ∙ (box_got node_q.0.inboxes (place_of q.port) box.0 (box_at (place_of q.port) node_q.0.inboxes ++ outbox e w) box.1
        ∙ ap (λ (ws : List Wire). ws ++ outbox e w) (sym (inbox_is q w node_q.0 node_q.1)))

    out_q : outbox q filled ≡ outbox q w
    out_q = outbox_is q filled _ q_filled ∙ sym (outbox_is q w node_q.0 node_q.1)

    part_q : part_at v.part q filled ≡ part_at v.part q w
    part_q = part_is v q filled _ q_filled ∙ (facts.boxes (place_of q.port) node_q.0 _ node_q.0.outboxes ∙ sym (part_is v q w node_q.0 node_q.1))

    -- all other ports
    elsewhere : (p : EgressPort) → HasPort w.tree p → p ≢ e → p ≢ q → SameAtPort v p w filled
    elsewhere p hp ne nq =
        same_then v p w emptied filled
        (same_port v e.node (with_outbox (place_of e.port) []) w p (λ s is nodes.
        record {
          part = facts.boxes (place_of p.port) s s.inboxes _;
          boxes = record { inbox = refl; outbox = box_other s.outboxes (place_of e.port) (place_of p.port) [] (other_place w.tree p e hp has nodes ne) };
        }))
        (same_port v q.node (with_carried (place_of q.port) (outbox e w)) emptied p (λ s is nodes.
        record {
          part = facts.boxes (place_of p.port) s _ s.outboxes;
          boxes = record { inbox = box_other s.inboxes (place_of q.port) (place_of p.port) _ (other_place w.tree p q hp has_q nodes nq); outbox = refl };
        }))

    marks_filled : filled.marks ≡ w.marks
    marks_filled = same_marks q.node (with_carried (place_of q.port) (outbox e w)) emptied ∙ same_marks e.node (with_outbox (place_of e.port) []) w

    met_filled : MetOn v w.tree w.marks filled
    met_filled = one_link v w.tree laws links.turns w filled w.marks w.marks e has elsewhere (λ p hp ne nq. refl) met (λ near far a b.
        let before = met e has near far (sym part_e ∙ a) (sym part_q ∙ b) in
        let sent : (inbox q w ++ outbox e w) ++ [] ≡ inbox q w ++ outbox e w = append-nil (inbox q w ++ outbox e w) in
        met_same v marks near near far far (inbox q w ++ outbox e w) (inbox q filled) [] (outbox e filled) (inbox (peer_of w.tree.links q) w) (inbox e filled) (outbox q w) (outbox q filled)
        refl refl (sym in_q) (sym out_e) (ap (λ (r : EgressPort). inbox r w) (laws.peer_twice e has) ∙ sym in_e) (sym out_q)
        (subst (λ (ws : List Wire). Met v near far ws (inbox (peer_of w.tree.links q) w ++ outbox q w) marks) (sym sent) before))

    met_carry : AreMet v (world_step (Carry e) w).0
    met_carry = on_tree v w.tree w.marks filled tree_filled marks_filled met_filled

    -- ---- an inbox becomes another, and both ends are spoilt for an application: a loss, and a forgery

    module _ (others : List Wire → List Wire) (app : App) (recount : EndMark → EndMark) (m' : MarksState)
        (are : AreChanged w.tree w.marks m' app e (both_spoiling recount)) where
      abbrev other_box : NodeState → NodeState
      other_box s = with_inbox (place_of e.port) (others (box_at (place_of e.port) s.inboxes)) s

      abbrev changed : WorldState
      changed = with_changed e.node other_box w

      abbrev near_spoilt : WorldState
      near_spoilt = with_changed e.node (spoilt_at app (place_of e.port)) changed

      abbrev both_spoilt : WorldState
      both_spoilt = with_changed q.node (spoilt_at app (place_of q.port)) near_spoilt

      is_spoilt : both_spoilt ≡ with_unsound_ends app e changed
      is_spoilt =
          ap (λ (t : Topology). with_changed (peer_of t.links e).node (spoilt_at app (place_of (peer_of t.links e).port)) near_spoilt)
          (sym (same_tree e.node other_box w))

      tree_both : both_spoilt.tree ≡ w.tree
      tree_both = same_tree q.node (spoilt_at app (place_of q.port)) near_spoilt ∙ (same_tree e.node (spoilt_at app (place_of e.port)) changed ∙ same_tree e.node other_box w)

      else_same : (p : EgressPort) → HasPort w.tree p → p ≢ e → p ≢ q → SameAtPort v p w both_spoilt
      else_same p hp ne nq =
          same_then v p w changed both_spoilt
          (same_port v e.node other_box w p (λ s is nodes.
          record {
            part = facts.boxes (place_of p.port) s _ s.outboxes;
            boxes = record { inbox = box_other s.inboxes (place_of e.port) (place_of p.port) _ (other_place w.tree p e hp has nodes ne); outbox = refl };
          }))
          (same_then v p changed near_spoilt both_spoilt
          (same_port v e.node (spoilt_at app (place_of e.port)) changed p (λ s is nodes.
          record { part = facts.spoilt_apart app (place_of e.port) (place_of p.port) s (other_place w.tree p e hp has nodes ne); boxes = spoilt_boxes app (place_of e.port) (place_of p.port) s }))
          (same_port v q.node (spoilt_at app (place_of q.port)) near_spoilt p (λ s is nodes.
          record { part = facts.spoilt_apart app (place_of q.port) (place_of p.port) s (other_place w.tree p q hp has_q nodes nq); boxes = spoilt_boxes app (place_of q.port) (place_of p.port) s })))

      else_marks : (p : EgressPort) → HasPort w.tree p → p ≢ e → p ≢ q → mark_at v.app p m' ≡ mark_at v.app p w.marks
      else_marks p hp ne nq = are.others v.app p hp ne nq

      abbrev other_e : NodeState
      other_e = other_box node_e.0

      e_both : node_at e.node both_spoilt ≡ Some (spoilt_at app (place_of e.port) other_e)
      e_both =
          node_other q.node (spoilt_at app (place_of q.port)) near_spoilt e.node (λ i. apart (sym i))
          ∙ (node_same e.node (spoilt_at app (place_of e.port)) changed
          ∙ ap (option_map (spoilt_at app (place_of e.port))) (node_same e.node other_box w ∙ ap (option_map other_box) node_e.1))

      q_both : node_at q.node both_spoilt ≡ Some (spoilt_at app (place_of q.port) node_q.0)
      q_both =
          node_same q.node (spoilt_at app (place_of q.port)) near_spoilt
          ∙ ap (option_map (spoilt_at app (place_of q.port)))
          (node_other e.node (spoilt_at app (place_of e.port)) changed q.node apart
          ∙ (node_other e.node other_box w q.node apart ∙ node_q.1))

      same_part : v.part (place_of e.port) other_e ≡ Some old_e.0
      same_part = facts.boxes (place_of e.port) node_e.0 _ node_e.0.outboxes ∙ old_e.1

      whole : MetOn v w.tree m' both_spoilt → AreMet v (record (with_unsound_ends app e changed) { marks = m' })
      whole on = subst (λ (u : WorldState). AreMet v (record u { marks = m' })) is_spoilt (on_tree v w.tree m' (record both_spoilt { marks = m' }) tree_both refl on)

      -- the boxes afterwards
      in_far : inbox q w ≡ inbox q both_spoilt
      in_far = inbox_is q w node_q.0 node_q.1 ∙ (sym (spoilt_boxes app (place_of q.port) (place_of q.port) node_q.0).inbox ∙ sym (inbox_is q both_spoilt _ q_both))

      out_far : outbox q w ≡ outbox q both_spoilt
      out_far = outbox_is q w node_q.0 node_q.1 ∙ (sym (spoilt_boxes app (place_of q.port) (place_of q.port) node_q.0).outbox ∙ sym (outbox_is q both_spoilt _ q_both))

      out_near : outbox e w ≡ outbox e both_spoilt
      out_near = outbox_is e w node_e.0 node_e.1 ∙ (sym (spoilt_boxes app (place_of e.port) (place_of e.port) other_e).outbox ∙ sym (outbox_is e both_spoilt _ e_both))

      in_near : others (inbox e w) ≡ inbox e both_spoilt
      in_near =
          let box = inbox_there node_e.0 (proper_at w base e.node node_e.0 node_e.1) (place_of e.port) (place_within w base e has node_e.0 node_e.1) in
          ap others (inbox_is e w node_e.0 node_e.1)
          ∙ (sym (box_got node_e.0.inboxes (place_of e.port) box.0 (others (box_at (place_of e.port) node_e.0.inboxes)) box.1)
          ∙ (sym (spoilt_boxes app (place_of e.port) (place_of e.port) other_e).inbox ∙ sym (inbox_is e both_spoilt _ e_both)))

      -- a PDU of the application: neither end is sound any more
      own_spoilt : is_same_app v.app app ≡ true → (recount (mark_at v.app q w.marks)).flying ≡ count_of v.app (others (inbox e w) ++ outbox q w)
          → AreMet v (record (with_unsound_ends app e changed) { marks = m' })
      own_spoilt own counted =
          whole (one_link v w.tree laws links.turns w both_spoilt w.marks m' e has else_same else_marks met (λ near far a b.
          let near_is : unsound old_e.0 ≡ near = one_some _ (unsound old_e.0) near
          (ap (λ (x : App). v.part (place_of e.port) (spoilt_at x (place_of e.port) other_e)) (sym (app_is v.app app own)) ∙ facts.spoilt_own (place_of e.port) other_e old_e.0 same_part)
          (sym (part_is v e both_spoilt _ e_both) ∙ a) in
          let far_is : unsound old_q.0 ≡ far = one_some _ (unsound old_q.0) far
          (ap (λ (x : App). v.part (place_of q.port) (spoilt_at x (place_of q.port) node_q.0)) (sym (app_is v.app app own)) ∙ facts.spoilt_own (place_of q.port) node_q.0 old_q.0 old_q.1)
          (sym (part_is v q both_spoilt _ q_both) ∙ b) in
          let sent : List Wire = inbox q w ++ outbox e w in
          let coming : List Wire = others (inbox e w) ++ outbox q w in
          subst (λ (ms : BothMarks). Boxed v near far (inbox q both_spoilt) (outbox e both_spoilt) (inbox e both_spoilt) (outbox q both_spoilt) ms) (sym (are.here v.app true own))
          (met_same v (both_spoiling recount marks) (unsound old_e.0) near (unsound old_q.0) far (inbox q w) (inbox q both_spoilt)
          (outbox e w) (outbox e both_spoilt) (others (inbox e w)) (inbox e both_spoilt) (outbox q w) (outbox q both_spoilt)
          near_is far_is in_far out_near in_near out_far
          (record {
            duties = record {
              duties = record {
                near_rows = met_before.duties.duties.near_rows;
                far_rows = met_before.duties.duties.far_rows;
                near_duty = links.unsound (unsound old_e.0) (unsound old_q.0) (filter_map v.said sent) (filter_map v.said coming) refl;
                far_duty = links.unsound (unsound old_q.0) (unsound old_e.0) (filter_map v.said coming) (filter_map v.said sent) refl;
              };
              near_clear = record { nothing_sent = λ is. let never : false ≡ true = is in cc; nothing_held = λ is k. let never : false ≡ true = is in cc };
              far_clear = record { nothing_sent = λ is. let never : false ≡ true = is in cc; nothing_held = λ is k. let never : false ≡ true = is in cc };
            };
            near_flying = met_before.near_flying;
            far_flying = counted;
            near_clear = λ is. let never : false ≡ true = is in cc;
            far_clear = λ is. let never : false ≡ true = is in cc;
          }))))

      -- those of another application are sound as before, and what comes in says the same
      other_spoilt : is_same_app v.app app ≡ false → filter_map v.said (others (inbox e w) ++ outbox q w) ≡ filter_map v.said (inbox e w ++ outbox q w)
          → (mark_at v.app q w.marks).flying ≡ count_of v.app (others (inbox e w) ++ outbox q w)
          → AreMet v (record (with_unsound_ends app e changed) { marks = m' })
      other_spoilt other same_said counted =
          whole (one_link v w.tree laws links.turns w both_spoilt w.marks m' e has else_same else_marks met (λ near far a b.
          let near_is : old_e.0 ≡ near = one_some _ old_e.0 near (facts.spoilt_other app (place_of e.port) (place_of e.port) other_e other ∙ same_part) (sym (part_is v e both_spoilt _ e_both) ∙ a) in
          let far_is : old_q.0 ≡ far = one_some _ old_q.0 far (facts.spoilt_other app (place_of q.port) (place_of q.port) node_q.0 other ∙ old_q.1) (sym (part_is v q both_spoilt _ q_both) ∙ b) in
          subst (λ (ms : BothMarks). Boxed v near far (inbox q both_spoilt) (outbox e both_spoilt) (inbox e both_spoilt) (outbox q both_spoilt) ms) (sym (are.here v.app false other))
          (met_same v marks old_e.0 near old_q.0 far (inbox q w) (inbox q both_spoilt) (outbox e w)
          (outbox e both_spoilt) (others (inbox e w)) (inbox e both_spoilt) (outbox q w) (outbox q both_spoilt)
          near_is far_is in_far out_near in_near out_far
          (record {
            duties = subst (λ (ms : List (Messages K C)). AreMarkedDutiesMet v.cmp
                (record { link = record { near = old_e.0; far = old_q.0; sent = filter_map v.said (inbox q w ++ outbox e w); coming = ms }; near = flags_of marks.0; far = flags_of marks.1 }))
                (sym same_said) met_before.duties;
            near_flying = met_before.near_flying;
            far_flying = counted;
            near_clear = met_before.near_clear;
            far_clear = met_before.far_clear;
          }))))

    -- the PDUs that come in, and those that are to go out at the other end
    split : (mark_at v.app q w.marks).flying ≡ count_of v.app (inbox e w) + count_of v.app (outbox q w)
    split = met_before.far_flying ∙ count_append v.app (inbox e w) (outbox q w)

    met_lose : (index : ℕ) → AreMet v (world_step (Lose e index) w).0
    met_lose index = by (app_of e index w) refl
      where
        by : (a : Option App) → app_of e index w ≡ a → AreMet v (record (with_loss e index a w).0 { marks = marks_losing e a w.marks })
        by None is = met
        by (Some app) is = either (is_same_app v.app app) refl
          where
            are : AreChanged w.tree w.marks (marks_losing e (Some app) w.marks) app e both_lost
            are = are_changed w.tree w.marks of.tree of.of app e both_lost laws has

            wire : (x : Wire) × (slice_get (inbox e w) index ≡ Some x) × (x.app ≡ app)
            wire = wire_at (inbox e w) index app is

            fewer : (b : Bool) → is_same_app v.app app ≡ b → count_of v.app (without index (inbox e w)) + one_of b ≡ count_of v.app (inbox e w)
            fewer b e' = ap (λ (b : Bool). count_of v.app (without index (inbox e w)) + one_of b) (sym (ap (is_same_app v.app) wire.2 ∙ e')) ∙ count_without v.app index (inbox e w) wire.0 wire.1

            either : (b : Bool) → is_same_app v.app app ≡ b
                → AreMet v (record (with_unsound_ends app e (with_changed e.node (lost_at (place_of e.port) index) w)) { marks = marks_losing e (Some app) w.marks })
            either true own =
                own_spoilt (without index) app with_fewer (marks_losing e (Some app) w.marks) are own
                (lost_count (mark_at v.app q w.marks).flying (count_of v.app (inbox e w)) (count_of v.app (outbox q w)) _ (count_of v.app (without index (inbox e w))) split (fewer true own)
                (count_append v.app (without index (inbox e w)) (outbox q w)))
            either false other =
                other_spoilt (without index) app with_fewer (marks_losing e (Some app) w.marks) are other
                (nothing_lost v.said index (inbox e w) (outbox q w) wire.0 wire.1 (facts.others_say wire.0 (ap (is_same_app v.app) wire.2 ∙ other)))
                (unlost_count (mark_at v.app q w.marks).flying (count_of v.app (inbox e w)) (count_of v.app (outbox q w)) _ (count_of v.app (without index (inbox e w))) split (fewer false other)
                (count_append v.app (without index (inbox e w)) (outbox q w)))

    met_forge : (index : ℕ) (wire : Wire) → AreMet v (world_step (Forge e index wire) w).0
    met_forge index wire = by (reaches e index w)
      where
        by : (b : Bool) → AreMet v (record (with_forgery e index wire b w).0 { marks = marks_forging e wire.app b w.marks })
        by false = met
        by true = either (is_same_app v.app wire.app) refl
          where
            are : AreChanged w.tree w.marks (marks_forging e wire.app true w.marks) wire.app e both_forged
            are = are_changed w.tree w.marks of.tree of.of wire.app e both_forged laws has

            more : (b : Bool) → is_same_app v.app wire.app ≡ b → count_of v.app (with_wire index wire (inbox e w)) ≡ count_of v.app (inbox e w) + one_of b
            more b e' = count_with v.app index wire (inbox e w) ∙ ap (λ (b : Bool). count_of v.app (inbox e w) + one_of b) e'

            either : (b : Bool) → is_same_app v.app wire.app ≡ b
                → AreMet v (record (with_unsound_ends wire.app e (with_changed e.node (forged_at (place_of e.port) index wire) w)) { marks = marks_forging e wire.app true w.marks })
            either true own =
                own_spoilt (with_wire index wire) wire.app with_more (marks_forging e wire.app true w.marks) are own
                (copied_count (mark_at v.app q w.marks).flying (count_of v.app (inbox e w)) (count_of v.app (outbox q w)) _ split
                (count_append v.app (with_wire index wire (inbox e w)) (outbox q w) ∙ ap (λ (n : ℕ). n + count_of v.app (outbox q w)) (more true own)))
            either false other =
                other_spoilt (with_wire index wire) wire.app with_more (marks_forging e wire.app true w.marks) are other
                (nothing_added v.said index (inbox e w) (outbox q w) wire (facts.others_say wire other))
                (same_count (mark_at v.app q w.marks).flying (count_of v.app (inbox e w)) (count_of v.app (outbox q w)) _ (count_of v.app (with_wire index wire (inbox e w))) split (more false other)
                (count_append v.app (with_wire index wire (inbox e w)) (outbox q w)))

  -- ---- every event

  pub met_event : (event : WorldEvent) (w : WorldState) → HasPortLaws w.tree → CanHappen event w → Base w → HasMarks w → AreMet v w → AreMet v (world_step event w).0
  met_event (Request n request) w laws can base of met = met_request n request w laws met
  met_event (Port n port step) w laws can base of met = met_port (record { node = n; port = port }) step w laws can base of met
  met_event (Lose p index) w laws can base of met = met_lose p w laws can base of met index
  met_event (Repeat p index) w laws can base of met = met_repeat p index w laws can base of met
  met_event (Forge p index wire) w laws can base of met = met_forge p w laws can.0 base of met index wire
  met_event (Carry p) w laws can base of met = met_carry p w laws can base of met
  met_event Clock w laws can base of met = met_clock w laws met
