-- Each event of a network keeps that its marks are those of its tree.
use Rattle.std.proofs.Common.{◌≡◌, Bool, true, false, ◌&&◌, [], sym, ap, subst, ◌∙◌}
use Rattle.std.specs.Prelude.{slice_get, Option, Some, None}
use Rattle.srp_base.specs.declared.{numbers.EgressPort.EgressPort, mrp.App.App}
use Rattle.tree_topology.specs.{Topology.HasPort, Ports.peer_of, PortLaws.HasPortLaws}
use Rattle.attribute_propagation.specs.Ports.{place_of}
use Rattle.node_core.specs.declared.{types.Wire.Wire, types.NodeEvent.NodeEvent, types.PortStep.PortStep}
use Rattle.node_core.specs.declared.types.NodeEvent.TheVariants as node_events
use Rattle.node_core.specs.declared.types.PortStep.TheVariants as steps
use Rattle.node_core.specs.declared.types.StepReply.TheVariants.{Nothing, Discarded, Received, Fired, Settled, Silent, Sent, Taken}
use Rattle.node_core.specs.{Leaving.has_leave_all, Links.with_outbox, Links.with_carried, State.NodeState, Step.node_step}
use Rattle.world_core.specs.{WorldEvent, Request, Port, Lose, Repeat, Forge, Carry, Clock, WorldReply, Step, Done, MarksState, IsOfTree, mark_at, both_sent, both_took, both_lost, both_copied, both_forged, WorldState, with_changed, inbox, outbox, app_of, reaches, step_of_node, has_leave_all_next, marks_taking, marks_stepping, marks_losing, marks_copying, marks_forging, world_step, CanHappen}
use Rattle.world_core.specs.declared.events.WorldReply.TheVariants.{Missed}
use Rattle.world_core.proofs.{Nodes.same_tree, Nodes.same_marks, Nodes.stepped_is, MarkSteps.are_changed, EventSteps.HasMarks, Runs.tree_stays}

-- these marks are those of a network's tree
record AreOf (w : WorldState) (m : MarksState) : Type 0 where
  tree : m.tree ≡ w.tree
  of : IsOfTree m

marks_same : (w u : WorldState) → u.tree ≡ w.tree → u.marks ≡ w.marks → HasMarks w → HasMarks u
marks_same w u e f of =
    record { tree = ap (λ (m : MarksState). m.tree) f ∙ (of.tree ∙ sym e); of = subst IsOfTree (sym f) of.of }

marks_with : (w u : WorldState) (m : MarksState) → u.tree ≡ w.tree → AreOf w m → HasMarks (record u { marks = m })
marks_with w u m e are = record { tree = are.tree ∙ sym e; of = are.of }

module _ (p : EgressPort) (w : WorldState) (laws : HasPortLaws w.tree) (has : HasPort w.tree p) (of : HasMarks w) where
  as_before : AreOf w w.marks
  as_before = record { tree = of.tree; of = of.of }

  of_taking : (o : Option Wire) → AreOf w (marks_taking p o w.marks)
  of_taking None = as_before
  of_taking (Some wire) =
      let are = are_changed w.tree w.marks of.tree of.of wire.app p (both_took ((mark_at wire.app p w.marks).clear && has_leave_all wire)) laws has in
      record { tree = are.tree_is; of = are.of }

  of_stepping : (step : PortStep) (r : WorldReply) → AreOf w (marks_stepping p step r w)
  of_stepping steps.Work r = of_taking (slice_get (inbox p w) 0)
  of_stepping (steps.Send app) (Step (Sent octets)) =
      let are = are_changed w.tree w.marks of.tree of.of app p (both_sent (has_leave_all_next app p w)) laws has in
      record { tree = are.tree_is; of = are.of }
  of_stepping (steps.Send app) (Step Nothing) = as_before
  of_stepping (steps.Send app) (Step (Discarded place)) = as_before
  of_stepping (steps.Send app) (Step (Received n)) = as_before
  of_stepping (steps.Send app) (Step (Fired n)) = as_before
  of_stepping (steps.Send app) (Step (Settled n)) = as_before
  of_stepping (steps.Send app) (Step Silent) = as_before
  of_stepping (steps.Send app) (Step Taken) = as_before
  of_stepping (steps.Send app) Done = as_before
  of_stepping (steps.Send app) Missed = as_before
  of_stepping (steps.LeaveNow key) r = as_before
  of_stepping (steps.LeaveAllNow app) r = as_before
  of_stepping (steps.PeriodicNow app) r = as_before
  of_stepping steps.Due r = as_before
  of_stepping steps.Settle r = as_before

  of_losing : (o : Option App) → AreOf w (marks_losing p o w.marks)
  of_losing None = as_before
  of_losing (Some app) = let are = are_changed w.tree w.marks of.tree of.of app p both_lost laws has in record { tree = are.tree_is; of = are.of }

  of_copying : (o : Option App) → AreOf w (marks_copying p o w.marks)
  of_copying None = as_before
  of_copying (Some app) = let are = are_changed w.tree w.marks of.tree of.of app p both_copied laws has in record { tree = are.tree_is; of = are.of }

  of_forging : (app : App) (b : Bool) → AreOf w (marks_forging p app b w.marks)
  of_forging app false = as_before
  of_forging app true = let are = are_changed w.tree w.marks of.tree of.of app p both_forged laws has in record { tree = are.tree_is; of = are.of }

pub marks_event : (e : WorldEvent) (w : WorldState) → HasPortLaws w.tree → CanHappen e w → HasMarks w → HasMarks (world_step e w).0
marks_event (Request n request) w laws can of =
    let event : NodeEvent = node_events.Request request in
    let change : NodeState → NodeState = λ s. (node_step event s).0 in
    subst HasMarks (stepped_is n event w) (marks_same w (with_changed n change w) (same_tree n change w) (same_marks n change w) of)
marks_event (Port n port step) w laws can of =
    let p : EgressPort = record { node = n; port = port } in
    marks_with w (world_step (Port n port step) w).0 (marks_stepping p step (step_of_node n (node_events.Port port step) w).1 w) (tree_stays (Port n port step) w)
    (of_stepping p w laws can of step (step_of_node n (node_events.Port port step) w).1)
marks_event (Lose p index) w laws can of =
    marks_with w (world_step (Lose p index) w).0 (marks_losing p (app_of p index w) w.marks) (tree_stays (Lose p index) w) (of_losing p w laws can of (app_of p index w))
marks_event (Repeat p index) w laws can of =
    marks_with w (world_step (Repeat p index) w).0 (marks_copying p (app_of p index w) w.marks) (tree_stays (Repeat p index) w) (of_copying p w laws can of (app_of p index w))
marks_event (Forge p index wire) w laws can of =
    marks_with w (world_step (Forge p index wire) w).0 (marks_forging p wire.app (reaches p index w) w.marks) (tree_stays (Forge p index wire) w)
    (of_forging p w laws can.0 of wire.app (reaches p index w))
marks_event (Carry p) w laws can of =
    let q = peer_of w.tree.links p in
    let half = with_changed p.node (with_outbox (place_of p.port) []) w in
    marks_same w (world_step (Carry p) w).0 (tree_stays (Carry p) w)
    (same_marks q.node (with_carried (place_of q.port) (outbox p w)) half ∙ same_marks p.node (with_outbox (place_of p.port) []) w) of
marks_event Clock w laws can of = record { tree = of.tree; of = of.of }
