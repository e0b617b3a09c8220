-- Which PDUs wait at a node after a step: a step of a port changes the boxes of that port alone.
use Rattle.std.proofs.Common.{◌≢◌, ℕ, List, [], ◌∷◌, refl}
use Rattle.std.specs.Prelude.{slice_set, Option, Some, None}
use Rattle.srp_base.specs.declared.{mrp.App.App, mrp.App.TheVariants.Mvrp, mrp.App.TheVariants.Msrp}
use Rattle.node_core.specs.declared.{types.AppRequest.AppRequest, types.NodeKey.TheVariants.Vlan, types.NodeKey.TheVariants.Srp, types.PortStep.PortStep, types.Wire.Wire}
use Rattle.node_core.specs.declared.types.AppRequest.TheVariants.{Declare, Withdraw, Talk, Hush, Listen, Unlisten}
use Rattle.node_core.specs.declared.types.NodeEvent.TheVariants as node_events
use Rattle.node_core.specs.declared.types.PortStep.TheVariants.{Work, LeaveNow, LeaveAllNow, PeriodicNow, Due, Settle, Send}
use Rattle.node_core.specs.{Links.spoilt_at, State.NodeState, State.box_at, Step.node_step, Step.port_step, Step.after_work, Step.octets_to_say, Step.sent_octets}
use Rattle.world_core.proofs.{Boxes.box_other, Nodes.SameBoxes}

pub asked_boxes : (request : AppRequest) (k : ℕ) (s : NodeState) → SameBoxes k s (node_step (node_events.Request request) s).0
asked_boxes (Declare vid) k s = record { inbox = refl; outbox = refl }
asked_boxes (Withdraw vid) k s = record { inbox = refl; outbox = refl }
asked_boxes (Talk talker) k s = record { inbox = refl; outbox = refl }
asked_boxes (Hush stream) k s = record { inbox = refl; outbox = refl }
asked_boxes (Listen stream) k s = record { inbox = refl; outbox = refl }
asked_boxes (Unlisten stream) k s = record { inbox = refl; outbox = refl }

taken_boxes : (app : App) (at k : ℕ) (octets : List ℕ) (wires : List Wire) (s : NodeState) → at ≢ k
    → SameBoxes k s (Rattle.node_core.specs.Step.worked_app app at octets (record s { inboxes = slice_set s.inboxes at wires })).0
taken_boxes Mvrp at k octets wires s ne = record { inbox = box_other s.inboxes at k wires ne; outbox = refl }
taken_boxes Msrp at k octets wires s ne = record { inbox = box_other s.inboxes at k wires ne; outbox = refl }

worked_boxes : (at k : ℕ) (wires : List Wire) (s : NodeState) → at ≢ k → SameBoxes k s (after_work at wires s).0
worked_boxes at k [] s ne = record { inbox = refl; outbox = refl }
worked_boxes at k (wire ∷ wires) s ne = taken_boxes wire.app at k wire.octets wires s ne

sent_boxes : (app : App) (at k : ℕ) (o : Option (List ℕ)) (s : NodeState) → at ≢ k → SameBoxes k s (sent_octets app at o s).0
sent_boxes app at k None s ne = record { inbox = refl; outbox = refl }
sent_boxes Mvrp at k (Some octets) s ne = record { inbox = refl; outbox = box_other s.outboxes at k _ ne }
sent_boxes Msrp at k (Some octets) s ne = record { inbox = refl; outbox = box_other s.outboxes at k _ ne }

pub step_boxes : (step : PortStep) (at k : ℕ) (s : NodeState) → at ≢ k → SameBoxes k s (port_step step at s).0
step_boxes Work at k s ne = worked_boxes at k (box_at at s.inboxes) s ne
step_boxes (LeaveNow (Vlan vid)) at k s ne = record { inbox = refl; outbox = refl }
step_boxes (LeaveNow (Srp key)) at k s ne = record { inbox = refl; outbox = refl }
step_boxes (LeaveAllNow Mvrp) at k s ne = record { inbox = refl; outbox = refl }
step_boxes (LeaveAllNow Msrp) at k s ne = record { inbox = refl; outbox = refl }
step_boxes (PeriodicNow Mvrp) at k s ne = record { inbox = refl; outbox = refl }
step_boxes (PeriodicNow Msrp) at k s ne = record { inbox = refl; outbox = refl }
step_boxes Due at k s ne = record { inbox = refl; outbox = refl }
step_boxes Settle at k s ne = record { inbox = refl; outbox = refl }
step_boxes (Send app) at k s ne = sent_boxes app at k (octets_to_say app at s) s ne

pub spoilt_boxes : (app : App) (at k : ℕ) (s : NodeState) → SameBoxes k s (spoilt_at app at s)
spoilt_boxes Mvrp at k s = record { inbox = refl; outbox = refl }
spoilt_boxes Msrp at k s = record { inbox = refl; outbox = refl }
