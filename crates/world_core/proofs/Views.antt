-- An application as the proofs of a network see it, and what each application shows of itself: the laws of its links, and what
-- a node's steps make of its participants. All else of the duties is proved once, for any application.
use Rattle.std.proofs.Common.{◌≡◌, ◌≢◌, ℕ, ◌<◌, Bool, true, false, ◌&&◌, if◌then◌else◌, List, ◌++◌, subst}
use Rattle.std.specs.Prelude.{Option, Some, None, slice_get}
use Rattle.std.specs.declared.cmp.Ordering.{Ordering}
use Rattle.srp_base.specs.declared.mrp.App.{App}
use Rattle.mrp_participant.specs.{Duty.IsDutyMet, State.State, State.Messages, Link.LinkEvent, MarkedLink.Mark, MarkedLink.MarkedLink, MarkedLink.IsNoMore, MarkedLink.AreMarkedDutiesMet, MarkedLink.after_marked_event, MarkedLink.other_marked_view}
use Rattle.node_core.specs.declared.{types.AppRequest.AppRequest, types.PortStep.PortStep, types.PortStep.TheVariants.Work, types.PortStep.TheVariants.Send, types.StepReply.StepReply, types.StepReply.TheVariants.Sent, types.Wire.Wire}
use Rattle.node_core.specs.declared.types.NodeEvent.TheVariants as node_events
use Rattle.node_core.specs.{Leaving.has_leave_all, Leaving.is_leave_all_at, Links.spoilt_at, Proper.IsProperNode, State.NodeState, State.box_at, State.ports_of, Step.node_step, Step.port_step}
use Rattle.world_core.specs.{BothMarks, is_same_app, both_sent, both_took, WorldState, IsLinkMet, AreDutiesMetIn}

-- the order of its keys, its participant at a place of a node, what a PDU says in it, and which application it is
pub record AppView (K C : Type 0) : Type 0 where
  pub cmp : K → K → Ordering
  pub part : ℕ → NodeState → Option (State K C)
  pub said : Wire → Option (Messages K C)
  pub app : App

-- ---- what a step of a port makes of the marks of its link, in an application

-- the marks after the front PDU was taken, if any
abbrev pub both_heard : App → Option Wire → BothMarks → BothMarks
both_heard app None marks = marks
both_heard app (Some wire) marks = if is_same_app app wire.app then both_took (marks.0.clear && has_leave_all wire) marks else marks

-- after an application has sent a PDU, or was silent
abbrev pub both_said : (own leave_all : Bool) → StepReply → BothMarks → BothMarks
both_said true leave_all (Sent octets) marks = both_sent leave_all marks
both_said _ leave_all _ marks = marks

abbrev pub both_stepped : App → PortStep → ℕ → NodeState → StepReply → BothMarks → BothMarks
both_stepped app Work at s reply marks = both_heard app (slice_get (box_at at s.inboxes) 0) marks
both_stepped app (Send other) at s reply marks = both_said (is_same_app app other) (is_leave_all_at other at s) reply marks
both_stepped app _ at s reply marks = marks

-- no change
abbrev pub both_same : BothMarks → BothMarks
both_same marks = marks

module _ {K C : Type 0} (v : AppView K C) where
  -- the duties on all links
  abbrev pub AreMet : WorldState → Type 0
  AreMet w = AreDutiesMetIn v.cmp v.part v.said v.app w

  -- what a link keeps with these participants, PDUs in flight and marks
  abbrev pub Met : State K C → State K C → List Wire → List Wire → BothMarks → Type 0
  Met near far sent coming marks = IsLinkMet v.cmp v.said v.app near far sent coming marks

  -- the same of the boxes at its far end and at its near end
  abbrev pub Boxed : State K C → State K C → List Wire → List Wire → List Wire → List Wire → BothMarks → Type 0
  Boxed near far far_in near_out near_in far_out marks = Met near far (far_in ++ near_out) (near_in ++ far_out) marks

  -- what a change of a node makes of the link of its port at a place is kept, with what it makes of the marks
  abbrev pub KeepsLink : ℕ → NodeState → NodeState → (BothMarks → BothMarks) → Type 0
  KeepsLink at s t after =
      (x y z : State K C) (far_in far_out : List Wire) (marks : BothMarks) → v.part at s ≡ Some x → v.part at t ≡ Some y
      → Boxed x z far_in (box_at at s.outboxes) (box_at at s.inboxes) far_out marks
      → Boxed y z far_in (box_at at t.outboxes) (box_at at t.inboxes) far_out (after marks)

  pub met_same : (marks : BothMarks) (x x' z z' : State K C) (a a' b b' c c' d d' : List Wire) → x ≡ x' → z ≡ z' → a ≡ a' → b ≡ b' → c ≡ c' → d ≡ d'
      → Boxed x z a b c d marks → Boxed x' z' a' b' c' d' marks
  met_same marks x x' z z' a a' b b' c c' d d' ex ez ea eb ec ed met =
      subst (λ (s : State K C). Boxed s z' a' b' c' d' marks) ex
      (subst (λ (s : State K C). Boxed x s a' b' c' d' marks) ez
      (subst (λ (ws : List Wire). Boxed x z ws b' c' d' marks) ea
      (subst (λ (ws : List Wire). Boxed x z a ws c' d' marks) eb
      (subst (λ (ws : List Wire). Boxed x z a b ws d' marks) ec
      (subst (λ (ws : List Wire). Boxed x z a b c ws marks) ed met)))))

-- the laws of a link with marks, as the public laws say them
pub record LinkLaws {K C : Type 0} (v : AppView K C) : Type 0 where
  pub base : ℕ
  pub octets : C → ℕ
  pub same : C → C → Bool
  pub event : (l : MarkedLink K C) (e : LinkEvent K C) → AreMarkedDutiesMet v.cmp l → AreMarkedDutiesMet v.cmp (after_marked_event base octets v.cmp same l e)
  pub turns : (l : MarkedLink K C) → AreMarkedDutiesMet v.cmp l → AreMarkedDutiesMet v.cmp (other_marked_view l)
  pub fewer : (l : MarkedLink K C) (near far : Mark) → IsNoMore near l.near → IsNoMore far l.far → AreMarkedDutiesMet v.cmp l
      → AreMarkedDutiesMet v.cmp (record l { near = near; far = far })
  pub unsound : (near far : State K C) (sent coming : List (Messages K C)) → near.sound ≡ false → IsDutyMet v.cmp near far sent coming

-- a participant that isn't sound any more
abbrev pub unsound : {K C : Type 0} → State K C → State K C
unsound x = record x { sound = false }

-- whether what a PDU says, if anything, has LeaveAll
abbrev pub says_leave_all : {K C : Type 0} → Option (Messages K C) → Bool
says_leave_all None = false
says_leave_all (Some m) = m.leave_all

-- what a node's steps make of the participants of the application
pub record StepFacts {K C : Type 0} (v : AppView K C) : Type 0 where
  -- it has a participant at each port, and only its PDUs say something to it
  pub there : (at : ℕ) (s : NodeState) → IsProperNode s → at < ports_of s → (x : State K C) × (v.part at s ≡ Some x)
  pub others_say : (wire : Wire) → is_same_app v.app wire.app ≡ false → v.said wire ≡ None
  -- what waits in the boxes is nothing to it, nor are requests and the clock
  pub boxes : (k : ℕ) (s : NodeState) (ins outs : List (List Wire)) → v.part k (record s { inboxes = ins; outboxes = outs }) ≡ v.part k s
  pub asked : (request : AppRequest) (k : ℕ) (s : NodeState) → v.part k (node_step (node_events.Request request) s).0 ≡ v.part k s
  pub ticked : (k : ℕ) (s : NodeState) → v.part k (node_step node_events.Clock s).0 ≡ v.part k s
  -- a step of a port leaves the participants of the others, and keeps what the port's link does
  pub apart : (step : PortStep) (at k : ℕ) (s : NodeState) → at ≢ k → v.part k (port_step step at s).0 ≡ v.part k s
  pub keeps : (step : PortStep) (at : ℕ) (s : NodeState) → IsProperNode s
      → KeepsLink v at s (port_step step at s).0 (both_stepped v.app step at s (port_step step at s).1)
  -- spoiling an application is of its participant at that place alone
  pub spoilt_own : (at : ℕ) (s : NodeState) (x : State K C) → v.part at s ≡ Some x → v.part at (spoilt_at v.app at s) ≡ Some (unsound x)
  pub spoilt_apart : (other : App) (at k : ℕ) (s : NodeState) → at ≢ k → v.part k (spoilt_at other at s) ≡ v.part k s
  pub spoilt_other : (other : App) (at k : ℕ) (s : NodeState) → is_same_app v.app other ≡ false → v.part k (spoilt_at other at s) ≡ v.part k s
