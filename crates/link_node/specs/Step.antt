-- One step of a link port: the node afterwards, and what it answers.
use Rattle.std.specs.Prelude.{ℕ, Bool, if◌then◌else◌, List, [], ◌∷◌, ◌++◌, length, Option, Some, None, slice_set, Result, Ok, Err}
use Rattle.srp_base.specs.declared.numbers.Cs.{Cs}
use Rattle.attribute_propagation.specs.Ports.{count_of}
use Rattle.link_app.specs.{Wires.NamedOctets, Words.AppWords}
use Rattle.link_node.specs.declared.{steps.PortStep.PortStep, steps.StepReply.StepReply}
use Rattle.link_node.specs.declared.steps.PortStep.TheVariants.{Work, LeaveNow, LeaveAllNow, PeriodicNow, Due, Settle, Send}
use Rattle.link_node.specs.declared.steps.StepReply.TheVariants.{Nothing, Discarded, Received, Fired, Settled, Silent, Sent, Taken}
use Rattle.link_node.specs.{Boxes.box_at, State.NodeState, State.with_outbox}

-- the answer to a PDU by what its octets read as: so many events, or the place where they are
-- malformed
abbrev pub reply_of : Result ℕ ℕ → StepReply
reply_of (Ok count) = Received count
reply_of (Err place) = Discarded place

-- one timer fired, or none
abbrev pub fired_one : Bool → StepReply
fired_one fired = Fired (if fired then 1 else 0)

module _ {Name Key Request : Type 0} (w : AppWords Name Key Request) where
  -- a node after a step, and its answer
  abbrev pub Stepped : Type 0
  Stepped = NodeState w.State Name × StepReply

  -- the node with what a step made of its application, and an answer
  abbrev pub on_app : NodeState w.State Name → w.State → StepReply → Stepped
  on_app s app reply = (record s { app = app }, reply)

  -- the front of these PDUs is taken, and the others stay
  abbrev pub after_work : Cs → ℕ → List (NamedOctets Name) → NodeState w.State Name → Stepped
  after_work now at [] s = (s, Nothing)
  after_work now at (pdu ∷ pdus) s =
      on_app (record s { inboxes = slice_set s.inboxes at pdus })
      (w.after_receipt pdu.app now at pdu.octets s.app) (reply_of (w.reading pdu.app pdu.octets))

  -- a PDU more in an outbox, at its end
  abbrev pub with_said : Name → ℕ → List ℕ → NodeState w.State Name → NodeState w.State Name
  with_said n at octets s =
      with_outbox at (box_at at s.outboxes ++ (record { app = n; octets = octets } ∷ [])) s

  -- an application says these octets, which go to the end of the outbox, or it has none to say and
  -- is silent
  abbrev pub sent_octets : Name → Cs → ℕ → Option (List ℕ) → NodeState w.State Name → Stepped
  sent_octets n now at None s = (s, Silent)
  sent_octets n now at (Some octets) s =
      on_app (with_said n at octets s) (w.after_sending n now at s.app)
      (Sent (count_of (length octets)))

  -- a step of the link port at a place, at a moment
  abbrev pub port_step : Cs → PortStep Name Key → ℕ → NodeState w.State Name → Stepped
  port_step now Work at s = after_work now at (box_at at s.inboxes) s
  port_step now (LeaveNow key) at s =
      on_app s (w.after_leave key at s.app) (fired_one (w.is_leaving key at s.app))
  port_step now (LeaveAllNow n) at s = on_app s (w.after_leave_all n now at s.app) (Fired 1)
  port_step now (PeriodicNow n) at s = on_app s (w.after_periodic n at s.app) (Fired 1)
  port_step now Due at s =
      on_app s (w.after_due now at s.app) (Fired (count_of (w.due_count now at s.app)))
  port_step now Settle at s =
      on_app s (w.after_settling at s.app) (Settled (count_of (w.awaiting_count at s.app)))
  port_step now (Send n) at s = sent_octets n now at (w.octets_to_say n now at s.app) s

  -- what the application of a station asks for
  abbrev pub after_asking : Request → NodeState w.State Name → Stepped
  after_asking request s = on_app s (w.after_request request s.app) Taken

  -- the clock has come to a moment
  abbrev pub clocked_node : Cs → NodeState w.State Name → NodeState w.State Name
  clocked_node now s = record s { app = w.after_clock now s.app }
