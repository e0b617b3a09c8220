-- A step of a node that its ports share, as one thread makes it, and as it is noted.
use Rattle.std.specs.Prelude.{ℕ, Bool, cond, ◌&&◌, nat_lt, nat_le, List, [], ◌∷◌, ◌++◌, Option, Some, None, slice_get}
use Rattle.srp_base.specs.declared.{numbers.PortNo.PortNo, mrp.App.App}
use Rattle.attribute_propagation.specs.Ports.{place_of}
use Rattle.node_core.specs.{Leaving.has_leave_all, Leaving.is_leave_all_at, State.NodeState, State.ports_of, State.box_at, Step.node_step}
use Rattle.node_core.specs.declared.{types.NodeEvent.TheVariants.Port, types.NodeStep.NodeStep, types.PortStep.PortStep, types.PortStep.TheVariants.Work, types.PortStep.TheVariants.Send, types.StepReply.StepReply, types.StepReply.TheVariants.Nothing, types.StepReply.TheVariants.Sent, types.Wire.Wire}
use Rattle.bridge_book.specs.declared.{notice.Notice.Notice, notice.Told.Told, shared.PortAsk.PortAsk}
use Rattle.bridge_book.specs.declared.notice.Notice.TheVariants.{Quiet, Took, Said}

-- a node, the steps that were made of it with their answers, and what each of them did to the PDUs
-- on its port's link
pub record Shared : Type 0 where
  pub node : NodeState
  pub steps : List NodeStep
  pub notices : List Notice

-- ---- what a step does to the PDUs on its port's link (IEEE Std 802.1Q-2018, 10.7.10: LeaveAll)

-- the PDU that waits first is taken, where there is one
abbrev pub notice_of_first : Option Wire → Notice
notice_of_first None = Quiet
notice_of_first (Some wire) = Took wire.app (has_leave_all wire)

-- an application has said a PDU, which may have LeaveAll, or was silent, as its answer says
abbrev pub notice_of_saying : App → (leave_all : Bool) → StepReply → Notice
notice_of_saying app leave_all (Sent octets) = Said app leave_all
notice_of_saying app leave_all _ = Quiet

-- what a step has done that was going to do this, by its answer: an application that was to say
-- something may have been silent
abbrev pub with_reply : Notice → StepReply → Notice
with_reply (Said app leave_all) reply = notice_of_saying app leave_all reply
with_reply Quiet reply = Quiet
with_reply (Took app leave_all) reply = Took app leave_all

-- what a step of the port at a place of a node with this answer does to them
abbrev pub notice_of : PortStep → ℕ → StepReply → NodeState → Notice
notice_of Work at reply s = notice_of_first (slice_get (box_at at s.inboxes) 0)
notice_of (Send app) at reply s = notice_of_saying app (is_leave_all_at app at s) reply
notice_of _ at reply s = Quiet

-- ---- one step

-- whether a port is a link port of a node with so many
abbrev pub is_port : PortNo → ℕ → Bool
is_port port count = nat_lt 0 port.0 && nat_le port.0 count

-- what a node is told of a step of its port: the node's answer, and what it did to the PDUs
abbrev pub told_of : PortAsk → StepReply → NodeState → Told
told_of ask reply s = record { reply = reply; notice = notice_of ask.step (place_of ask.port) reply s }

-- a link port's step is the node's own
abbrev pub port_does : NodeState → PortAsk → Told × NodeState
port_does node ask =
    (told_of ask (node_step (Port ask.port ask.step) node).1 node, (node_step (Port ask.port ask.step) node).0)

-- nothing is answered, and nothing done
abbrev pub told_nothing : Told
told_nothing = record { reply = Nothing; notice = Quiet }

-- what is told of a port's step, and the node after it; for what isn't a link port of the node
-- nothing happens
abbrev pub node_does : NodeState → PortAsk → Told × NodeState
node_does node ask = cond (is_port ask.port (ports_of node)) (port_does node ask) (told_nothing, node)

-- a step that was made, with its answer
abbrev pub noted : PortAsk → StepReply → NodeStep
noted ask reply = record { port = ask.port; step = ask.step; reply = reply }

-- the same, with the note of it
abbrev pub shared_does : Shared → PortAsk → Told × Shared
shared_does shared ask =
    let done = node_does shared.node ask in
    (done.0, record { node = done.1; steps = shared.steps ++ noted ask done.0.reply ∷ []; notices = shared.notices ++ done.0.notice ∷ [] })
