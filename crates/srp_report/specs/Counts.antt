-- What a port sent and discarded in a run, as its journal tells.
use Rattle.std.specs.Prelude.{ℕ, ◌==◌, Bool, true, false, if◌then◌else◌, List, [], map, filter, flat_map, Option, Some, None}
use Rattle.srp_base.specs.declared.{numbers.PortNo.PortNo, numbers.EgressPort.EgressPort}
use Rattle.node_core.specs.declared.{types.NodeStep.NodeStep, types.StepReply.StepReply, types.StepReply.TheVariants.Sent, types.StepReply.TheVariants.Discarded}
use Rattle.world_core.specs.declared.{journal.NodeSteps.NodeSteps, journal.Tick.Tick}
use Rattle.report_words.specs.declared.tally.Tally.{Tally}
use Rattle.report_words.specs.Tally.{tally_by}

-- ---- what the steps of a port answered, in order

-- those of a port of a node, among the steps that the node made in a tick
abbrev pub replies_at : PortNo → List NodeStep → List StepReply
replies_at port made = map (λ st. st.reply) (filter (λ st. st.port.0 == port.0) made)

-- those of a port among the steps of all nodes in a tick
abbrev pub replies_in : EgressPort → List NodeSteps → List StepReply
replies_in p nodes = flat_map (λ ns. if ns.node.0 == p.node.0 then replies_at p.port ns.steps else []) nodes

-- those of a port in all ticks
abbrev pub replies_of : EgressPort → List Tick → List StepReply
replies_of p ticks = flat_map (λ tick. replies_in p tick.steps) ticks

-- ---- what they count

-- the octets of the PDU that a step sent, if it sent one
abbrev pub octets_sent : StepReply → Option ℕ
octets_sent (Sent octets) = Some octets
octets_sent _ = None

-- whether a step took a malformed PDU from the inbox
abbrev pub is_discarded : StepReply → Bool
is_discarded (Discarded place) = true
is_discarded _ = false

-- the number of PDUs sent, the sum of their octets, and the number of malformed PDUs
abbrev pub tally_of : List StepReply → Tally
tally_of replies = tally_by octets_sent is_discarded replies
