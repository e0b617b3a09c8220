-- What a port sent and discarded in a run, as the answers of its steps tell.
use Rattle.std.specs.Prelude.{ℕ, ◌==◌, Bool, true, false, ◌&&◌, List, map, filter, Option, Some, None}
use Rattle.srp_base.specs.declared.numbers.EgressPort.{EgressPort}
use Rattle.report_words.specs.declared.tally.Tally.{Tally}
use Rattle.report_words.specs.Tally.{tally_by, with_answer}
use Rattle.mmrp.specs.declared.{events.GroupReply.GroupReply, events.GroupReply.TheVariants.Sent, events.GroupReply.TheVariants.Discarded}

-- ---- what the steps of a port answered, in order

-- whether two ports are one
abbrev pub is_same_port : EgressPort → EgressPort → Bool
is_same_port p q = p.node.0 == q.node.0 && p.port.0 == q.port.0

-- those of a port among the answers of all
abbrev pub replies_of : EgressPort → List (EgressPort × GroupReply) → List GroupReply
replies_of p replies = map (λ r. r.1) (filter (λ r. is_same_port r.0 p) replies)

-- ---- what they count

-- the octets of the PDU that a step sent, if it sent one
abbrev pub octets_sent : GroupReply → Option ℕ
octets_sent (Sent octets) = Some octets
octets_sent _ = None

-- whether a step took a malformed PDU from the inbox
abbrev pub is_discarded : GroupReply → Bool
is_discarded (Discarded place) = true
is_discarded _ = false

-- the number of PDUs sent, the sum of their octets, and the number of malformed PDUs
abbrev pub tally_of : List GroupReply → Tally
tally_of replies = tally_by octets_sent is_discarded replies

-- the tally with one answer more
abbrev pub with_reply : Tally → GroupReply → Tally
with_reply t reply = with_answer octets_sent is_discarded t reply
