-- The network of a scenario at its start: its tree, and each node with its ports, nothing declared
-- but the Domain values of its nodes, and no PDU anywhere.
use Rattle.std.specs.Prelude.{◌≡◌, ℕ, Bool, true, false, ◌+◌, ◌*◌, ◌-◌, ◌%◌, ◌==◌, if◌then◌else◌, List, [], ◌∷◌, ◌++◌}
use Rattle.std.specs.List.{AllByRecursion}
use Rattle.srp_base.specs.declared.{numbers.Cs.Cs, ports.PortSetup.PortSetup}
use Rattle.topology_file.specs.declared.{entries.DomainWord.DomainWord, entries.LinkEntry.LinkEntry, entries.NodeEntry.NodeEntry}
use Rattle.topology_file.specs.declared.entries.DomainWord.TheVariants as words
use Rattle.topology_file.specs.Plan.{Plan}
use Rattle.applicant.specs.declared.Applicant.TheVariants.{Vp}
use Rattle.registrar.specs.declared.Registrar.TheVariants.{Empty}
use Rattle.leaveall.specs.declared.LeaveAll.TheVariants.{Passive}
use Rattle.mrp_participant.specs.declared.row.Row.{Row}
use Rattle.mrp_participant.specs.State.{State}
use Rattle.msrp_codec.specs.declared.{pdu.MsrpKey.MsrpKey, pdu.MsrpKey.TheVariants.Domain as DomainKey, pdu.MsrpContent.MsrpContent, pdu.MsrpContent.TheVariants.Domain as DomainContent}
use Rattle.mvrp.specs.Part.{Part}
use Rattle.msrp.specs.PortState.{PortState}
use Rattle.msrp.specs.declared.domain.DomainSet.{DomainSet}
use Rattle.msrp.specs.declared.domain.DomainSet.TheVariants.{Off, Nothing, OnlyA, Both}
use Rattle.node_core.specs.declared.types.Wire.{Wire}
use Rattle.node_core.specs.{State.NodeState, State.new_node, Proper.AsksNothing}
use Rattle.world_core.specs.{Marks.new_marks, World.WorldState}

-- the LeaveAll period of the end of a link with this number, in cs: the ends of link l have the
-- numbers 2l - 1 and 2l, so that ends don't all send LeaveAll at once (IEEE Std 802.1Q-2018,
-- 10.7.11: LeaveAllTime)
abbrev pub period_of : ℕ → Cs
period_of n = record { 0 = 1001 + 7 * (n % 64) }

-- what the end of a link with this number is set up with
abbrev pub setup_of : ℕ → LinkEntry → PortSetup
setup_of n l = record { rate = l.rate; delta_a = l.delta_a; delta_b = l.delta_b; latency = l.latency; period = period_of n }

-- the port of node x on link number n, if the link has the node as an end
abbrev pub end_setup : ℕ → ℕ → LinkEntry → List PortSetup
end_setup n x l =
    if l.a.0 == x then setup_of (2 * n - 1) l ∷ []
    else if l.b.0 == x then setup_of (2 * n) l ∷ []
    else []

-- the ports of node x in the order of its links, the first of which has number n
abbrev pub setups_from : ℕ → ℕ → List LinkEntry → List PortSetup
setups_from n x [] = []
setups_from n x (l ∷ links) = end_setup n x l ++ setups_from (n + 1) x links

-- the Domain values that a node declares at each of its ports, by the word of its entry; where the
-- scenario has no domains, they are off
abbrev pub domain_set : Bool → DomainWord → DomainSet
domain_set false word = Off
domain_set true words.Both = Both
domain_set true words.OnlyA = OnlyA
domain_set true words.Nothing = Nothing

-- the nodes of these entries, the first of which has number x
abbrev pub nodes_from : Plan → ℕ → List NodeEntry → List NodeState
nodes_from plan x [] = []
nodes_from plan x (n ∷ entries) =
    new_node n.kind n.id plan.leave_time plan.periodic (domain_set plan.domains n.domain) (setups_from 1 x plan.links)
    ∷ nodes_from plan (x + 1) entries

-- the network of a scenario at its start
abbrev pub world_of : Plan → WorldState
world_of plan = record { tree = plan.tree; nodes = nodes_from plan 1 plan.nodes; marks = new_marks plan.tree }

-- ---- what there is at the start, in plain numbers

-- a port's row of the Domain value of an SR class, with the VID 2: it is declared, nothing of it
-- was said yet, and none is registered (IEEE Std 802.1Q-2018, 35.2.2.9)
abbrev pub domain_row : ℕ → ℕ → Row MsrpKey MsrpContent
domain_row id priority = record {
  key = DomainKey id;
  applicant = Vp;
  content = DomainContent priority 2;
  registrar = Empty;
  heard = DomainContent priority 2;
  leave = record { 0 = 0 };
}

-- the rows of MSRP at each link port, by the word of its node: class A has the ID 6 and the
-- priority 3, class B 5 and 2; where the scenario has no domains there are none
abbrev pub domain_rows : Bool → DomainWord → List (Row MsrpKey MsrpContent)
domain_rows false word = []
domain_rows true words.Both = domain_row 5 2 ∷ domain_row 6 3 ∷ []
domain_rows true words.OnlyA = domain_row 6 3 ∷ []
domain_rows true words.Nothing = []

-- a participant has these rows alone, is to send no LeaveAll, and is sound
pub record HasRowsAlone {K C : Type 0} (those : List (Row K C)) (part : State K C) : Type 0 where
  pub rows : part.rows ≡ those
  pub leave_all : part.leave_all ≡ Passive
  pub sound : part.sound ≡ true

-- A node at its start: its clock is at 0, at no port anything is kept of a VID, and of MSRP these
-- rows alone, nothing is booked, no PDU waits, and its application asks for nothing.
pub record IsAtStart (rows : List (Row MsrpKey MsrpContent)) (s : NodeState) : Type 0 where
  pub clock : s.clock.0 ≡ 0
  pub vlans : AllByRecursion (λ (part : Part). HasRowsAlone [] part) s.vlans.parts
  pub streams : AllByRecursion (λ (port : PortState). HasRowsAlone rows port.part) s.streams.ports
  pub booked : AllByRecursion (λ (port : PortState). port.ledger.entries ≡ []) s.streams.ports
  pub inboxes : AllByRecursion (λ (wires : List Wire). wires ≡ []) s.inboxes
  pub outboxes : AllByRecursion (λ (wires : List Wire). wires ≡ []) s.outboxes
  pub asks : AsksNothing s
