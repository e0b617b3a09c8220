-- What happens to the PDUs that wait at a node's link ports, and what every node keeps.
use Rattle.std.specs.Prelude.{◌≡◌, ◌≤◌, ◌^◌, ℕ, Bool, nat_le, nat_lt, List, ◌++◌, length, slice_set}
use Rattle.std.specs.List.{AllByRecursion}
use Rattle.srp_base.specs.declared.{mrp.App.App, mrp.App.TheVariants.Mvrp, mrp.App.TheVariants.Msrp}
use Rattle.mrp_participant.specs.Link.{with_repeat}
use Rattle.mvrp.specs.Side.{IsKept, spoilt_vlans}
use Rattle.msrp.specs.Side.{IsKept as IsKeptStreams, spoilt_streams}
use Rattle.node_core.specs.declared.types.Wire.{Wire}
use Rattle.node_core.specs.{Wires.AreShort, Wires.without, Wires.with_wire, State.NodeState, State.box_at}

-- these PDUs wait in the outbox at a place
abbrev pub with_outbox : ℕ → List Wire → NodeState → NodeState
with_outbox at wires s = record s { outboxes = slice_set s.outboxes at wires }

-- these PDUs wait in the inbox at a place
abbrev pub with_inbox : ℕ → List Wire → NodeState → NodeState
with_inbox at wires s = record s { inboxes = slice_set s.inboxes at wires }

-- these PDUs came in behind those that wait in an inbox
abbrev pub with_carried : ℕ → List Wire → NodeState → NodeState
with_carried at wires s = with_inbox at (box_at at s.inboxes ++ wires) s

-- whether a PDU of an index, counted from 0, waits in an inbox
abbrev pub has_index : ℕ → ℕ → NodeState → Bool
has_index at index s = nat_lt index (length (box_at at s.inboxes))

-- the PDU of an index is lost from an inbox
abbrev pub lost_at : ℕ → ℕ → NodeState → NodeState
lost_at at index s = with_inbox at (without index (box_at at s.inboxes)) s

-- it is there twice, the copy right behind its original
abbrev pub repeated_at : ℕ → ℕ → NodeState → NodeState
repeated_at at index s = with_inbox at (with_repeat index (box_at at s.inboxes)) s

-- whether an inbox reaches to an index, so that a PDU may stand there: the index is at most the
-- number of those that wait
abbrev pub has_place : ℕ → ℕ → NodeState → Bool
has_place at index s = nat_le index (length (box_at at s.inboxes))

-- a PDU that no neighbour sent stands at the place of an index in an inbox
abbrev pub forged_at : ℕ → ℕ → Wire → NodeState → NodeState
forged_at at index wire s = with_inbox at (with_wire index wire (box_at at s.inboxes)) s

-- the participant of an application at a place isn't sound any more
abbrev pub spoilt_at : App → ℕ → NodeState → NodeState
spoilt_at Mvrp at s = record s { vlans = spoilt_vlans at s.vlans }
spoilt_at Msrp at s = record s { streams = spoilt_streams at s.streams }

-- What every node keeps: what each application keeps of it, an inbox and an outbox for each of at
-- most 255 link ports, short PDUs, a clock that stands below the end of time, and the same moment
-- at the ledgers.
pub record IsKeptNode (s : NodeState) : Type 0 where
  pub vlans : IsKept s.vlans
  pub streams : IsKeptStreams s.streams
  pub same_ports : length s.streams.ports ≡ length s.vlans.parts
  pub inboxes : length s.inboxes ≡ length s.vlans.parts
  pub outboxes : length s.outboxes ≡ length s.vlans.parts
  pub few : length s.vlans.parts ≤ 255
  pub short_in : AllByRecursion AreShort s.inboxes
  pub short_out : AllByRecursion AreShort s.outboxes
  pub clock : s.clock.0 ≤ 2 ^ 61
  pub moment : s.streams.moment ≡ s.clock.0
