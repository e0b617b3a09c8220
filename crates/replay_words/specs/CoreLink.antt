-- A link between two nodes of this project beside a capture of it: at each end a participant of each
-- application of MRP, which go by ticks, one in each hundredth of a second (link_replay), in which
-- they send or wait, as nodes do that send in every twentieth; and the frames that were captured in
-- them.
use Rattle.std.specs.Prelude.{◌≡◌, ℕ, ◌/◌, Bool, true, false, nat_lt, List, [], ◌∷◌, ◌++◌, flat_map, length, Option, Some, None, Result, Ok, Err}
use Rattle.std.specs.{Ordering.nat_cmp, List.AllByRecursion}
use Rattle.srp_base.specs.declared.{numbers.Cs.Cs, mrp.MrpEvent.MrpEvent}
use Rattle.capture_file.specs.Packets.{Packet}
use Rattle.flat_side.specs.Part.{same_content as same_nothing}
use Rattle.link_replay.specs.declared.lines.End.{End}
use Rattle.link_replay.specs.{Ticks.Asks, Ticks.Tick, Ticks.Pair, Ticks.AreFresh, Ticks.IsSentByBoth, Ticks.pair_after, Ticks.next_moment}
use Rattle.mmrp_codec.specs.{Meaning.mmrp_reading, declared.pdu.GroupPdu.GroupPdu}
use Rattle.mrp_frames.specs.Frames.{Seen, frame_in}
use Rattle.mrp_participant.specs.State.{Messages}
use Rattle.mrpdu_codec.specs.declared.form.AppForm.{AppForm}
use Rattle.mrpdu_codec.specs.declared.form.AppForm.TheVariants.{Mvrp, Msrp, Mmrp}
use Rattle.msrp.specs.Part.{key_cmp, same_content}
use Rattle.msrp_codec.specs.{Content.base_octets, Content.octets_of, Meaning.msrp_reading, Writing.in_type_order}
use Rattle.msrp_codec.specs.declared.pdu.{MsrpKey.MsrpKey, MsrpContent.MsrpContent, MsrpPdu.MsrpPdu}
use Rattle.mvrp.specs.Part.{base as vlan_base, octets as vlan_octets}
use Rattle.mvrp_codec.specs.{Meaning.mvrp_reading, declared.pdu.MvrpPdu.MvrpPdu}
use Rattle.replay_words.specs.declared.{ends.Ends.Ends, counts.Counts.Counts}
use Rattle.replay_words.specs.{Apps.group_base, Apps.group_octets, Apps.vlan_messages, Apps.group_messages, Ends.end_at, Watched.watched_judging_text, Seen.LinkSeen, Seen.arrived, Seen.counts_text}

-- ---- what captured frames say

-- attributes without content, and streams
abbrev pub PlainSaid : Type 0
PlainSaid = End × Messages ℕ (Unit {0})

abbrev pub StreamsSaid : Type 0
StreamsSaid = End × Messages MsrpKey MsrpContent

-- what an end says by the reading of its octets; malformed ones say nothing
abbrev pub vlans_read : End → Result MvrpPdu ℕ → List PlainSaid
vlans_read who (Ok pdu) = (who, vlan_messages pdu) ∷ []
vlans_read who (Err place) = []

abbrev pub streams_read : End → Result MsrpPdu ℕ → List StreamsSaid
streams_read who (Ok pdu) = (who, record { leave_all = pdu.leave_all; events = pdu.events }) ∷ []
streams_read who (Err place) = []

abbrev pub groups_read : End → Result GroupPdu ℕ → List PlainSaid
groups_read who (Ok pdu) = (who, group_messages pdu) ∷ []
groups_read who (Err place) = []

-- what an end says of an application in the octets of a PDU of any of them
abbrev pub vlans_said : End → AppForm → List ℕ → List PlainSaid
vlans_said who Mvrp octets = vlans_read who (mvrp_reading octets)
vlans_said who Msrp octets = []
vlans_said who Mmrp octets = []

abbrev pub streams_said : End → AppForm → List ℕ → List StreamsSaid
streams_said who Mvrp octets = []
streams_said who Msrp octets = streams_read who (msrp_reading octets)
streams_said who Mmrp octets = []

abbrev pub groups_said : End → AppForm → List ℕ → List PlainSaid
groups_said who Mvrp octets = []
groups_said who Msrp octets = []
groups_said who Mmrp octets = groups_read who (mmrp_reading octets)

module _ {X : Type 0} (said : End → AppForm → List ℕ → List X) where
  -- what a frame of MRP says, by the end that sent it, if it is one
  abbrev pub said_from : Seen → Option End → List X
  said_from seen None = []
  said_from seen (Some who) = said who seen.app seen.pdu

  -- what a captured frame says, by the frame of MRP that it is, if it is one
  abbrev pub said_in : Ends → Option Seen → List X
  said_in ends None = []
  said_in ends (Some seen) = said_from seen (end_at ends seen.address)

  -- what captured frames say, in order
  abbrev pub all_said : Ends → List Packet → List X
  all_said ends frames = flat_map (λ p. said_in ends (frame_in p)) frames

-- ---- whether all of it is there

-- whether octets don't read as a PDU
abbrev pub is_unread : {A : Type 0} → Result A ℕ → Bool
is_unread (Ok pdu) = false
is_unread (Err place) = true

abbrev pub is_malformed : AppForm → List ℕ → Bool
is_malformed Mvrp octets = is_unread (mvrp_reading octets)
is_malformed Msrp octets = is_unread (msrp_reading octets)
is_malformed Mmrp octets = is_unread (mmrp_reading octets)

-- a frame of MRP that an end sent is whole in the capture, and its PDU isn't malformed
abbrev pub IsSoundFrom : Packet → Seen → Option End → Type 0
IsSoundFrom p seen None = Unit {0}
IsSoundFrom p seen (Some who) = (nat_lt (length p.octets) p.whole ≡ false) × (is_malformed seen.app seen.pdu ≡ false)

abbrev pub IsSoundAs : Ends → Packet → Option Seen → Type 0
IsSoundAs ends p None = Unit {0}
IsSoundAs ends p (Some seen) = IsSoundFrom p seen (end_at ends seen.address)

-- so a captured frame is, where it is one of MRP that an end sent; others may be anything
abbrev pub IsSound : Ends → Packet → Type 0
IsSound ends p = IsSoundAs ends p (frame_in p)

-- ---- the link

-- the participants of each application at both ends
pub record Pairs : Type 0 where
  pub vlans : Pair ℕ (Unit {0})
  pub streams : Pair MsrpKey MsrpContent
  pub groups : Pair ℕ (Unit {0})

-- they have said and heard nothing yet, whenever their LeaveAll and their periodic event are due
pub record HaveSaidNothing (leave_time : Cs) (p : Pairs) : Type 0 where
  pub vlans : AreFresh leave_time p.vlans
  pub streams : AreFresh leave_time p.streams
  pub groups : AreFresh leave_time p.groups

-- a tick: its moment; what is asked for of each application at either end, and whether that sends in
-- it; and the frames that are captured in it
pub record LinkTick : Type 0 where
  pub at : Cs
  pub vlans : Asks ℕ (Unit {0}) × Asks ℕ (Unit {0})
  pub streams : Asks MsrpKey MsrpContent × Asks MsrpKey MsrpContent
  pub groups : Asks ℕ (Unit {0}) × Asks ℕ (Unit {0})
  pub frames : List Packet

-- the tick of an application
abbrev pub tick_of : {K C : Type 0} → Cs → Asks K C × Asks K C → Tick K C
tick_of at asks = record { at = at; asks_a = asks.0; asks_b = asks.1 }

-- VIDs and groups are written and read in one order, as are LeaveAlls; the events of streams by their
-- types (10.8.1.2)
abbrev pub as_written : {K C : Type 0} → List (MrpEvent × K × C) → List (MrpEvent × K × C)
as_written events = events

-- of each application, this is what both ends send in a tick: each at most one PDU, either first
abbrev pub AreVlansSent : LinkTick → Pairs → List PlainSaid → Type 0
AreVlansSent t p said = IsSentByBoth vlan_base vlan_octets nat_cmp same_nothing as_written (tick_of t.at t.vlans) p.vlans said

abbrev pub AreStreamsSent : LinkTick → Pairs → List StreamsSaid → Type 0
AreStreamsSent t p said = IsSentByBoth base_octets octets_of key_cmp same_content in_type_order (tick_of t.at t.streams) p.streams said

abbrev pub AreGroupsSent : LinkTick → Pairs → List PlainSaid → Type 0
AreGroupsSent t p said = IsSentByBoth group_base group_octets nat_cmp same_nothing as_written (tick_of t.at t.groups) p.groups said

-- the participants after a tick
abbrev pub pairs_after : Pairs → LinkTick → Pairs
pairs_after p t =
    record {
      vlans = pair_after vlan_base vlan_octets nat_cmp same_nothing as_written p.vlans (tick_of t.at t.vlans);
      streams = pair_after base_octets octets_of key_cmp same_content in_type_order p.streams (tick_of t.at t.streams);
      groups = pair_after group_base group_octets nat_cmp same_nothing as_written p.groups (tick_of t.at t.groups);
    }

-- What is captured in a tick is of its hundredth of a second, and of each application its frames say
-- exactly what the ends send, either end first. Beside these there may be other frames.
pub record IsCaptured (ends : Ends) (p : Pairs) (t : LinkTick) : Type 0 where
  pub moments : AllByRecursion (λ f. f.at_ns / 10000000 ≡ t.at.0) t.frames
  pub sound : AllByRecursion (IsSound ends) t.frames
  pub vlans : AreVlansSent t p (all_said vlans_said ends t.frames)
  pub streams : AreStreamsSent t p (all_said streams_said ends t.frames)
  pub groups : AreGroupsSent t p (all_said groups_said ends t.frames)

-- the ticks come one by one, the first at this moment, and each is captured: nothing is lost
abbrev pub AreCaptured : Ends → Cs → Pairs → List LinkTick → Type 0
AreCaptured ends at p [] = Unit {0}
AreCaptured ends at p (t ∷ ticks) =
    (t.at ≡ at) × IsCaptured ends p t × AreCaptured ends (next_moment at) (pairs_after p t) ticks

-- the capture of some ticks
abbrev pub frames_of : List LinkTick → List Packet
frames_of ticks = flat_map (λ t. t.frames) ticks

-- ---- nothing is broken

-- no line says of what was said last that a word of it is broken
abbrev pub HasNoBrokenWords : LinkSeen → Type 0
HasNoBrokenWords s = watched_judging_text s.at (arrived s) ≡ []

-- a text ends with the line of the frames behind `broken 0`
pub record PrintsNoneBroken (text : List ℕ) : Type 0 where
  pub front : List ℕ
  pub counts : Counts
  pub none : counts.broken ≡ 0
  pub ends : text ≡ front ++ counts_text counts
