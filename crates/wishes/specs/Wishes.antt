-- What the stations of a network want of its streams, and what came of it. A wish is a stream and a
-- station that listens to it.
use Rattle.std.specs.Prelude.{ℕ, ◌+◌, ◌-◌, ◌==◌, Bool, true, false, not, ◌&&◌, if◌then◌else◌, List, [], ◌∷◌, ◌++◌, length, map, filter, find, Option, Some, None, option_map, option_and_then}
use Rattle.std.specs.{Option.is_none, Option.option_map_or, List.list_all, List.range_with_len}
use Rattle.srp_base.specs.declared.{numbers.BridgeId.BridgeId, numbers.EgressPort.EgressPort, numbers.NodeNo.NodeNo, numbers.StreamId.StreamId, streams.Failure.Failure, streams.TalkerReg.TalkerReg}
use Rattle.srp_base.specs.declared.streams.TalkerReg.TheVariants.{Absent, Advertise, Failed}
use Rattle.tree_topology.specs.Walk.{path_between}
use Rattle.topology_file.specs.declared.entries.StreamEntry.{StreamEntry}
use Rattle.topology_file.specs.Plan.{Plan}
use Rattle.node_core.specs.State.{NodeState}
use Rattle.world_core.specs.World.{WorldState, node_at}
use Rattle.network_laws.specs.declared.streams.Refusal.{Refusal}
use Rattle.network_laws.specs.Streams.{hears_ready, is_listened_at, is_path_booked, node_of, refusal_to, talker_at_place, talking_node}
use Rattle.network_laws.specs.Vlans.{is_registered}
use Rattle.wishes.specs.declared.wish.{Answer.Answer, Wish.Wish}
use Rattle.wishes.specs.declared.wish.Answer.TheVariants.{Granted, Refused, Silent}

-- ---- who listens

-- the node of this number
abbrev pub numbered : ℕ → NodeNo
numbered y = record { 0 = y }

-- the stations of these numbers whose applications listen to a stream: so many numbers, of which the
-- first is given
abbrev pub listeners_from : WorldState → StreamId → ℕ → ℕ → List NodeNo
listeners_from w stream first count = map numbered (filter (is_listened_at w stream) (range_with_len first count))

-- all stations that listen to a stream, ascending
abbrev pub listeners : WorldState → StreamId → List NodeNo
listeners w stream = listeners_from w stream 1 (length w.tree.kinds)

-- ---- the way from the Talker

-- the egress ports from the lowest-numbered station that talks a stream to a node; none where no
-- station talks it
abbrev pub way_to : WorldState → StreamId → ℕ → List EgressPort
way_to w stream l = option_map_or (λ t. path_between w.tree.links t l) (talking_node w stream) []

-- ---- what came of a wish

-- the application hears Ready, and every egress port of the way has booked the stream
abbrev pub is_granted : WorldState → StreamId → ℕ → Bool
is_granted w stream l = hears_ready w stream l && is_path_booked w stream l

-- the failure with which a Talker is registered (IEEE Std 802.1Q-2018, 35.2.2.8.7)
abbrev pub failure_of : TalkerReg → Option Failure
failure_of Absent = None
failure_of (Advertise talker) = None
failure_of (Failed talker failure) = Some failure

-- that of a stream's Talker at a node's first port, a station's only one
abbrev pub failure_in : StreamId → NodeState → Option Failure
failure_in stream s = failure_of (talker_at_place stream 0 s)

-- that at the first port of the node of a number
abbrev pub failure_to : WorldState → StreamId → ℕ → Option Failure
failure_to w stream l = option_and_then (failure_in stream) (node_of l w)

-- whether a port is of the node with this BridgeID
abbrev pub is_of_bridge : WorldState → BridgeId → EgressPort → Bool
is_of_bridge w bridge p = option_map_or (λ (s : NodeState). s.bridge.0 == bridge.0) (node_at p.node w) false

-- by how much a stream's slope passes what more important bookings leave of the cap, in bit/s
abbrev pub shortfall : Refusal → ℕ
shortfall r = r.slope - (r.cap - r.more_important)

-- what came of a wish that isn't granted, by the failure at the station's port: refused at the port
-- of the way whose node the failure names, with its code, and where a port of that node refuses the
-- stream for want of bandwidth, by how much it misses
abbrev pub answer_by : WorldState → StreamId → ℕ → Option Failure → Answer
answer_by w stream l None = Silent
answer_by w stream l (Some failure) =
    Refused (find (is_of_bridge w failure.bridge) (way_to w stream l)) failure.code
    (option_map shortfall (refusal_to w stream l))

-- what came of a station's wish for a stream; where it is granted, how many egress ports the way
-- has, and whether the stream's VID is registered at each of them
abbrev pub answer_to : WorldState → StreamEntry → ℕ → Answer
answer_to w e l =
    if is_granted w e.id l
    then Granted (length (way_to w e.id l)) (list_all (is_registered w e.vid) (way_to w e.id l))
    else answer_by w e.id l (failure_to w e.id l)

-- ---- the wishes

-- whether some station talks a stream
abbrev pub is_talked : WorldState → StreamId → Bool
is_talked w stream = not (is_none (talking_node w stream))

-- that of a station for the stream whose entry has this place in the file
abbrev pub wish_of : WorldState → ℕ → StreamEntry → NodeNo → Wish
wish_of w place e l = record { stream = place; station = l; talked = is_talked w e.id; answer = answer_to w e l.0 }

-- those for a stream, ascending by station
abbrev pub stream_wishes : WorldState → ℕ → StreamEntry → List Wish
stream_wishes w place e = map (wish_of w place e) (listeners w e.id)

-- those for some streams, of which the first has this place
abbrev pub wishes_from : WorldState → ℕ → List StreamEntry → List Wish
wishes_from w place [] = []
wishes_from w place (e ∷ entries) = stream_wishes w place e ++ wishes_from w (place + 1) entries

-- all wishes in a network for the streams of a scenario, in the order of the file's streams, then of
-- the nodes
abbrev pub wishes_in : Plan → WorldState → List Wish
wishes_in plan w = wishes_from w 0 plan.streams

-- ---- how many

-- whether an answer grants a wish
abbrev pub grants : Answer → Bool
grants (Granted ports vlan) = true
grants (Refused at code short) = false
grants Silent = false

-- whether it refuses it
abbrev pub refuses : Answer → Bool
refuses (Granted ports vlan) = false
refuses (Refused at code short) = true
refuses Silent = false

-- whether nothing came of it
abbrev pub is_silent : Answer → Bool
is_silent (Granted ports vlan) = false
is_silent (Refused at code short) = false
is_silent Silent = true
