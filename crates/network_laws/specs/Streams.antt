-- The laws of streams: where a Talker is registered, when an application hears Ready, and what a
-- Talker Failed for want of bandwidth comes of (IEEE Std 802.1Q-2018, 35.2.4). Either side by its
-- own definition: one looks at what is registered or heard at one place, the other at the tree's
-- walks, at what the stations' applications talk, and at bookings.
use Rattle.std.specs.Prelude.{◌≡◌, ◌↔◌, ◌<◌, ◌+◌, ◌==◌, ℕ, Bool, true, false, ◌&&◌, ◌||◌, if◌then◌else◌, List, [], ◌∷◌, length, find, slice_get, Option, Some, None, is_some, option_and_then}
use Rattle.std.specs.{Option.option_map_or, Option.option_or, List.AllByRecursion, List.list_all, List.range_with_len}
use Rattle.srp_base.specs.declared.{numbers.EgressPort.EgressPort, numbers.StreamId.StreamId, streams.Failure.Failure, streams.Talker.Talker, streams.TalkerReg.TalkerReg, streams.ListenerKind.ListenerKind}
use Rattle.srp_base.specs.declared.streams.TalkerReg.TheVariants.{Absent, Advertise, Failed}
use Rattle.srp_base.specs.declared.streams.ListenerKind.TheVariants.{AskingFailed, Ready, ReadyFailed}
use Rattle.stream_importance.specs.Bandwidth.{cap_of}
use Rattle.stream_importance.specs.declared.{entry.Want.Want, entry.Fit.Fit, entry.Fit.TheVariants.Fits, entry.Fit.TheVariants.TooLittle}
use Rattle.port_ledger.specs.{Decision.above, Decision.booked_of, Book.Book, Book.tested_entry, Book.code_of}
use Rattle.tree_topology.specs.{Topology.HasNode, Topology.HasPort, Ports.LiesBehind, Ports.IsPortPath, Walk.path_between, Refusal.is_station}
use Rattle.msrp_talker.specs.TalkerOut.{talker_in}
use Rattle.msrp_codec.specs.declared.pdu.MsrpKey.TheVariants.{Talker as TalkerKey}
use Rattle.msrp.specs.{PortState.PortState, Part.talker_reg_of, Stream.is_present, Stream.talk_of, Stream.want_of_talker, Side.has_talk, Side.has_listen, Side.heard_of, Side.talker_of}
use Rattle.attribute_propagation.specs.Ports.{place_of}
use Rattle.node_core.specs.State.{NodeState, content_at, booked_at, fit_of}
use Rattle.world_core.specs.World.{WorldState, node_at}
use Rattle.network_laws.specs.declared.streams.Refusal.{Refusal}

-- the node of this number
abbrev pub node_of : ℕ → WorldState → Option NodeState
node_of y w = node_at (record { 0 = y }) w

-- ---- where a Talker is registered

-- what is registered of a stream's Talker at a place of a node
abbrev pub talker_at_place : StreamId → ℕ → NodeState → TalkerReg
talker_at_place stream at s = talker_reg_of (content_at (TalkerKey stream) at s)

-- whether a Talker of a stream is registered at a port
abbrev pub is_talker_registered : WorldState → StreamId → EgressPort → Bool
is_talker_registered w stream p =
    option_map_or (λ (s : NodeState). is_present (talker_at_place stream (place_of p.port) s))
    (node_at p.node w) false

-- whether a node is a station whose application talks a stream
abbrev pub is_talked_at : WorldState → StreamId → ℕ → Bool
is_talked_at w stream y =
    option_map_or (λ (s : NodeState). is_station s.kind && has_talk stream s.streams) (node_of y w) false

-- at most one station talks a stream
abbrev pub IsTalkedOnce : WorldState → StreamId → Type 0
IsTalkedOnce w stream =
    (x y : ℕ) → HasNode w.tree x → HasNode w.tree y
    → is_talked_at w stream x ≡ true → is_talked_at w stream y ≡ true → x ≡ y

-- a station that talks the stream lies behind the port, in the words of the tree's walks
abbrev pub HasTalkerBehind : WorldState → StreamId → EgressPort → Type 0
HasTalkerBehind w stream p =
    (y : ℕ) × HasNode w.tree y × LiesBehind w.tree.links p y × (is_talked_at w stream y ≡ true)

-- a Talker of the stream is registered at a port exactly where a station that talks it is behind
-- the port
abbrev pub TalkersMatch : WorldState → StreamId → Type 0
TalkersMatch w stream =
    (p : EgressPort) → HasPort w.tree p
    → (is_talker_registered w stream p ≡ true) ↔ HasTalkerBehind w stream p

-- ---- the path from the Talker

-- the lowest-numbered station that talks a stream
abbrev pub talking_node : WorldState → StreamId → Option ℕ
talking_node w stream = find (is_talked_at w stream) (range_with_len 1 (length w.tree.kinds))

-- the egress ports of the walk without a repeated node from that station to a node
abbrev pub IsTalkersPath : WorldState → StreamId → ℕ → List EgressPort → Type 0
IsTalkersPath w stream l ports =
    (t : ℕ) × (talking_node w stream ≡ Some t) × IsPortPath w.tree.links t l ports

-- whether a port has booked a stream
abbrev pub has_booked : WorldState → StreamId → EgressPort → Bool
has_booked w stream p =
    option_map_or (λ (s : NodeState). is_some (booked_at stream (place_of p.port) s))
    (node_at p.node w) false

-- every egress port from the Talker's station on has booked the stream; so some station talks it
abbrev pub IsPathBooked : WorldState → StreamId → ℕ → Type 0
IsPathBooked w stream l =
    (ports : List EgressPort) × IsTalkersPath w stream l ports
    × AllByRecursion (λ p. has_booked w stream p ≡ true) ports

-- the same as a test: false where no station talks the stream
abbrev pub is_path_booked : WorldState → StreamId → ℕ → Bool
is_path_booked w stream l =
    option_map_or (λ t. list_all (has_booked w stream) (path_between w.tree.links t l))
    (talking_node w stream) false

-- ---- what an application hears

-- whether what an application hears, if anything, is Ready
abbrev pub is_ready_heard : Option ListenerKind → Bool
is_ready_heard None = false
is_ready_heard (Some AskingFailed) = false
is_ready_heard (Some Ready) = true
is_ready_heard (Some ReadyFailed) = false

-- whether the application of a node hears that it has a stream
abbrev pub hears_ready : WorldState → StreamId → ℕ → Bool
hears_ready w stream l =
    option_map_or (λ (s : NodeState). is_ready_heard (heard_of stream s.streams)) (node_of l w) false

-- whether a node is a station whose application listens to a stream
abbrev pub is_listened_at : WorldState → StreamId → ℕ → Bool
is_listened_at w stream l =
    option_map_or (λ (s : NodeState). is_station s.kind && has_listen stream s.streams) (node_of l w) false

-- a station that listens to the stream, and isn't the Talker's, hears Ready exactly where the path
-- has booked
abbrev pub AreReadyOnPath : WorldState → StreamId → Type 0
AreReadyOnPath w stream =
    (l : ℕ) → HasNode w.tree l → is_listened_at w stream l ≡ true → is_talked_at w stream l ≡ false
    → (hears_ready w stream l ≡ true) ↔ IsPathBooked w stream l

-- ---- what a refusal comes of

-- a code of bandwidth: insufficient bandwidth, or bandwidth that a stream of higher rank takes
-- (35.2.2.8.7)
abbrev pub is_bandwidth_code : ℕ → Bool
is_bandwidth_code code = (code == 1) || (code == 6)

-- the failure with which a Talker is registered, where it is for want of bandwidth
abbrev pub bandwidth_failure : TalkerReg → Option Failure
bandwidth_failure Absent = None
bandwidth_failure (Advertise talker) = None
bandwidth_failure (Failed talker failure) = if is_bandwidth_code failure.code then Some failure else None

-- the failure for want of bandwidth that is registered of a stream's Talker at a node's first port,
-- a station's only one
abbrev pub failure_in : StreamId → NodeState → Option Failure
failure_in stream s = bandwidth_failure (talker_at_place stream 0 s)

-- the failure for want of bandwidth at the first port of the node of a number
abbrev pub failure_at : WorldState → StreamId → ℕ → Option Failure
failure_at w stream l = option_and_then (failure_in stream) (node_of l w)

-- what a stream's Talker at a node's application asks of a port
abbrev pub want_at : WorldState → StreamId → ℕ → Option Want
want_at w stream t =
    option_and_then (λ (s : NodeState). option_and_then want_of_talker (talk_of stream s.streams.talks))
    (node_of t w)

-- What a ledger has booked leaves no place for a want at a moment: the more important bookings, of
-- which there may be none, with its own slope pass its cap, and that gives this code.
pub record IsPushedOut (now : ℕ) (book : Book) (want : Want) (code : ℕ) : Type 0 where
  pub passes : cap_of book.caps want.class
      < above now (tested_entry book.entries want) (booked_of book.entries) + want.slope
  pub code_is : code ≡ code_of now book.caps (booked_of book.entries) (tested_entry book.entries want)

-- at a port of the node with the failure's BridgeID, bookings leave no place for what station t
-- asks
pub record IsRefusedAt (w : WorldState) (stream : StreamId) (t : ℕ) (failure : Failure) (p : EgressPort) : Type 0 where
  pub node : NodeState
  pub node_is : node_at p.node w ≡ Some node
  pub named : node.bridge ≡ failure.bridge
  pub port : PortState
  pub port_is : slice_get node.streams.ports (place_of p.port) ≡ Some port
  pub want : Want
  pub want_is : want_at w stream t ≡ Some want
  pub refused : IsPushedOut node.clock.0 port.ledger want failure.code

-- a port stands on the walk without a repeated node from one node to another
abbrev pub IsOnPath : WorldState → ℕ → ℕ → EgressPort → Type 0
IsOnPath w t l p =
    (ports : List EgressPort) × (i : ℕ) × IsPortPath w.tree.links t l ports × (slice_get ports i ≡ Some p)

-- Where a node's first port has a Talker Failed for want of bandwidth, and the node isn't the
-- Talker's, some station talks the stream, and at a port of the named bridge on the path from there
-- bookings leave no place for it. It is said of every node, bridges too; a station has that port
-- alone.
abbrev pub AreRefusalsShown : WorldState → StreamId → Type 0
AreRefusalsShown w stream =
    (l : ℕ) (failure : Failure) → HasNode w.tree l → is_talked_at w stream l ≡ false
    → failure_at w stream l ≡ Some failure
    → (t : ℕ) × (talking_node w stream ≡ Some t)
    × ((p : EgressPort) × IsOnPath w t l p × IsRefusedAt w stream t failure p)

-- ---- which refusal a failure names

-- the slope that a Talker asks; 0 where it asks for none
abbrev pub slope_of_talker : Talker → ℕ
slope_of_talker talker = option_map_or (λ (want : Want). want.slope) (want_of_talker talker) 0

-- the slope that a registered Talker asks; 0 where there is none
abbrev pub slope_of_reg : TalkerReg → ℕ
slope_of_reg reg = option_map_or slope_of_talker (talker_in reg) 0

-- what doesn't fit at a port, where it has this code
abbrev pub refusal_of : EgressPort → ℕ → ℕ → Option Fit → Option Refusal
refusal_of p slope code None = None
refusal_of p slope code (Some Fits) = None
refusal_of p slope code (Some (TooLittle more cap given)) =
    if given == code
    then Some (record { at = p; more_important = more; slope = slope; cap = cap; code = given })
    else None

-- the refusal of a stream by a node's port, where the node has the failure's BridgeID and its fit
-- the failure's code
abbrev pub refusal_in : StreamId → Failure → EgressPort → NodeState → Option Refusal
refusal_in stream failure p s =
    if s.bridge.0 == failure.bridge.0
    then refusal_of p (slope_of_reg (talker_of stream s.streams)) failure.code (fit_of (place_of p.port) stream s)
    else None

-- the refusal of a stream by a port of the network, where that port's node and its fit match the
-- failure
abbrev pub refusal_at : WorldState → StreamId → Failure → EgressPort → Option Refusal
refusal_at w stream failure p = option_and_then (refusal_in stream failure p) (node_at p.node w)

-- the first refusal along some ports
abbrev pub first_refusal : (EgressPort → Option Refusal) → List EgressPort → Option Refusal
first_refusal refuses [] = None
first_refusal refuses (p ∷ ports) = option_or (refuses p) (first_refusal refuses ports)

-- the first refusal that a failure names on the path from the Talker's station to a node; there is
-- no path where no station talks the stream
abbrev pub refusal_named : WorldState → StreamId → ℕ → Failure → Option Refusal
refusal_named w stream l failure =
    option_and_then (λ t. first_refusal (refusal_at w stream failure) (path_between w.tree.links t l))
    (talking_node w stream)

-- that of the failure at a station's port, if it has one for want of bandwidth
abbrev pub refusal_to : WorldState → StreamId → ℕ → Option Refusal
refusal_to w stream l = option_and_then (refusal_named w stream l) (failure_at w stream l)

-- A port is named: the station's port has a Talker Failed for want of bandwidth, the port is on the
-- path from the Talker's station, its node has the BridgeID of the failure, and its ledger refuses
-- the stream with the failure's code.
pub record IsNamedAt (w : WorldState) (stream : StreamId) (l : ℕ) (p : EgressPort) : Type 0 where
  pub failure : Failure
  pub failure_is : failure_at w stream l ≡ Some failure
  pub t : ℕ
  pub talker : talking_node w stream ≡ Some t
  pub i : ℕ
  pub on_path : slice_get (path_between w.tree.links t l) i ≡ Some p
  pub node : NodeState
  pub node_is : node_at p.node w ≡ Some node
  pub named : node.bridge ≡ failure.bridge
  pub more : ℕ
  pub cap : ℕ
  pub fit : fit_of (place_of p.port) stream node ≡ Some (TooLittle more cap failure.code)

-- a refusal is of a port that is named, with what its ledger says and the slope that the stream's
-- Talker asks there; and what is more important, with that slope, passes the cap
pub record IsRefusalTo (w : WorldState) (stream : StreamId) (l : ℕ) (refusal : Refusal) : Type 0 where
  pub port : IsNamedAt w stream l refusal.at
  pub more_is : refusal.more_important ≡ port.more
  pub slope_is : refusal.slope ≡ slope_of_reg (talker_of stream port.node.streams)
  pub cap_is : refusal.cap ≡ port.cap
  pub code_is : refusal.code ≡ port.failure.code
  pub passes : refusal.cap < refusal.more_important + refusal.slope

-- ---- all of them

-- what holds of a stream in a network at rest
pub record KeepsStreamLaws (w : WorldState) (stream : StreamId) : Type 0 where
  -- its Talker is registered exactly where the station that talks it is behind
  pub talkers : TalkersMatch w stream
  -- listeners are Ready exactly where their path has booked
  pub ready : AreReadyOnPath w stream
  -- refusals for want of bandwidth are due to more important bookings
  pub refusals : AreRefusalsShown w stream
