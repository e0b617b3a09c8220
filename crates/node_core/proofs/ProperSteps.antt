-- Each step of a node, and what happens to the PDUs that wait, keeps what every node keeps.
use Rattle.std.proofs.Common.{◌≡◌, ℕ, ◌+◌, ◌≤◌, ◌^◌, Bool, true, false, if◌then◌else◌, List, [], ◌∷◌, ◌++◌, length, map, refl, sym, ap, subst, ◌∙◌, arith}
use Rattle.std.specs.Prelude.{slice_get, Option, Some, None, Result, Ok, Err}
use Rattle.std.proofs.lemmas.List.{length-map}
use Rattle.std.proofs.Math.ListN.{length-set}
use Rattle.std.specs.{List.AllByRecursion, Option.option_map_or, Ordering.nat_cmp}
use Rattle.srp_base.proofs.Lists.{each-get as at-place, each-set as each_set, each_append}
use Rattle.srp_base.specs.declared.{numbers.Cs.Cs, mrp.App.App, mrp.App.TheVariants.Mvrp, mrp.App.TheVariants.Msrp, numbers.BridgeId.BridgeId, ports.PortSetup.PortSetup}
use Rattle.msrp_talker.specs.declared.port_config.PortConfig.{PortConfig}
use Rattle.tree_topology.specs.declared.{graph.NodeKind.NodeKind, graph.NodeKind.TheVariants.Station, graph.NodeKind.TheVariants.Bridge}
use Rattle.mvrp_codec.specs.declared.pdu.MvrpPdu.{MvrpPdu}
use Rattle.mvrp_codec.specs.{Meaning.mvrp_reading, Writing.AreVids, Writing.mvrp_spelling}
use Rattle.msrp_codec.specs.declared.{pdu.MsrpKey.MsrpKey, pdu.MsrpPdu.MsrpPdu}
use Rattle.msrp_codec.specs.{Content.Belongs, Meaning.msrp_reading, Writing.AreInRange, Writing.as_written, Writing.msrp_spelling}
use Rattle.mrp_participant.specs.State.{AreRows, is_silent, new_state}
use Rattle.mvrp.specs.{Part.Part, Part.pdu_sent, Side.Vlans, Side.IsWritten, Side.new_vlans, Side.received_vlans, Side.due_vlans, Side.left_vlans, Side.leave_all_vlans, Side.periodic_vlans, Side.spoilt_vlans, Side.settled_vlans, Side.sent_vlans, Side.requested_vlans, Vids.IsVid, Vids.HasVidRows, Vids.IsProper}
use Rattle.attribute_propagation.specs.Ports.{place_of}
use Rattle.msrp.specs.{PortState.PortState, Part.Part as SrpPart, Part.HasOwnContents, Part.key_cmp, Part.pdu_sent as srp_pdu_sent, Side.Streams, Side.IsPort, Side.IsWritten as IsSrpWritten, Side.new_port, Side.new_streams, Side.received_streams, Side.due_streams, Side.left_streams, Side.leave_all_streams, Side.periodic_streams, Side.spoilt_streams, Side.settled_streams, Side.sent_streams, Side.requested_streams, Side.clocked_streams, Proper.HasRanges, Proper.IsProper as IsProperSrp, Proper.IsRequestInRange, Proper.Setup, Proper.setup_of, Proper.setups_of}
use Rattle.msrp.specs.declared.{asking.SrpRequest.SrpRequest, domain.DomainSet.DomainSet}
use Rattle.msrp.specs.declared.asking.SrpRequest.TheVariants as asks
use Rattle.node_core.specs.{Wire, Declare, Withdraw, Talk, Hush, Listen, Unlisten, Vlan, Srp, PortStep, Work, LeaveNow, LeaveAllNow, PeriodicNow, Due, Settle, Send, NodeEvent, Request, Port, Clock, IsShort, AreShort, with_wire, NodeState, box_at, new_node, CanStep, node_step, port_step, after_work, worked_app, worked_mvrp, worked_msrp, sent_octets, said_mvrp, said_msrp, with_said, after_app, with_outbox, with_inbox, repeated_at, forged_at, spoilt_at, IsProperNode, IsProperWire, AreProperWires, IsInRange}
use Rattle.node_core.proofs.{Stays.StaysVlans, Stays.StaysStreams, Stays.vlans_received, Stays.vlans_due, Stays.vlans_left, Stays.vlans_leave_all, Stays.vlans_periodic, Stays.vlans_sent, Stays.vlans_spoilt, Stays.vlans_settled, Stays.count_requested, Stays.streams_received, Stays.streams_due, Stays.streams_left, Stays.streams_leave_all, Stays.streams_periodic, Stays.streams_sent, Stays.streams_spoilt, Stays.streams_settled, Stays.moment_requested, Boxes.each_box, Boxes.each_repeated, Boxes.each_with, Boxes.each_new}

-- the laws of MVRP at a node, as its public laws say them
pub record SideLaws : Type 0 where
  pub receive : (now : Cs) (at : ℕ) (pdu : MvrpPdu) (side : Vlans) → AreVids pdu.events → IsProper side → IsProper (received_vlans now at pdu side)
  pub due : (now : Cs) (at : ℕ) (side : Vlans) → IsProper side → IsProper (due_vlans now at side)
  pub leave_now : (at vid : ℕ) (side : Vlans) → IsProper side → IsProper (left_vlans at vid side)
  pub leaveall_now : (now : Cs) (at : ℕ) (side : Vlans) → IsProper side → IsProper (leave_all_vlans now at side)
  pub periodic_now : (at : ℕ) (side : Vlans) → IsProper side → IsProper (periodic_vlans at side)
  pub send : (now : Cs) (at : ℕ) (side : Vlans) → IsProper side → IsProper (sent_vlans now at side)
  pub settle : (at : ℕ) (side : Vlans) → IsProper side → IsProper (settled_vlans at side)
  pub request : (vid : ℕ) (declared : Bool) (side : Vlans) → IsVid vid → IsProper side → IsProper (requested_vlans vid declared side)
  pub reads : (octets : List ℕ) (read : MvrpPdu) → mvrp_reading octets ≡ Ok read → AreVids read.events
  pub written : (now : Cs) (s : Part) → AreRows nat_cmp s.rows → HasVidRows s → is_silent s ≡ false → IsWritten (pdu_sent now s) (mvrp_spelling (pdu_sent now s))

-- a call of MSRP at a node keeps what a side keeps, and how its ports are set up
pub record Keeps (before after : Streams) : Type 0 where
  pub proper : IsProperSrp after
  pub setups : setups_of after ≡ setups_of before

-- the laws of MSRP at a node, by its public laws
pub record StreamLaws : Type 0 where
  pub receive : (now : Cs) (at : ℕ) (pdu : MsrpPdu) (side : Streams) → AllByRecursion (λ e. Belongs e.1 e.2) pdu.events → AreInRange pdu.events
      → IsProperSrp side → Keeps side (received_streams now at pdu side)
  pub due : (now : Cs) (at : ℕ) (side : Streams) → IsProperSrp side → Keeps side (due_streams now at side)
  pub leave_now : (at : ℕ) (key : MsrpKey) (side : Streams) → IsProperSrp side → Keeps side (left_streams at key side)
  pub leaveall_now : (now : Cs) (at : ℕ) (side : Streams) → IsProperSrp side → Keeps side (leave_all_streams now at side)
  pub periodic_now : (at : ℕ) (side : Streams) → IsProperSrp side → Keeps side (periodic_streams at side)
  pub send : (now : Cs) (at : ℕ) (side : Streams) → IsProperSrp side → Keeps side (sent_streams now at side)
  pub settle : (at : ℕ) (side : Streams) → IsProperSrp side → Keeps side (settled_streams at side)
  pub request : (request : SrpRequest) (side : Streams) → IsRequestInRange request → IsProperSrp side → Keeps side (requested_streams request side)
  pub clock : (now : ℕ) (side : Streams) → side.moment ≤ now → IsProperSrp side → Keeps side (clocked_streams now side)
  pub reads : (octets : List ℕ) (read : MsrpPdu) → msrp_reading octets ≡ Ok read → AllByRecursion (λ e. Belongs e.1 e.2) read.events
  pub written : (now : Cs) (s : SrpPart) → AreRows key_cmp s.rows → HasOwnContents s → HasRanges s → is_silent s ≡ false → IsSrpWritten (srp_pdu_sent now s) (msrp_spelling (srp_pdu_sent now s))
  pub in_range : (now : Cs) (s : SrpPart) → AreRows key_cmp s.rows → HasRanges s → AreInRange (as_written (srp_pdu_sent now s)).events
  pub count : (a b : Streams) → setups_of a ≡ setups_of b → length a.ports ≡ length b.ports

pub proper-side : (s : NodeState) → IsProperNode s → IsProper s.vlans
proper-side s h = record { kept = h.kept.vlans; keys = h.vids }

pub proper-streams : (s : NodeState) → IsProperNode s → IsProperSrp s.streams
proper-streams s h = record { kept = h.kept.streams; ranges = h.ranges }

-- MVRP has become another with as many ports, of which a bridge asks nothing
with-vlans : (s : NodeState) (v : Vlans) → IsProper v → length v.parts ≡ length s.vlans.parts → (s.kind ≡ Bridge → v.own ≡ [])
    → IsProperNode s → IsProperNode (record s { vlans = v })
with-vlans s v proper same own h =
    record {
      kept = record {
        vlans = proper.kept;
        streams = h.kept.streams;
        same_ports = h.kept.same_ports ∙ sym same;
        moment = h.kept.moment;
        inboxes = h.kept.inboxes ∙ sym same;
        outboxes = h.kept.outboxes ∙ sym same;
        few = let count = h.kept.few in omega (arith, same, count);
        short_in = h.kept.short_in;
        short_out = h.kept.short_out;
        clock = h.kept.clock;
      };
      vids = proper.keys;
      ranges = h.ranges;
      named = h.named;
      readable_in = h.readable_in;
      readable_out = h.readable_out;
      idle = λ k. record { own = own k; talks = (h.idle k).talks; listens = (h.idle k).listens };
    }

-- MVRP has made a call of a port
vlans-node : (s : NodeState) (v : Vlans) → StaysVlans s.vlans v → (IsProper s.vlans → IsProper v) → IsProperNode s → IsProperNode (record s { vlans = v })
vlans-node s v stays proper h = with-vlans s v (proper (proper-side s h)) stays.count (λ k. stays.own ∙ (h.idle k).own) h

-- ports that are set up alike have the same BridgeIDs
named-alike : (b : BridgeId) (xs ys : List PortState) → map setup_of xs ≡ map setup_of ys
    → AllByRecursion (λ (p : PortState). p.config.bridge ≡ b) ys → AllByRecursion (λ (p : PortState). p.config.bridge ≡ b) xs
named-alike b [] ys e h = tt
named-alike b (x ∷ xs) [] e h = cc
named-alike b (x ∷ xs) (y ∷ ys) e h =
    let heads : setup_of x ≡ setup_of y = cc in
    let first : x.config ≡ y.config = ap (λ (s : Setup). s.config) heads in
    let rest : map setup_of xs ≡ map setup_of ys = cc in
    (ap (λ (c : PortConfig). c.bridge) first ∙ h.0, named-alike b xs ys rest h.1)

-- MSRP asks nothing
record AsksNone (v : Streams) : Type 0 where
  talks : v.talks ≡ []
  listens : v.listens ≡ []

-- MSRP has become another at a moment, of which a bridge asks nothing, and the clock is there
record IsNewMoment (s : NodeState) (v : Streams) (clock : Cs) : Type 0 where
  moment : v.moment ≡ clock.0
  end : clock.0 ≤ 2 ^ 61
  none : s.kind ≡ Bridge → AsksNone v

at-moment : (count : (a b : Streams) → setups_of a ≡ setups_of b → length a.ports ≡ length b.ports) (s : NodeState) (v : Streams) (clock : Cs)
    → IsNewMoment s v clock → Keeps s.streams v → IsProperNode s → IsProperNode (record s { streams = v; clock = clock })
at-moment count s v clock new kept h =
    record {
      kept = record {
        vlans = h.kept.vlans;
        streams = kept.proper.kept;
        same_ports = count v s.streams kept.setups ∙ h.kept.same_ports;
        moment = new.moment;
        inboxes = h.kept.inboxes;
        outboxes = h.kept.outboxes;
        few = h.kept.few;
        short_in = h.kept.short_in;
        short_out = h.kept.short_out;
        clock = new.end;
      };
      vids = h.vids;
      ranges = kept.proper.ranges;
      named = named-alike s.bridge v.ports s.streams.ports kept.setups h.named;
      readable_in = h.readable_in;
      readable_out = h.readable_out;
      idle = λ k. record { own = (h.idle k).own; talks = (new.none k).talks; listens = (new.none k).listens };
    }

-- MSRP has made a call at the moment where it is
with-streams : (count : (a b : Streams) → setups_of a ≡ setups_of b → length a.ports ≡ length b.ports) (s : NodeState) (v : Streams)
    → v.moment ≡ s.streams.moment → (s.kind ≡ Bridge → AsksNone v) → Keeps s.streams v → IsProperNode s → IsProperNode (record s { streams = v })
with-streams count s v same none kept h = at-moment count s v s.clock (record { moment = same ∙ h.kept.moment; end = h.kept.clock; none = none }) kept h

-- it has made a call of a port
streams-node : (count : (a b : Streams) → setups_of a ≡ setups_of b → length a.ports ≡ length b.ports) (s : NodeState) (v : Streams)
    → StaysStreams s.streams v → (IsProperSrp s.streams → Keeps s.streams v) → IsProperNode s → IsProperNode (record s { streams = v })
streams-node count s v stays kept h =
    with-streams count s v stays.moment (λ k. record { talks = stays.talks ∙ (h.idle k).talks; listens = stays.listens ∙ (h.idle k).listens })
    (kept (proper-streams s h)) h

-- proper and short PDUs are in a box
pub with-inbox : (s : NodeState) (at : ℕ) (wires : List Wire) → AreShort wires → AreProperWires wires → IsProperNode s → IsProperNode (with_inbox at wires s)
with-inbox s at wires short proper h =
    record {
      kept = record {
        vlans = h.kept.vlans;
        streams = h.kept.streams;
        same_ports = h.kept.same_ports;
        moment = h.kept.moment;
        inboxes = length-set s.inboxes at wires ∙ h.kept.inboxes;
        outboxes = h.kept.outboxes;
        few = h.kept.few;
        short_in = each_set AreShort s.inboxes at wires short h.kept.short_in;
        short_out = h.kept.short_out;
        clock = h.kept.clock;
      };
      vids = h.vids;
      ranges = h.ranges;
      named = h.named;
      readable_in = each_set AreProperWires s.inboxes at wires proper h.readable_in;
      readable_out = h.readable_out;
      idle = λ k. record { own = (h.idle k).own; talks = (h.idle k).talks; listens = (h.idle k).listens };
    }

pub with-outbox : (s : NodeState) (at : ℕ) (wires : List Wire) → AreShort wires → AreProperWires wires → IsProperNode s → IsProperNode (with_outbox at wires s)
with-outbox s at wires short proper h =
    record {
      kept = record {
        vlans = h.kept.vlans;
        streams = h.kept.streams;
        same_ports = h.kept.same_ports;
        moment = h.kept.moment;
        inboxes = h.kept.inboxes;
        outboxes = length-set s.outboxes at wires ∙ h.kept.outboxes;
        few = h.kept.few;
        short_in = h.kept.short_in;
        short_out = each_set AreShort s.outboxes at wires short h.kept.short_out;
        clock = h.kept.clock;
      };
      vids = h.vids;
      ranges = h.ranges;
      named = h.named;
      readable_in = h.readable_in;
      readable_out = each_set AreProperWires s.outboxes at wires proper h.readable_out;
      idle = λ k. record { own = (h.idle k).own; talks = (h.idle k).talks; listens = (h.idle k).listens };
    }

new-named : (bridge : BridgeId) (leave_time : Cs) (periodic : Bool) (domain : DomainSet) (ports : List PortSetup)
    → AllByRecursion (λ (p : PortState). p.config.bridge ≡ bridge) (map (new_port bridge leave_time periodic domain) ports)
new-named bridge leave_time periodic domain [] = tt
new-named bridge leave_time periodic domain (p ∷ ports) = (refl, new-named bridge leave_time periodic domain ports)

pub proper-new : (kind : NodeKind) (bridge : BridgeId) (leave_time : Cs) (periodic : Bool) (domain : DomainSet) (ports : List PortSetup)
    → IsProper (new_vlans leave_time periodic ports) → IsProperSrp (new_streams bridge leave_time periodic domain ports)
    → length ports ≤ 255 → IsProperNode (new_node kind bridge leave_time periodic domain ports)
proper-new kind bridge leave_time periodic domain ports side streams few =
    let none : PortSetup → List Wire = λ p. [] in
    let parts = length-map ports (λ (p : PortSetup). new_state {K = ℕ} {C = Unit {0}} p.period leave_time periodic) in
    let links = length-map ports (new_port bridge leave_time periodic domain) in
    let boxes = length-map ports none in
    record {
      kept = record {
        vlans = side.kept;
        streams = streams.kept;
        same_ports = links ∙ sym parts;
        moment = refl;
        inboxes = boxes ∙ sym parts;
        outboxes = boxes ∙ sym parts;
        few = omega (arith, few, parts);
        short_in = each_new IsShort ports;
        short_out = each_new IsShort ports;
        clock = omega arith;
      };
      vids = side.keys;
      ranges = streams.ranges;
      named = new-named bridge leave_time periodic domain ports;
      readable_in = each_new IsProperWire ports;
      readable_out = each_new IsProperWire ports;
      idle = λ k. record { own = refl; talks = refl; listens = refl };
    }

-- octets that are said are short, and say nothing that doesn't fit
record IsFitToSend (app : App) (octets : List ℕ) : Type 0 where
  short : length octets ≤ 1500
  proper : IsProperWire (record { app = app; octets = octets })

-- a station is no bridge
no-bridge : (kind : NodeKind) → kind ≡ Station → kind ≡ Bridge → ⊥
no-bridge kind station bridge = cc

module _ (laws : SideLaws) (streams : StreamLaws) where
  -- ---- Work

  worked-vlans : (at : ℕ) (octets : List ℕ) (r : Result MvrpPdu ℕ) (s : NodeState) → mvrp_reading octets ≡ r → IsProperNode s
      → IsProperNode (record s { vlans = (worked_mvrp s.clock at r s.vlans).0 })
  worked-vlans at octets (Ok pdu) s is h =
      vlans-node s (received_vlans s.clock at pdu s.vlans) (vlans_received s.clock at pdu s.vlans) (laws.receive s.clock at pdu s.vlans (laws.reads octets pdu is)) h
  worked-vlans at octets (Err place) s is h = h

  worked-streams : (at : ℕ) (octets : List ℕ) (r : Result MsrpPdu ℕ) (s : NodeState) → msrp_reading octets ≡ r → IsProperWire (record { app = Msrp; octets = octets }) → IsProperNode s
      → IsProperNode (record s { streams = (worked_msrp s.clock at r s.streams).0 })
  worked-streams at octets (Ok pdu) s is fits h =
      streams-node streams.count s (received_streams s.clock at pdu s.streams) (streams_received s.clock at pdu s.streams)
      (streams.receive s.clock at pdu s.streams (streams.reads octets pdu is) (fits pdu is)) h
  worked-streams at octets (Err place) s is fits h = h

  worked-wire : (at : ℕ) (app : App) (octets : List ℕ) (s : NodeState) → IsProperWire (record { app = app; octets = octets }) → IsProperNode s → IsProperNode (worked_app app at octets s).0
  worked-wire at Mvrp octets s fits h = worked-vlans at octets (mvrp_reading octets) s refl h
  worked-wire at Msrp octets s fits h = worked-streams at octets (msrp_reading octets) s refl fits h

  worked-node : (at : ℕ) (wires : List Wire) (s : NodeState) → AreShort wires → AreProperWires wires → IsProperNode s → IsProperNode (after_work at wires s).0
  worked-node at [] s short proper h = h
  worked-node at (wire ∷ wires) s short proper h =
      worked-wire at wire.app wire.octets (with_inbox at wires s) proper.0 (with-inbox s at wires short.1 proper.1 h)

  -- ---- Send

  said-vlans : (now : Cs) (s : Part) (octets : List ℕ) (b : Bool) → is_silent s ≡ b → AreRows nat_cmp s.rows → HasVidRows s
      → (if b then None else Some (mvrp_spelling (pdu_sent now s))) ≡ Some octets → IsFitToSend Mvrp octets
  said-vlans now s octets true is rows own e = cc
  said-vlans now s octets false is rows own e =
      let same : mvrp_spelling (pdu_sent now s) ≡ octets = cc in
      subst (IsFitToSend Mvrp) same (record { short = (laws.written now s rows own is).short; proper = tt })

  said-streams : (now : Cs) (s : SrpPart) (octets : List ℕ) (b : Bool) → is_silent s ≡ b → AreRows key_cmp s.rows → HasOwnContents s → HasRanges s
      → (if b then None else Some (msrp_spelling (srp_pdu_sent now s))) ≡ Some octets → IsFitToSend Msrp octets
  said-streams now s octets true is rows own ranges e = cc
  said-streams now s octets false is rows own ranges e =
      let same : msrp_spelling (srp_pdu_sent now s) ≡ octets = cc in
      let written = streams.written now s rows own ranges is in
      subst (IsFitToSend Msrp) same (record {
        short = written.short;
        proper = λ pdu reads.
            let read : as_written (srp_pdu_sent now s) ≡ pdu = (let there = written.reads in cc) in
            subst (λ (p : MsrpPdu). AreInRange p.events) read (streams.in_range now s rows ranges);
      })

  fit-vlans : (at : ℕ) (s : NodeState) (octets : List ℕ) → IsProperNode s → said_mvrp s.clock at s.vlans ≡ Some octets → IsFitToSend Mvrp octets
  fit-vlans at s octets h is = by (slice_get s.vlans.parts at) refl is
    where
      by : (o : Option Part) → slice_get s.vlans.parts at ≡ o
          → option_map_or (λ (p : Part). if is_silent p then None else Some (mvrp_spelling (pdu_sent s.clock p))) o None ≡ Some octets → IsFitToSend Mvrp octets
      by None here e = cc
      by (Some p) here e =
          said-vlans s.clock p octets (is_silent p) refl
          (at-place (λ (q : Part). AreRows nat_cmp q.rows) s.vlans.parts at p h.kept.vlans.rows here) (h.vids.parts at p here) e

  fit-streams : (at : ℕ) (s : NodeState) (octets : List ℕ) → IsProperNode s → said_msrp s.clock at s.streams ≡ Some octets → IsFitToSend Msrp octets
  fit-streams at s octets h is = by (slice_get s.streams.ports at) refl is
    where
      by : (o : Option PortState) → slice_get s.streams.ports at ≡ o
          → option_map_or (λ (p : PortState). if is_silent p.part then None else Some (msrp_spelling (srp_pdu_sent s.clock p.part))) o None ≡ Some octets → IsFitToSend Msrp octets
      by None here e = cc
      by (Some p) here e =
          let port = at-place (IsPort s.streams.moment) s.streams.ports at p h.kept.streams.ports here in
          said-streams s.clock p.part octets (is_silent p.part) refl port.rows port.contents
          (at-place (λ (q : PortState). HasRanges q.part) s.streams.ports at p h.ranges.parts here) e

  -- an outbox with a PDU more
  with-said : (app : App) (at : ℕ) (octets : List ℕ) (s : NodeState) → IsFitToSend app octets → IsProperNode s → IsProperNode (with_said app at octets s)
  with-said app at octets s fits h =
      let one : List Wire = record { app = app; octets = octets } ∷ [] in
      let box = box_at at s.outboxes in
      with-outbox s at (box ++ one)
      (each_append IsShort box one (each_box IsShort s.outboxes at h.kept.short_out) (fits.short, tt))
      (each_append IsProperWire box one (each_box IsProperWire s.outboxes at h.readable_out) (fits.proper, tt)) h

  sent-vlans : (at : ℕ) (o : Option (List ℕ)) (s : NodeState) → said_mvrp s.clock at s.vlans ≡ o → IsProperNode s → IsProperNode (sent_octets Mvrp at o s).0
  sent-vlans at None s is h = h
  sent-vlans at (Some octets) s is h =
      with-said Mvrp at octets (after_app Mvrp at s) (fit-vlans at s octets h is)
      (vlans-node s (sent_vlans s.clock at s.vlans) (vlans_sent s.clock at s.vlans) (laws.send s.clock at s.vlans) h)

  sent-streams : (at : ℕ) (o : Option (List ℕ)) (s : NodeState) → said_msrp s.clock at s.streams ≡ o → IsProperNode s → IsProperNode (sent_octets Msrp at o s).0
  sent-streams at None s is h = h
  sent-streams at (Some octets) s is h =
      with-said Msrp at octets (after_app Msrp at s) (fit-streams at s octets h is)
      (streams-node streams.count s (sent_streams s.clock at s.streams) (streams_sent s.clock at s.streams) (streams.send s.clock at s.streams) h)

  -- ---- all steps

  step-node : (step : PortStep) (at : ℕ) (s : NodeState) → IsProperNode s → IsProperNode (port_step step at s).0
  step-node Work at s h = worked-node at (box_at at s.inboxes) s (each_box IsShort s.inboxes at h.kept.short_in) (each_box IsProperWire s.inboxes at h.readable_in) h
  step-node (LeaveNow (Vlan vid)) at s h = vlans-node s (left_vlans at vid s.vlans) (vlans_left at vid s.vlans) (laws.leave_now at vid s.vlans) h
  step-node (LeaveNow (Srp key)) at s h = streams-node streams.count s (left_streams at key s.streams) (streams_left at key s.streams) (streams.leave_now at key s.streams) h
  step-node (LeaveAllNow Mvrp) at s h = vlans-node s (leave_all_vlans s.clock at s.vlans) (vlans_leave_all s.clock at s.vlans) (laws.leaveall_now s.clock at s.vlans) h
  step-node (LeaveAllNow Msrp) at s h =
      streams-node streams.count s (leave_all_streams s.clock at s.streams) (streams_leave_all s.clock at s.streams) (streams.leaveall_now s.clock at s.streams) h
  step-node (PeriodicNow Mvrp) at s h = vlans-node s (periodic_vlans at s.vlans) (vlans_periodic at s.vlans) (laws.periodic_now at s.vlans) h
  step-node (PeriodicNow Msrp) at s h = streams-node streams.count s (periodic_streams at s.streams) (streams_periodic at s.streams) (streams.periodic_now at s.streams) h
  step-node Due at s h =
      streams-node streams.count (record s { vlans = due_vlans s.clock at s.vlans }) (due_streams s.clock at s.streams) (streams_due s.clock at s.streams) (streams.due s.clock at s.streams)
      (vlans-node s (due_vlans s.clock at s.vlans) (vlans_due s.clock at s.vlans) (laws.due s.clock at s.vlans) h)
  step-node Settle at s h =
      streams-node streams.count (record s { vlans = settled_vlans at s.vlans }) (settled_streams at s.streams) (streams_settled at s.streams) (streams.settle at s.streams)
      (vlans-node s (settled_vlans at s.vlans) (vlans_settled at s.vlans) (laws.settle at s.vlans) h)
  step-node (Send Mvrp) at s h = sent-vlans at (said_mvrp s.clock at s.vlans) s refl h
  step-node (Send Msrp) at s h = sent-streams at (said_msrp s.clock at s.streams) s refl h

  -- a station's application asks for something
  asked-streams : (request : SrpRequest) (s : NodeState) → s.kind ≡ Station → IsRequestInRange request → IsProperNode s → IsProperNode (record s { streams = requested_streams request s.streams })
  asked-streams request s station fits h =
      with-streams streams.count s (requested_streams request s.streams) (moment_requested request s.streams) (λ k. absurd (no-bridge s.kind station k))
      (streams.request request s.streams fits (proper-streams s h)) h

  asked-vlans : (vid : ℕ) (declared : Bool) (s : NodeState) → s.kind ≡ Station → IsVid vid → IsProperNode s → IsProperNode (record s { vlans = requested_vlans vid declared s.vlans })
  asked-vlans vid declared s station fits h =
      with-vlans s (requested_vlans vid declared s.vlans) (laws.request vid declared s.vlans fits (proper-side s h)) (count_requested vid declared s.vlans)
      (λ k. absurd (no-bridge s.kind station k)) h

  pub proper-step : (event : NodeEvent) (s : NodeState) → CanStep event s → IsInRange event → IsProperNode s → IsProperNode (node_step event s).0
  proper-step (Request (Declare vid)) s can fits h = asked-vlans vid true s can fits h
  proper-step (Request (Withdraw vid)) s can fits h = asked-vlans vid false s can fits h
  proper-step (Request (Talk talker)) s can fits h = asked-streams (asks.Talk talker) s can fits h
  proper-step (Request (Hush stream)) s can fits h = asked-streams (asks.Hush stream) s can tt h
  proper-step (Request (Listen stream)) s can fits h = asked-streams (asks.Listen stream) s can tt h
  proper-step (Request (Unlisten stream)) s can fits h = asked-streams (asks.Unlisten stream) s can tt h
  proper-step (Port port step) s can fits h = step-node step (place_of port) s h
  proper-step Clock s can fits h =
      let moment = h.kept.moment in
      at-moment streams.count s (clocked_streams (s.clock.0 + 1) s.streams) (record { 0 = s.clock.0 + 1 })
      (record { moment = refl; end = omega (arith, can); none = λ k. record { talks = (h.idle k).talks; listens = (h.idle k).listens } })
      (streams.clock (s.clock.0 + 1) s.streams (omega (arith, moment)) (proper-streams s h)) h

-- ---- the PDUs that wait

pub proper-given : (at : ℕ) (wires : List Wire) (s : NodeState) → AreShort wires → AreProperWires wires → IsProperNode s → IsProperNode (with_outbox at wires s)
proper-given at wires s short proper h = with-outbox s at wires short proper h

pub proper-repeated : (at index : ℕ) (s : NodeState) → IsProperNode s → IsProperNode (repeated_at at index s)
proper-repeated at index s h =
    let box = box_at at s.inboxes in
    with-inbox s at _
    (each_repeated IsShort index box (each_box IsShort s.inboxes at h.kept.short_in))
    (each_repeated IsProperWire index box (each_box IsProperWire s.inboxes at h.readable_in)) h

pub proper-forged : (at index : ℕ) (wire : Wire) (s : NodeState) → IsShort wire → IsProperWire wire → IsProperNode s → IsProperNode (forged_at at index wire s)
proper-forged at index wire s short proper h =
    let box = box_at at s.inboxes in
    with-inbox s at (with_wire index wire box)
    (each_with IsShort index wire box short (each_box IsShort s.inboxes at h.kept.short_in))
    (each_with IsProperWire index wire box proper (each_box IsProperWire s.inboxes at h.readable_in)) h

pub proper-spoilt : ((at : ℕ) (side : Vlans) → IsProper side → IsProper (spoilt_vlans at side))
    → ((at : ℕ) (side : Streams) → IsProperSrp side → Keeps side (spoilt_streams at side))
    → ((a b : Streams) → setups_of a ≡ setups_of b → length a.ports ≡ length b.ports)
    → (app : App) (at : ℕ) (s : NodeState) → IsProperNode s → IsProperNode (spoilt_at app at s)
proper-spoilt law streams count Mvrp at s h = vlans-node s (spoilt_vlans at s.vlans) (vlans_spoilt at s.vlans) (law at s.vlans) h
proper-spoilt law streams count Msrp at s h = streams-node count s (spoilt_streams at s.streams) (streams_spoilt at s.streams) (streams at s.streams) h
