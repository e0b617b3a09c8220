-- What a node's steps make of the participants of MSRP. A PDU of MSRP reads as its events in the order of types, which say the
-- same of each key as what was sent.
use Rattle.std.proofs.Common.{◌≡◌, ◌≢◌, ℕ, zero, suc, Bool, true, false, if◌then◌else◌, List, [], ◌∷◌, ◌++◌, map, refl, sym, ap, subst, ◌∙◌, arith}
use Rattle.std.proofs.lemmas.Option.{slice_get_within}
use Rattle.std.specs.Prelude.{slice_get, slice_set, Option, Some, None, option_map, Result, Ok, Err}
use Rattle.std.specs.Option.{option_map_or}
use Rattle.srp_base.proofs.{Options.one_some, Lists.at_each, Lists.within}
use Rattle.srp_base.specs.declared.{numbers.Cs.Cs, mrp.App.App, mrp.App.TheVariants.Mvrp, mrp.App.TheVariants.Msrp}
use Rattle.msrp_codec.specs.declared.{pdu.MsrpKey.MsrpKey, pdu.MsrpContent.MsrpContent, pdu.MsrpPdu.MsrpPdu}
use Rattle.msrp_codec.specs.{Content.base_octets, Content.octets_of, Meaning.msrp_reading, Writing.msrp_spelling, Writing.as_written, Writing.of_key}
use Rattle.mrp_participant.specs.{Duty.IsDutyMet, Lookup.same, State.Messages, State.AreRows, State.is_active, State.is_silent, State.due_state, State.left_keys, State.left_state, State.leave_all_state, State.periodic_state, Link.LinkEvent, MarkedLink.Mark, MarkedLink.MarkedLink, MarkedLink.IsNoMore, MarkedLink.AreMarkedDutiesMet, MarkedLink.after_marked_event, MarkedLink.other_marked_view}
use Rattle.msrp.specs.{PortState.PortState, Part.Part, Part.HasOwnContents, Part.key_cmp, Part.same_content, Part.pdu_sent, Part.received_part, Part.told_by_receipt, Part.sent_part, Part.settled_as, Part.settled_part, Proper.HasRanges, Settling.next_book, Settling.moved_streams, Settling.settling_keys, Settling.talker_keys, Side.Streams, Side.IsPort, Side.IsWritten, Side.at_port, Side.with_port, Side.with_part, Side.with_told_port, Side.with_port_at, Side.left_key, Side.is_talk, Side.has_talk, Side.has_listen, Side.with_asks, Side.talks_without, Side.listens_without, Side.seen_by, Side.awaiting_at, Side.moved_keys, Side.settled_at, Side.clocked_port, Side.received_streams, Side.due_streams, Side.left_streams, Side.leave_all_streams, Side.periodic_streams, Side.settled_streams, Side.sent_streams, Side.spoilt_streams, Side.requested_streams, Stream.talk_of, Stream.stated_at}
use Rattle.msrp.specs.declared.asking.SrpRequest.{SrpRequest}
use Rattle.msrp.specs.declared.asking.SrpRequest.TheVariants as asks
use Rattle.attribute_propagation.specs.Ports.{marked_elsewhere}
use Rattle.attribute_propagation.proofs.Lists.{set_at, set_at_there, set_at_other}
use Rattle.node_core.specs.declared.{types.AppRequest.AppRequest, types.Wire.Wire, types.NodeKey.TheVariants.Vlan, types.NodeKey.TheVariants.Srp, types.PortStep.PortStep}
use Rattle.node_core.specs.declared.types.AppRequest.TheVariants.{Declare, Withdraw, Talk, Hush, Listen, Unlisten}
use Rattle.node_core.specs.declared.types.NodeEvent.TheVariants as node_events
use Rattle.node_core.specs.declared.types.PortStep.TheVariants.{Work, LeaveNow, LeaveAllNow, PeriodicNow, Due, Settle, Send}
use Rattle.node_core.specs.{State.NodeState, State.box_at, Step.node_step, Step.port_step, Step.after_work, Step.worked_app, Step.worked_msrp, Step.octets_to_say, Step.sent_octets, Leaving.streams_leave, Leaving.octets_leave, Leaving.is_leave_all_at, Links.spoilt_at, Proper.IsProperNode}
use Rattle.world_core.specs.{said_of_streams, octets_said, streams_said, stream_place, is_same_app}
use Rattle.world_core.proofs.{Boxes.box_got, Boxes.box_set, Views.AppView, Views.LinkLaws, Views.StepFacts, Views.KeepsLink, Views.both_heard, Views.both_said, Views.both_stepped, Views.both_same, Views.says_leave_all, Views.unsound, Nodes.outbox_there, LinkSteps.KeepsNear, LinkSteps.HasSpoken, LinkSteps.declares, LinkSteps.withdraws, LinkSteps.leaves, LinkSteps.fires, LinkSteps.fires_leave_all, LinkSteps.fires_periodic, LinkSteps.all_keep, LinkSteps.same_near, LinkSteps.called, LinkSteps.hearing, LinkSteps.taken, LinkSteps.spoken, LinkSteps.unheard, LinkSteps.still}

-- MSRP as the network's proofs see it
abbrev pub stream_view : AppView MsrpKey MsrpContent
stream_view = record { cmp = key_cmp; part = stream_place; said = streams_said; app = Msrp }

-- what the public laws of a link and of what is sent say of MSRP
pub record StreamLaws : Type 0 where
  pub event : (l : MarkedLink MsrpKey MsrpContent) (e : LinkEvent MsrpKey MsrpContent) → AreMarkedDutiesMet key_cmp l
      → AreMarkedDutiesMet key_cmp (after_marked_event base_octets octets_of key_cmp same_content l e)
  pub turns : (l : MarkedLink MsrpKey MsrpContent) → AreMarkedDutiesMet key_cmp l → AreMarkedDutiesMet key_cmp (other_marked_view l)
  pub fewer : (l : MarkedLink MsrpKey MsrpContent) (near far : Mark) → IsNoMore near l.near → IsNoMore far l.far
      → AreMarkedDutiesMet key_cmp l → AreMarkedDutiesMet key_cmp (record l { near = near; far = far })
  pub unsound : (near far : Part) (sent coming : List (Messages MsrpKey MsrpContent)) → near.sound ≡ false → IsDutyMet key_cmp near far sent coming
  pub written : (now : Cs) (s : Part) → AreRows key_cmp s.rows → HasOwnContents s → HasRanges s → is_silent s ≡ false → IsWritten (pdu_sent now s) (msrp_spelling (pdu_sent now s))
  pub each_key : (now : Cs) (s : Part) (key : MsrpKey) → AreRows key_cmp s.rows
      → of_key (λ k. same key_cmp k key) (as_written (pdu_sent now s)).events ≡ of_key (λ k. same key_cmp k key) (pdu_sent now s).events

abbrev pub stream_links : StreamLaws → LinkLaws stream_view
stream_links laws = record { base = base_octets; octets = octets_of; same = same_content; event = laws.event; turns = laws.turns; fewer = laws.fewer; unsound = laws.unsound }

-- ---- the ports after what is done at a place

-- one of them is another
ports_are : (at : ℕ) (make : PortState → Streams) (g : PortState → PortState) (v : Streams)
    → ((p : PortState) → (make p).ports ≡ slice_set v.ports at (g p)) → (at_port at make v).ports ≡ set_at at g v.ports
ports_are at make g v is = by (slice_get v.ports at)
  where
    by : (o : Option PortState) → (with_port o make v).ports ≡ option_map_or (λ x. slice_set v.ports at (g x)) o v.ports
    by None = refl
    by (Some p) = is p

-- what a step makes of the ports: the one at its place is another
abbrev pub MadeAt : ℕ → (PortState → PortState) → Streams → Streams → Type 0
MadeAt at g v u = u.ports ≡ set_at at g v.ports

-- a port with what a call makes of its participant
abbrev pub calling : (Part → Part) → PortState → PortState
calling f p = with_part (f p.part) p

received_is : (now : Cs) (at : ℕ) (pdu : MsrpPdu) (v : Streams) → MadeAt at (calling (received_part now pdu)) v (received_streams now at pdu v)
received_is now at pdu v = ports_are at (λ p. with_told_port at (with_part (received_part now pdu p.part) p) (told_by_receipt now pdu p.part) v) (calling (received_part now pdu)) v (λ p. refl)

due_is : (now : Cs) (at : ℕ) (v : Streams) → MadeAt at (calling (due_state now)) v (due_streams now at v)
due_is now at v = ports_are at (λ p. with_told_port at (with_part (due_state now p.part) p) (left_keys now p.part) v) (calling (due_state now)) v (λ p. refl)

left_is : (at : ℕ) (key : MsrpKey) (v : Streams) → MadeAt at (calling (left_state key_cmp key)) v (left_streams at key v)
left_is at key v = ports_are at (λ p. with_told_port at (with_part (left_state key_cmp key p.part) p) (left_key key p.part) v) (calling (left_state key_cmp key)) v (λ p. refl)

leave_all_is : (now : Cs) (at : ℕ) (v : Streams) → MadeAt at (calling (leave_all_state now)) v (leave_all_streams now at v)
leave_all_is now at v = ports_are at (λ p. with_port_at at (with_part (leave_all_state now p.part) p) v) (calling (leave_all_state now)) v (λ p. refl)

periodic_is : (at : ℕ) (v : Streams) → MadeAt at (calling periodic_state) v (periodic_streams at v)
periodic_is at v = ports_are at (λ p. with_port_at at (with_part (periodic_state p.part) p) v) (calling periodic_state) v (λ p. refl)

settled_is : (at : ℕ) (v : Streams) → MadeAt at (settled_at at v) v (settled_streams at v)
settled_is at v =
    ports_are at (λ p. record v { ports = slice_set v.ports at (settled_at at v p); awaiting = slice_set (marked_elsewhere key_cmp at (moved_keys at v p) v.awaiting) at [] })
    (settled_at at v) v (λ p. refl)

sent_is : (now : Cs) (at : ℕ) (v : Streams) → MadeAt at (calling (sent_part now)) v (sent_streams now at v)
sent_is now at v = ports_are at (λ p. with_port_at at (with_part (sent_part now p.part) p) v) (calling (sent_part now)) v (λ p. refl)

pub spoilt_is : (at : ℕ) (v : Streams) → MadeAt at (calling unsound) v (spoilt_streams at v)
spoilt_is at v = ports_are at (λ p. with_port_at at (with_part (unsound p.part) p) v) (calling unsound) v (λ p. refl)

made_apart : (at k : ℕ) (g : PortState → PortState) (v u : Streams) → at ≢ k → MadeAt at g v u
    → option_map (λ (p : PortState). p.part) (slice_get u.ports k) ≡ option_map (λ (p : PortState). p.part) (slice_get v.ports k)
made_apart at k g v u ne is = ap (option_map (λ (p : PortState). p.part)) (ap (λ (ps : List PortState). slice_get ps k) is ∙ set_at_other at k g v.ports ne)

-- the participant there is what a call makes of it
called_there : (at : ℕ) (f : Part → Part) (v u : Streams) → MadeAt at (calling f) v u
    → option_map (λ (p : PortState). p.part) (slice_get u.ports at) ≡ option_map f (option_map (λ (p : PortState). p.part) (slice_get v.ports at))
called_there at f v u is =
    ap (option_map (λ (p : PortState). p.part)) (ap (λ (ps : List PortState). slice_get ps at) is ∙ set_at_there at (calling f) v.ports) ∙ by (slice_get v.ports at)
  where
    by : (o : Option PortState) → option_map (λ (p : PortState). p.part) (option_map (calling f) o) ≡ option_map f (option_map (λ (p : PortState). p.part) o)
    by None = refl
    by (Some p) = refl

-- ---- other places

worked_apart : (app : App) (at k : ℕ) (os : List ℕ) (s : NodeState) → at ≢ k → stream_place k (worked_app app at os s).0 ≡ stream_place k s
worked_apart Mvrp at k os s ne = refl
worked_apart Msrp at k os s ne = by (msrp_reading os)
  where
    by : (r : Result MsrpPdu ℕ) → option_map (λ (p : PortState). p.part)
        (slice_get (worked_msrp s.clock at r s.streams).0.ports k) ≡ option_map (λ (p : PortState). p.part) (slice_get s.streams.ports k)
    by (Ok pdu) = made_apart at k (calling (received_part s.clock pdu)) s.streams (received_streams s.clock at pdu s.streams) ne (received_is s.clock at pdu s.streams)
    by (Err place) = refl

taken_apart : (at k : ℕ) (wires : List Wire) (s : NodeState) → at ≢ k → stream_place k (after_work at wires s).0 ≡ stream_place k s
taken_apart at k [] s ne = refl
taken_apart at k (wire ∷ wires) s ne = worked_apart wire.app at k wire.octets (record s { inboxes = slice_set s.inboxes at wires }) ne

sent_apart : (app : App) (at k : ℕ) (o : Option (List ℕ)) (s : NodeState) → at ≢ k → stream_place k (sent_octets app at o s).0 ≡ stream_place k s
sent_apart app at k None s ne = refl
sent_apart Mvrp at k (Some os) s ne = refl
sent_apart Msrp at k (Some os) s ne = made_apart at k (calling (sent_part s.clock)) s.streams (sent_streams s.clock at s.streams) ne (sent_is s.clock at s.streams)

step_apart : (step : PortStep) (at k : ℕ) (s : NodeState) → at ≢ k → stream_place k (port_step step at s).0 ≡ stream_place k s
step_apart Work at k s ne = taken_apart at k (box_at at s.inboxes) s ne
step_apart (LeaveNow (Vlan vid)) at k s ne = refl
step_apart (LeaveNow (Srp key)) at k s ne = made_apart at k (calling (left_state key_cmp key)) s.streams (left_streams at key s.streams) ne (left_is at key s.streams)
step_apart (LeaveAllNow Mvrp) at k s ne = refl
step_apart (LeaveAllNow Msrp) at k s ne = made_apart at k (calling (leave_all_state s.clock)) s.streams (leave_all_streams s.clock at s.streams) ne (leave_all_is s.clock at s.streams)
step_apart (PeriodicNow Mvrp) at k s ne = refl
step_apart (PeriodicNow Msrp) at k s ne = made_apart at k (calling periodic_state) s.streams (periodic_streams at s.streams) ne (periodic_is at s.streams)
step_apart Due at k s ne = made_apart at k (calling (due_state s.clock)) s.streams (due_streams s.clock at s.streams) ne (due_is s.clock at s.streams)
step_apart Settle at k s ne = made_apart at k (settled_at at s.streams) s.streams (settled_streams at s.streams) ne (settled_is at s.streams)
step_apart (Send app) at k s ne = sent_apart app at k (octets_to_say app at s) s ne

spoilt_apart : (app : App) (at k : ℕ) (s : NodeState) → at ≢ k → stream_place k (spoilt_at app at s) ≡ stream_place k s
spoilt_apart Mvrp at k s ne = refl
spoilt_apart Msrp at k s ne = made_apart at k (calling unsound) s.streams (spoilt_streams at s.streams) ne (spoilt_is at s.streams)

spoilt_other : (app : App) (at k : ℕ) (s : NodeState) → is_same_app Msrp app ≡ false → stream_place k (spoilt_at app at s) ≡ stream_place k s
spoilt_other Mvrp at k s ne = refl
spoilt_other Msrp at k s ne = cc

-- ---- requests, and the clock

-- a choice between two sides with the same ports
pub either_ports : (b : Bool) (v x y : Streams) → x.ports ≡ v.ports → y.ports ≡ v.ports → (if b then x else y).ports ≡ v.ports
either_ports true v x y h i = h
either_ports false v x y h i = i

pub asked_ports : (request : SrpRequest) (v : Streams) → (requested_streams request v).ports ≡ v.ports
asked_ports (asks.Talk talker) v = either_ports (is_talk (talk_of talker.stream v.talks) talker) v v (with_asks talker.stream (talker ∷ talks_without talker.stream v.talks) v.listens v) refl refl
asked_ports (asks.Hush stream) v = either_ports (has_talk stream v) v (with_asks stream (talks_without stream v.talks) v.listens v) v refl refl
asked_ports (asks.Listen stream) v = either_ports (has_listen stream v) v v (with_asks stream v.talks (stream ∷ v.listens) v) refl refl
asked_ports (asks.Unlisten stream) v = either_ports (has_listen stream v) v (with_asks stream v.talks (listens_without stream v.listens) v) v refl refl

asked_same : (request : AppRequest) (k : ℕ) (s : NodeState) → stream_place k (node_step (node_events.Request request) s).0 ≡ stream_place k s
asked_same (Declare vid) k s = refl
asked_same (Withdraw vid) k s = refl
asked_same (Talk talker) k s = ap (λ (ps : List PortState). option_map (λ (p : PortState). p.part) (slice_get ps k)) (asked_ports (asks.Talk talker) s.streams)
asked_same (Hush stream) k s = ap (λ (ps : List PortState). option_map (λ (p : PortState). p.part) (slice_get ps k)) (asked_ports (asks.Hush stream) s.streams)
asked_same (Listen stream) k s = ap (λ (ps : List PortState). option_map (λ (p : PortState). p.part) (slice_get ps k)) (asked_ports (asks.Listen stream) s.streams)
asked_same (Unlisten stream) k s = ap (λ (ps : List PortState). option_map (λ (p : PortState). p.part) (slice_get ps k)) (asked_ports (asks.Unlisten stream) s.streams)

clocked_same : (now : ℕ) (ps : List PortState) (k : ℕ) → option_map (λ (p : PortState). p.part) (slice_get (map (clocked_port now) ps) k) ≡ option_map (λ (p : PortState). p.part) (slice_get ps k)
clocked_same now [] k = refl
clocked_same now (p ∷ ps) zero = refl
clocked_same now (p ∷ ps) (suc k) = clocked_same now ps k

silent_app : (app : App) (os : List ℕ) → is_same_app Msrp app ≡ false → octets_said app os ≡ None
silent_app Mvrp os ne = refl
silent_app Msrp os ne = cc

-- what it says has LeaveAll where its reading has
leaves_as : (app : App) (os : List ℕ) → is_same_app Msrp app ≡ true → octets_leave app os ≡ says_leave_all (octets_said app os)
leaves_as Mvrp os own = cc
leaves_as Msrp os own = by (msrp_reading os)
  where
    by : (r : Result MsrpPdu ℕ) → streams_leave r ≡ says_leave_all (said_of_streams r)
    by (Ok pdu) = refl
    by (Err place) = refl

-- ---- at the place itself

-- the port of a participant
port_of : (o : Option PortState) (x : Part) → option_map (λ (p : PortState). p.part) o ≡ Some x → (p : PortState) × (o ≡ Some p) × (p.part ≡ x)
port_of None x e = cc
port_of (Some p) x e = (p, refl, cc)

-- its outbox is there
out_there : (at : ℕ) (s : NodeState) → IsProperNode s → (p : PortState) → slice_get s.streams.ports at ≡ Some p → (ws : List Wire) × (slice_get s.outboxes at ≡ Some ws)
out_there at s proper p is =
    let below = slice_get_within s.streams.ports at p is in
    let ports = proper.kept.same_ports in
    outbox_there s proper at (omega (arith, below, ports))

module _ (laws : StreamLaws) where
  abbrev links : LinkLaws stream_view
  links = stream_links laws

  settles : (key : MsrpKey) (o : Option MsrpContent) (x : Part) → KeepsNear stream_view links x (settled_as key o x)
  settles key None x = withdraws stream_view links key x
  settles key (Some content) x = declares stream_view links key content x

  settles_all : (rule : MsrpKey → Option MsrpContent) (keys : List MsrpKey) (x : Part) → KeepsNear stream_view links x (settled_part rule keys x)
  settles_all rule keys x = all_keep stream_view links (λ (t : Part) (key : MsrpKey). settled_as key (rule key) t) (λ y key. settles key (rule key) y) keys x

  settles_port : (at : ℕ) (v : Streams) (p : PortState) → KeepsNear stream_view links p.part (settled_at at v p).part
  settles_port at v p =
      let book = next_book at (seen_by v) (awaiting_at at v) p in
      settles_all (stated_at at (record p { ledger = book }) (seen_by v)) (settling_keys (moved_streams p.ledger book) (talker_keys v.talks v.ports) (awaiting_at at v)) p.part

  -- the port at the place is another, by calls of its participant
  made_kept : (at : ℕ) (s t : NodeState) (g : PortState → PortState) → ((p : PortState) → KeepsNear stream_view links p.part (g p).part) → MadeAt at g s.streams t.streams
      → box_at at t.inboxes ≡ box_at at s.inboxes → box_at at t.outboxes ≡ box_at at s.outboxes → KeepsLink stream_view at s t both_same
  made_kept at s t g keeps made ins outs =
      called stream_view links at s t
      (λ x y old new. near (slice_get s.streams.ports at) x y old (ap (option_map (λ (p : PortState). p.part)) (sym (set_at_there at g s.streams.ports))
      ∙ (ap (λ (ps : List PortState). option_map (λ (p : PortState). p.part) (slice_get ps at)) (sym made) ∙ new)))
      ins outs
    where
      near : (o : Option PortState) (x y : Part) → option_map (λ (p : PortState). p.part) o ≡ Some x
          → option_map (λ (p : PortState). p.part) (option_map g o) ≡ Some y → KeepsNear stream_view links x y
      near None x y old new = cc
      near (Some p) x y old new =
          let ex : p.part ≡ x = cc in
          let ey : (g p).part ≡ y = cc in
          subst (λ (a : Part). KeepsNear stream_view links a y) ex (subst (λ (b : Part). KeepsNear stream_view links p.part b) ey (keeps p))

  -- nothing of MSRP
  none_kept : (at : ℕ) (s t : NodeState) → stream_place at t ≡ stream_place at s
      → box_at at t.inboxes ≡ box_at at s.inboxes → box_at at t.outboxes ≡ box_at at s.outboxes → KeepsLink stream_view at s t both_same
  none_kept at s t same_part ins outs =
      called stream_view links at s t (λ x y old new. same_near stream_view links x y (one_some _ x y old (sym same_part ∙ new))) ins outs

  work_kept : (at : ℕ) (wires : List Wire) (s : NodeState) → box_at at s.inboxes ≡ wires → KeepsLink stream_view at s (after_work at wires s).0 (both_heard Msrp (slice_get wires 0))
  work_kept at [] s is = still stream_view links at s
  work_kept at (wire ∷ wires) s is = by wire.app refl
    where
      left : box_at at (slice_set s.inboxes at wires) ≡ wires
      left = box_set s.inboxes at wire wires wires is

      same_there : (o : Option Part) → o ≡ option_map (λ x. x) o
      same_there None = refl
      same_there (Some x) = refl

      heard : (r : Result MsrpPdu ℕ) → option_map (λ (p : PortState). p.part)
          (slice_get (worked_msrp s.clock at r s.streams).0.ports at) ≡ option_map (hearing stream_view links s.clock (said_of_streams r)) (stream_place at s)
      heard (Ok pdu) = called_there at (received_part s.clock pdu) s.streams (received_streams s.clock at pdu s.streams) (received_is s.clock at pdu s.streams)
      heard (Err place) = same_there (stream_place at s)

      by : (app : App) → wire.app ≡ app → KeepsLink stream_view at s (worked_app wire.app at wire.octets (record s { inboxes = slice_set s.inboxes at wires })).0 (both_heard Msrp (Some wire))
      by Mvrp e =
          subst (λ (a : App). KeepsLink stream_view at s (worked_app a at wire.octets (record s { inboxes = slice_set s.inboxes at wires })).0 (both_heard Msrp (Some wire))) (sym e)
          (taken stream_view links s.clock at s (worked_app Mvrp at wire.octets (record s { inboxes = slice_set s.inboxes at wires })).0 wire wires
          (is_same_app Msrp wire.app) refl (silent_app wire.app wire.octets) (leaves_as wire.app wire.octets)
          (subst (λ (a : App). stream_place at s ≡ option_map (hearing stream_view links s.clock (octets_said a wire.octets)) (stream_place at s)) (sym e) (same_there (stream_place at s)))
          is left refl)
      by Msrp e =
          subst (λ (a : App). KeepsLink stream_view at s (worked_app a at wire.octets (record s { inboxes = slice_set s.inboxes at wires })).0 (both_heard Msrp (Some wire))) (sym e)
          (taken stream_view links s.clock at s (worked_app Msrp at wire.octets (record s { inboxes = slice_set s.inboxes at wires })).0 wire wires
          (is_same_app Msrp wire.app) refl (silent_app wire.app wire.octets) (leaves_as wire.app wire.octets)
          (subst (λ (a : App). option_map (λ (p : PortState). p.part) (slice_get (worked_msrp s.clock at (msrp_reading wire.octets) s.streams).0.ports at)
          ≡ option_map (hearing stream_view links s.clock (octets_said a wire.octets)) (stream_place at s)) (sym e) (heard (msrp_reading wire.octets)))
          is left refl)

  -- the octets say the same of each key as what the participant sends
  spoken_there : (at : ℕ) (s : NodeState) → IsProperNode s → (p : PortState) → slice_get s.streams.ports at ≡ Some p → is_silent p.part ≡ false
      → HasSpoken stream_view links s.clock at s (sent_octets Msrp at (Some (msrp_spelling (pdu_sent s.clock p.part))) s).0 (is_leave_all_at Msrp at s) p.part
  spoken_there at s proper p old loud =
      let there = out_there at s proper p old in
      let wire : Wire = record { app = Msrp; octets = msrp_spelling (pdu_sent s.clock p.part) } in
      let port = at_each (IsPort s.streams.moment) s.streams.ports proper.kept.streams.ports at p old in
      let ranges = at_each (λ (q : PortState). HasRanges q.part) s.streams.ports proper.ranges.parts at p old in
      record {
        loud = loud;
        leave_all_is = ap (λ (o : Option PortState). option_map_or (λ (q : PortState). is_active q.part.leave_all) o false) old;
        own = refl;
        part = called_there at (sent_part s.clock) s.streams (sent_streams s.clock at s.streams) (sent_is s.clock at s.streams)
            ∙ ap (λ (o : Option PortState). option_map (sent_part s.clock) (option_map (λ (q : PortState). q.part) o)) old;
        wire = wire;
        says = record { leave_all = (as_written (pdu_sent s.clock p.part)).leave_all; events = (as_written (pdu_sent s.clock p.part)).events };
        read = ap said_of_streams (laws.written s.clock p.part port.rows port.contents ranges loud).reads;
        same = record { leave_all = refl; of_key = λ k. sym (laws.each_key s.clock p.part k port.rows) };
        ins = refl;
        outs = box_got s.outboxes at there.0 (box_at at s.outboxes ++ (wire ∷ [])) there.1;
      }

  -- there is a participant, and it is silent or not
  sent_kept : (at : ℕ) (s : NodeState) → IsProperNode s → (o : Option PortState) → slice_get s.streams.ports at ≡ o
      → KeepsLink stream_view at s (sent_octets Msrp at (option_map_or (λ (port : PortState). if is_silent port.part then None else Some (msrp_spelling (pdu_sent s.clock port.part))) o None) s).0
      (both_said true (is_leave_all_at Msrp at s) (sent_octets Msrp at
      (option_map_or (λ (port : PortState). if is_silent port.part then None else Some (msrp_spelling (pdu_sent s.clock port.part))) o None) s).1)
  sent_kept at s proper None is = still stream_view links at s
  sent_kept at s proper (Some p) is = by (is_silent p.part) refl
    where
      by : (b : Bool) → is_silent p.part ≡ b → KeepsLink stream_view at s (sent_octets Msrp at (if b then None else Some (msrp_spelling (pdu_sent s.clock p.part))) s).0
          (both_said true (is_leave_all_at Msrp at s) (sent_octets Msrp at (if b then None else Some (msrp_spelling (pdu_sent s.clock p.part))) s).1)
      by true e = still stream_view links at s
      by false e =
          spoken stream_view links (λ wire ne. silent_app wire.app wire.octets ne) s.clock at s (sent_octets Msrp at (Some (msrp_spelling (pdu_sent s.clock p.part))) s).0 (is_leave_all_at Msrp at s)
          (λ y old. subst (λ (x : Part). HasSpoken stream_view links s.clock at s (sent_octets Msrp at (Some (msrp_spelling (pdu_sent s.clock p.part))) s).0 (is_leave_all_at Msrp at s) x)
          (one_some _ p.part y (ap (option_map (λ (q : PortState). q.part)) is) old) (spoken_there at s proper p is e))

  -- what MVRP sends says nothing to it
  other_sent : (at : ℕ) (o : Option (List ℕ)) (s : NodeState) → IsProperNode s
      → KeepsLink stream_view at s (sent_octets Mvrp at o s).0 (both_said false (is_leave_all_at Mvrp at s) (sent_octets Mvrp at o s).1)
  other_sent at None s proper = still stream_view links at s
  other_sent at (Some os) s proper = λ x y z far_in far_out marks old new met.
      let port = port_of (slice_get s.streams.ports at) x old in
      let there = out_there at s proper port.0 port.1 in
      let wire : Wire = record { app = Mvrp; octets = os } in
      unheard stream_view links at s (sent_octets Mvrp at (Some os) s).0 refl refl wire refl refl (box_got s.outboxes at there.0 (box_at at s.outboxes ++ (wire ∷ [])) there.1)
      x y z far_in far_out marks old new met

  step_kept : (step : PortStep) (at : ℕ) (s : NodeState) → IsProperNode s → KeepsLink stream_view at s (port_step step at s).0 (both_stepped Msrp step at s (port_step step at s).1)
  step_kept Work at s proper = work_kept at (box_at at s.inboxes) s refl
  step_kept (LeaveNow (Vlan vid)) at s proper = none_kept at s (port_step (LeaveNow (Vlan vid)) at s).0 refl refl refl
  step_kept (LeaveNow (Srp key)) at s proper = made_kept at s (port_step (LeaveNow (Srp key)) at s).0
      (calling (left_state key_cmp key)) (λ p. leaves stream_view links key p.part) (left_is at key s.streams) refl refl
  step_kept (LeaveAllNow Mvrp) at s proper = none_kept at s (port_step (LeaveAllNow Mvrp) at s).0 refl refl refl
  step_kept (LeaveAllNow Msrp) at s proper = made_kept at s (port_step (LeaveAllNow Msrp) at s).0 (calling (leave_all_state s.clock))
      (λ p. fires_leave_all stream_view links s.clock p.part) (leave_all_is s.clock at s.streams) refl refl
  step_kept (PeriodicNow Mvrp) at s proper = none_kept at s (port_step (PeriodicNow Mvrp) at s).0 refl refl refl
  step_kept (PeriodicNow Msrp) at s proper = made_kept at s (port_step (PeriodicNow Msrp) at s).0
      (calling periodic_state) (λ p. fires_periodic stream_view links p.part) (periodic_is at s.streams) refl refl
  step_kept Due at s proper = made_kept at s (port_step Due at s).0 (calling (due_state s.clock)) (λ p. fires stream_view links s.clock p.part) (due_is s.clock at s.streams) refl refl
  step_kept Settle at s proper = made_kept at s (port_step Settle at s).0 (settled_at at s.streams) (settles_port at s.streams) (settled_is at s.streams) refl refl
  step_kept (Send Mvrp) at s proper = other_sent at (octets_to_say Mvrp at s) s proper
  step_kept (Send Msrp) at s proper = sent_kept at s proper (slice_get s.streams.ports at) refl

  pub stream_facts : StepFacts stream_view
  stream_facts =
      record {
        there = λ at s proper below.
            let ports = proper.kept.same_ports in
            let port = within s.streams.ports at (omega (arith, below, ports)) in
            (port.0.part, ap (option_map (λ (p : PortState). p.part)) port.1);
        others_say = λ wire ne. silent_app wire.app wire.octets ne;
        boxes = λ k s ins outs. refl;
        asked = asked_same;
        ticked = λ k s. clocked_same _ s.streams.ports k;
        apart = step_apart;
        keeps = step_kept;
        spoilt_own = λ at s x is. called_there at unsound s.streams (spoilt_streams at s.streams) (spoilt_is at s.streams) ∙ ap (option_map unsound) is;
        spoilt_apart = spoilt_apart;
        spoilt_other = spoilt_other;
      }
