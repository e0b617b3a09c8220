-- What a node's steps make of the participants of MVRP.
use Rattle.std.proofs.Common.{◌≡◌, ◌≢◌, ℕ, Bool, true, false, if◌then◌else◌, List, [], ◌∷◌, ◌++◌, refl, sym, ap, subst, ◌∙◌}
use Rattle.std.proofs.lemmas.Option.{slice_get_within}
use Rattle.std.specs.Prelude.{slice_get, slice_set, Option, Some, None, option_map, Result, Ok, Err}
use Rattle.std.specs.{Option.option_map_or, Ordering.nat_cmp}
use Rattle.srp_base.proofs.{Options.one_some, Lists.at_each, Lists.within}
use Rattle.srp_base.specs.declared.{numbers.Cs.Cs, mrp.App.App, mrp.App.TheVariants.Mvrp, mrp.App.TheVariants.Msrp, mrp.MrpEvent.MrpEvent}
use Rattle.mvrp_codec.specs.declared.pdu.MvrpPdu.{MvrpPdu}
use Rattle.mvrp_codec.specs.{Meaning.mvrp_reading, Writing.mvrp_spelling}
use Rattle.mrp_participant.specs.{Duty.IsDutyMet, State.Messages, State.AreRows, State.is_active, State.is_silent, State.declared_state, State.withdrawn_state, State.due_state, State.left_keys, State.left_state, State.leave_all_state, State.periodic_state, State.sent_messages, State.sent_events, Link.LinkEvent, MarkedLink.Mark, MarkedLink.MarkedLink, MarkedLink.IsNoMore, MarkedLink.AreMarkedDutiesMet, MarkedLink.after_marked_event, MarkedLink.other_marked_view}
use Rattle.attribute_propagation.proofs.Lists.{set_at, set_at_there, set_at_other}
use Rattle.mvrp.specs.{Part.Part, Part.base, Part.octets, Part.pdu_sent, Part.received_part, Part.told_by_receipt, Part.sent_part, Part.settled_vid, Part.settled_part, Side.Vlans, Side.IsWritten, Side.with_told_part, Side.left_vids, Side.has_own, Side.is_flat, Side.received_vlans, Side.due_vlans, Side.left_vlans, Side.leave_all_vlans, Side.periodic_vlans, Side.settled_vlans, Side.sent_vlans, Side.spoilt_vlans, Vids.HasVidRows}
use Rattle.flat_side.specs.{Part.same_content, Side.with_part, Side.at_part, Side.with_part_at, Side.awaiting_at}
use Rattle.flat_side.proofs.Lists.{contents_again}
use Rattle.node_core.specs.declared.{types.AppRequest.AppRequest, types.Wire.Wire, types.NodeKey.TheVariants.Vlan, types.NodeKey.TheVariants.Srp, types.PortStep.PortStep}
use Rattle.node_core.specs.declared.types.AppRequest.TheVariants.{Declare, Withdraw, Talk, Hush, Listen, Unlisten}
use Rattle.node_core.specs.declared.types.NodeEvent.TheVariants as node_events
use Rattle.node_core.specs.declared.types.PortStep.TheVariants.{Work, LeaveNow, LeaveAllNow, PeriodicNow, Due, Settle, Send}
use Rattle.node_core.specs.{State.NodeState, State.box_at, Step.node_step, Step.port_step, Step.after_work, Step.worked_app, Step.worked_mvrp, Step.octets_to_say, Step.sent_octets, Leaving.vlans_leave, Leaving.octets_leave, Leaving.is_leave_all_at, Links.spoilt_at, Proper.IsProperNode}
use Rattle.world_core.specs.{said_of_vlans, vlans_said, message_of, vlan_place, is_same_app}
use Rattle.world_core.proofs.{Boxes.box_got, Boxes.box_set, Views.AppView, Views.LinkLaws, Views.StepFacts, Views.KeepsLink, Views.both_heard, Views.both_said, Views.both_stepped, Views.both_same, Views.says_leave_all, Views.unsound, Nodes.outbox_there, LinkSteps.KeepsNear, LinkSteps.HasSpoken, LinkSteps.declares, LinkSteps.withdraws, LinkSteps.leaves, LinkSteps.fires, LinkSteps.fires_leave_all, LinkSteps.fires_periodic, LinkSteps.all_keep, LinkSteps.same_near, LinkSteps.by_call, LinkSteps.called, LinkSteps.hearing, LinkSteps.taken, LinkSteps.spoken, LinkSteps.unheard, LinkSteps.still}

-- MVRP as the network's proofs see it
abbrev pub vlan_view : AppView ℕ (Unit {0})
vlan_view = record { cmp = nat_cmp; part = vlan_place; said = message_of; app = Mvrp }

-- what the public laws of a link and of what is sent say of MVRP
pub record VlanLaws : Type 0 where
  pub event : (l : MarkedLink ℕ (Unit {0})) (e : LinkEvent ℕ (Unit {0})) → AreMarkedDutiesMet nat_cmp l → AreMarkedDutiesMet nat_cmp (after_marked_event base octets nat_cmp same_content l e)
  pub turns : (l : MarkedLink ℕ (Unit {0})) → AreMarkedDutiesMet nat_cmp l → AreMarkedDutiesMet nat_cmp (other_marked_view l)
  pub fewer : (l : MarkedLink ℕ (Unit {0})) (near far : Mark) → IsNoMore near l.near → IsNoMore far l.far
      → AreMarkedDutiesMet nat_cmp l → AreMarkedDutiesMet nat_cmp (record l { near = near; far = far })
  pub unsound : (near far : Part) (sent coming : List (Messages ℕ (Unit {0}))) → near.sound ≡ false → IsDutyMet nat_cmp near far sent coming
  pub written : (now : Cs) (s : Part) → AreRows nat_cmp s.rows → HasVidRows s → is_silent s ≡ false → IsWritten (pdu_sent now s) (mvrp_spelling (pdu_sent now s))

abbrev pub vlan_links : VlanLaws → LinkLaws vlan_view
vlan_links laws = record { base = base; octets = octets; same = same_content; event = laws.event; turns = laws.turns; fewer = laws.fewer; unsound = laws.unsound }

-- ---- the participants after what is done at a place

-- one of them is another
parts_are : (at : ℕ) (make : Part → Vlans) (f : Part → Part) (v : Vlans) → ((s : Part) → (make s).parts ≡ slice_set v.parts at (f s)) → (at_part at make v).parts ≡ set_at at f v.parts
parts_are at make f v is = by (slice_get v.parts at)
  where
    by : (o : Option Part) → (with_part o make v).parts ≡ option_map_or (λ x. slice_set v.parts at (f x)) o v.parts
    by None = refl
    by (Some s) = is s

-- what a step makes of the participants: the one at its place is what a call makes of it
abbrev MadeAt : ℕ → (Part → Part) → Vlans → Vlans → Type 0
MadeAt at f v u = u.parts ≡ set_at at f v.parts

received_is : (now : Cs) (at : ℕ) (pdu : MvrpPdu) (v : Vlans) → MadeAt at (received_part now pdu) v (received_vlans now at pdu v)
received_is now at pdu v = parts_are at (λ s. with_told_part at (received_part now pdu s) (told_by_receipt now pdu s) v) (received_part now pdu) v (λ s. refl)

due_is : (now : Cs) (at : ℕ) (v : Vlans) → MadeAt at (due_state now) v (due_vlans now at v)
due_is now at v = parts_are at (λ s. with_told_part at (due_state now s) (left_keys now s) v) (due_state now) v (λ s. refl)

left_is : (at vid : ℕ) (v : Vlans) → MadeAt at (left_state nat_cmp vid) v (left_vlans at vid v)
left_is at vid v = parts_are at (λ s. with_told_part at (left_state nat_cmp vid s) (left_vids vid s) v) (left_state nat_cmp vid) v (λ s. refl)

leave_all_is : (now : Cs) (at : ℕ) (v : Vlans) → MadeAt at (leave_all_state now) v (leave_all_vlans now at v)
leave_all_is now at v = parts_are at (λ s. with_part_at at (leave_all_state now s) v) (leave_all_state now) v (λ s. refl)

periodic_is : (at : ℕ) (v : Vlans) → MadeAt at periodic_state v (periodic_vlans at v)
periodic_is at v = parts_are at (λ s. with_part_at at (periodic_state s) v) periodic_state v (λ s. refl)

settled_is : (at : ℕ) (v : Vlans) → MadeAt at (settled_part (is_flat v at) (awaiting_at at v)) v (settled_vlans at v)
settled_is at v =
    parts_are at (λ s. record v { parts = slice_set v.parts at (settled_part (is_flat v at) (awaiting_at at v) s); awaiting = slice_set v.awaiting at [] })
    (settled_part (is_flat v at) (awaiting_at at v)) v (λ s. refl)

sent_is : (now : Cs) (at : ℕ) (v : Vlans) → MadeAt at (sent_part now) v (sent_vlans now at v)
sent_is now at v = parts_are at (λ s. with_part_at at (sent_part now s) v) (sent_part now) v (λ s. refl)

spoilt_is : (at : ℕ) (v : Vlans) → MadeAt at unsound v (spoilt_vlans at v)
spoilt_is at v = parts_are at (λ s. with_part_at at (unsound s) v) unsound v (λ s. refl)

made_there : (at : ℕ) (f : Part → Part) (v u : Vlans) → MadeAt at f v u → slice_get u.parts at ≡ option_map f (slice_get v.parts at)
made_there at f v u is = ap (λ (ps : List Part). slice_get ps at) is ∙ set_at_there at f v.parts

made_apart : (at k : ℕ) (f : Part → Part) (v u : Vlans) → at ≢ k → MadeAt at f v u → slice_get u.parts k ≡ slice_get v.parts k
made_apart at k f v u ne is = ap (λ (ps : List Part). slice_get ps k) is ∙ set_at_other at k f v.parts ne

-- ---- other places

worked_apart : (app : App) (at k : ℕ) (os : List ℕ) (s : NodeState) → at ≢ k → slice_get (worked_app app at os s).0.vlans.parts k ≡ slice_get s.vlans.parts k
worked_apart Mvrp at k os s ne = by (mvrp_reading os)
  where
    by : (r : Result MvrpPdu ℕ) → slice_get (worked_mvrp s.clock at r s.vlans).0.parts k ≡ slice_get s.vlans.parts k
    by (Ok pdu) = made_apart at k (received_part s.clock pdu) s.vlans (received_vlans s.clock at pdu s.vlans) ne (received_is s.clock at pdu s.vlans)
    by (Err place) = refl
worked_apart Msrp at k os s ne = refl

taken_apart : (at k : ℕ) (wires : List Wire) (s : NodeState) → at ≢ k → slice_get (after_work at wires s).0.vlans.parts k ≡ slice_get s.vlans.parts k
taken_apart at k [] s ne = refl
taken_apart at k (wire ∷ wires) s ne = worked_apart wire.app at k wire.octets (record s { inboxes = slice_set s.inboxes at wires }) ne

sent_apart : (app : App) (at k : ℕ) (o : Option (List ℕ)) (s : NodeState) → at ≢ k → slice_get (sent_octets app at o s).0.vlans.parts k ≡ slice_get s.vlans.parts k
sent_apart app at k None s ne = refl
sent_apart Mvrp at k (Some os) s ne = made_apart at k (sent_part s.clock) s.vlans (sent_vlans s.clock at s.vlans) ne (sent_is s.clock at s.vlans)
sent_apart Msrp at k (Some os) s ne = refl

step_apart : (step : PortStep) (at k : ℕ) (s : NodeState) → at ≢ k → slice_get (port_step step at s).0.vlans.parts k ≡ slice_get s.vlans.parts k
step_apart Work at k s ne = taken_apart at k (box_at at s.inboxes) s ne
step_apart (LeaveNow (Vlan vid)) at k s ne = made_apart at k (left_state nat_cmp vid) s.vlans (left_vlans at vid s.vlans) ne (left_is at vid s.vlans)
step_apart (LeaveNow (Srp key)) at k s ne = refl
step_apart (LeaveAllNow Mvrp) at k s ne = made_apart at k (leave_all_state s.clock) s.vlans (leave_all_vlans s.clock at s.vlans) ne (leave_all_is s.clock at s.vlans)
step_apart (LeaveAllNow Msrp) at k s ne = refl
step_apart (PeriodicNow Mvrp) at k s ne = made_apart at k periodic_state s.vlans (periodic_vlans at s.vlans) ne (periodic_is at s.vlans)
step_apart (PeriodicNow Msrp) at k s ne = refl
step_apart Due at k s ne = made_apart at k (due_state s.clock) s.vlans (due_vlans s.clock at s.vlans) ne (due_is s.clock at s.vlans)
step_apart Settle at k s ne = made_apart at k (settled_part (is_flat s.vlans at) (awaiting_at at s.vlans)) s.vlans (settled_vlans at s.vlans) ne (settled_is at s.vlans)
step_apart (Send app) at k s ne = sent_apart app at k (octets_to_say app at s) s ne

spoilt_apart : (app : App) (at k : ℕ) (s : NodeState) → at ≢ k → slice_get (spoilt_at app at s).vlans.parts k ≡ slice_get s.vlans.parts k
spoilt_apart Mvrp at k s ne = made_apart at k unsound s.vlans (spoilt_vlans at s.vlans) ne (spoilt_is at s.vlans)
spoilt_apart Msrp at k s ne = refl

spoilt_other : (app : App) (at k : ℕ) (s : NodeState) → is_same_app Mvrp app ≡ false → slice_get (spoilt_at app at s).vlans.parts k ≡ slice_get s.vlans.parts k
spoilt_other Mvrp at k s ne = cc
spoilt_other Msrp at k s ne = refl

-- ---- requests

asked_same : (request : AppRequest) (k : ℕ) (s : NodeState) → slice_get (node_step (node_events.Request request) s).0.vlans.parts k ≡ slice_get s.vlans.parts k
asked_same (Declare vid) k s = either (has_own vid s.vlans) _ _ refl refl
  where
    either : (b : Bool) (x y : Vlans) → slice_get x.parts k ≡ slice_get s.vlans.parts k → slice_get y.parts k ≡ slice_get s.vlans.parts k
        → slice_get (if b then x else y).parts k ≡ slice_get s.vlans.parts k
    either true x y h i = h
    either false x y h i = i
asked_same (Withdraw vid) k s = either (has_own vid s.vlans) _ _ refl refl
  where
    either : (b : Bool) (x y : Vlans) → slice_get x.parts k ≡ slice_get s.vlans.parts k → slice_get y.parts k ≡ slice_get s.vlans.parts k
        → slice_get (if b then x else y).parts k ≡ slice_get s.vlans.parts k
    either true x y h i = h
    either false x y h i = i
asked_same (Talk talker) k s = refl
asked_same (Hush stream) k s = refl
asked_same (Listen stream) k s = refl
asked_same (Unlisten stream) k s = refl

silent_app : (app : App) (os : List ℕ) → is_same_app Mvrp app ≡ false → message_of (record { app = app; octets = os }) ≡ None
silent_app Mvrp os ne = cc
silent_app Msrp os ne = refl

-- what it says has LeaveAll where its reading has
leaves_as : (app : App) (os : List ℕ) → is_same_app Mvrp app ≡ true → octets_leave app os ≡ says_leave_all (vlans_said app os)
leaves_as Mvrp os own = by (mvrp_reading os)
  where
    by : (r : Result MvrpPdu ℕ) → vlans_leave r ≡ says_leave_all (said_of_vlans r)
    by (Ok pdu) = refl
    by (Err place) = refl
leaves_as Msrp os own = cc

-- ---- at the place itself

module _ (laws : VlanLaws) where
  abbrev links : LinkLaws vlan_view
  links = vlan_links laws

  settles : (rule : ℕ → Bool) (x : Part) (vid : ℕ) → KeepsNear vlan_view links x (settled_vid rule x vid)
  settles rule x vid = by (rule vid)
    where
      by : (b : Bool) → KeepsNear vlan_view links x (if b then declared_state nat_cmp same_content vid tt x else withdrawn_state nat_cmp vid x)
      by true = declares vlan_view links vid tt x
      by false = withdraws vlan_view links vid x

  -- a call alone
  call_kept : (at : ℕ) (s t : NodeState) (f : Part → Part) → ((x : Part) → KeepsNear vlan_view links x (f x)) → MadeAt at f s.vlans t.vlans
      → box_at at t.inboxes ≡ box_at at s.inboxes → box_at at t.outboxes ≡ box_at at s.outboxes → KeepsLink vlan_view at s t both_same
  call_kept at s t f keeps made ins outs =
      called vlan_view links at s t (by_call vlan_view links f keeps (slice_get s.vlans.parts at) (slice_get t.vlans.parts at) (made_there at f s.vlans t.vlans made)) ins outs

  -- nothing of MVRP
  none_kept : (at : ℕ) (s t : NodeState) → slice_get t.vlans.parts at ≡ slice_get s.vlans.parts at
      → box_at at t.inboxes ≡ box_at at s.inboxes → box_at at t.outboxes ≡ box_at at s.outboxes → KeepsLink vlan_view at s t both_same
  none_kept at s t same ins outs =
      called vlan_view links at s t (λ x y old new. same_near vlan_view links x y (one_some _ x y old (sym same ∙ new))) ins outs

  work_kept : (at : ℕ) (wires : List Wire) (s : NodeState) → box_at at s.inboxes ≡ wires → KeepsLink vlan_view at s (after_work at wires s).0 (both_heard Mvrp (slice_get wires 0))
  work_kept at [] s is = still vlan_view links at s
  work_kept at (wire ∷ wires) s is = by wire.app refl
    where
      fewer : NodeState
      fewer = record s { inboxes = slice_set s.inboxes at wires }

      left : box_at at (slice_set s.inboxes at wires) ≡ wires
      left = box_set s.inboxes at wire wires wires is

      heard : (r : Result MvrpPdu ℕ) → slice_get (worked_mvrp s.clock at r s.vlans).0.parts at ≡ option_map (hearing vlan_view links s.clock (said_of_vlans r)) (slice_get s.vlans.parts at)
      heard (Ok pdu) = made_there at (received_part s.clock pdu) s.vlans (received_vlans s.clock at pdu s.vlans) (received_is s.clock at pdu s.vlans)
      heard (Err place) = same (slice_get s.vlans.parts at)
        where
          same : (o : Option Part) → o ≡ option_map (λ x. x) o
          same None = refl
          same (Some x) = refl

      by : (app : App) → wire.app ≡ app → KeepsLink vlan_view at s (worked_app wire.app at wire.octets (record s { inboxes = slice_set s.inboxes at wires })).0 (both_heard Mvrp (Some wire))
      by Mvrp e =
          subst (λ (a : App). KeepsLink vlan_view at s (worked_app a at wire.octets (record s { inboxes = slice_set s.inboxes at wires })).0 (both_heard Mvrp (Some wire))) (sym e)
          (taken vlan_view links s.clock at s (worked_app Mvrp at wire.octets (record s { inboxes = slice_set s.inboxes at wires })).0 wire wires
          (is_same_app Mvrp wire.app) refl (silent_app wire.app wire.octets) (leaves_as wire.app wire.octets)
          (subst (λ (a : App). slice_get (worked_mvrp s.clock at (mvrp_reading wire.octets) s.vlans).0.parts at
          ≡ option_map (hearing vlan_view links s.clock (vlans_said a wire.octets)) (slice_get s.vlans.parts at)) (sym e) (heard (mvrp_reading wire.octets)))
          is left refl)
      by Msrp e =
          subst (λ (a : App). KeepsLink vlan_view at s (worked_app a at wire.octets (record s { inboxes = slice_set s.inboxes at wires })).0 (both_heard Mvrp (Some wire))) (sym e)
          (taken vlan_view links s.clock at s (worked_app Msrp at wire.octets (record s { inboxes = slice_set s.inboxes at wires })).0 wire wires
          (is_same_app Mvrp wire.app) refl (silent_app wire.app wire.octets) (leaves_as wire.app wire.octets)
          (subst (λ (a : App). slice_get s.vlans.parts at ≡ option_map (hearing vlan_view links s.clock (vlans_said a wire.octets)) (slice_get s.vlans.parts at)) (sym e) (heard (Err 0)))
          is left refl)

  -- the octets say what the participant sends
  said_is : (now : Cs) (x : Part) → AreRows nat_cmp x.rows → HasVidRows x → is_silent x ≡ false
      → message_of (record { app = Mvrp; octets = mvrp_spelling (pdu_sent now x) }) ≡ Some (sent_messages base octets nat_cmp now x)
  said_is now x rows own speaks =
      ap said_of_vlans (laws.written now x rows own speaks).reads
      ∙ ap (λ (es : List (MrpEvent × ℕ × Unit {0})). let m : Messages ℕ (Unit {0}) = record { leave_all = is_active x.leave_all; events = es } in
      Some m) (contents_again (sent_events base octets nat_cmp now x))

  spoken_there : (at : ℕ) (s : NodeState) → IsProperNode s → (x : Part) → slice_get s.vlans.parts at ≡ Some x → is_silent x ≡ false
      → HasSpoken vlan_view links s.clock at s (sent_octets Mvrp at (Some (mvrp_spelling (pdu_sent s.clock x))) s).0 (is_leave_all_at Mvrp at s) x
  spoken_there at s proper x old loud =
      let below = slice_get_within s.vlans.parts at x old in
      let there = outbox_there s proper at below in
      let wire : Wire = record { app = Mvrp; octets = mvrp_spelling (pdu_sent s.clock x) } in
      record {
        loud = loud;
        leave_all_is = ap (λ (o : Option Part). option_map_or (λ (p : Part). is_active p.leave_all) o false) old;
        own = refl;
        part = made_there at (sent_part s.clock) s.vlans (sent_vlans s.clock at s.vlans) (sent_is s.clock at s.vlans) ∙ ap (option_map (sent_part s.clock)) old;
        wire = wire;
        says = sent_messages base octets nat_cmp s.clock x;
        read = said_is s.clock x (at_each (λ (p : Part). AreRows nat_cmp p.rows) s.vlans.parts proper.kept.vlans.rows at x old) (proper.vids.parts at x old) loud;
        same = record { leave_all = refl; of_key = λ k. refl };
        ins = refl;
        outs = box_got s.outboxes at there.0 (box_at at s.outboxes ++ (wire ∷ [])) there.1;
      }

  -- there is a participant, and it is silent or not
  sent_kept : (at : ℕ) (s : NodeState) → IsProperNode s → (o : Option Part) → slice_get s.vlans.parts at ≡ o
      → KeepsLink vlan_view at s (sent_octets Mvrp at (option_map_or (λ part. if is_silent part then None else Some (mvrp_spelling (pdu_sent s.clock part))) o None) s).0
      (both_said true (is_leave_all_at Mvrp at s) (sent_octets Mvrp at (option_map_or (λ part. if is_silent part then None else Some (mvrp_spelling (pdu_sent s.clock part))) o None) s).1)
  sent_kept at s proper None is = still vlan_view links at s
  sent_kept at s proper (Some x) is = by (is_silent x) refl
    where
      by : (b : Bool) → is_silent x ≡ b → KeepsLink vlan_view at s (sent_octets Mvrp at (if b then None else Some (mvrp_spelling (pdu_sent s.clock x))) s).0
          (both_said true (is_leave_all_at Mvrp at s) (sent_octets Mvrp at (if b then None else Some (mvrp_spelling (pdu_sent s.clock x))) s).1)
      by true e = still vlan_view links at s
      by false e =
          spoken vlan_view links (λ wire ne. silent_app wire.app wire.octets ne) s.clock at s (sent_octets Mvrp at (Some (mvrp_spelling (pdu_sent s.clock x))) s).0 (is_leave_all_at Mvrp at s)
          (λ y old. subst (λ (p : Part). HasSpoken vlan_view links s.clock at s (sent_octets Mvrp at (Some (mvrp_spelling (pdu_sent s.clock x))) s).0 (is_leave_all_at Mvrp at s) p)
          (one_some _ x y is old) (spoken_there at s proper x is e))

  -- what MSRP sends says nothing to it
  other_sent : (at : ℕ) (o : Option (List ℕ)) (s : NodeState) → IsProperNode s
      → KeepsLink vlan_view at s (sent_octets Msrp at o s).0 (both_said false (is_leave_all_at Msrp at s) (sent_octets Msrp at o s).1)
  other_sent at None s proper = still vlan_view links at s
  other_sent at (Some os) s proper = λ x y z far_in far_out marks old new met.
      let below = slice_get_within s.vlans.parts at x old in
      let there = outbox_there s proper at below in
      let wire : Wire = record { app = Msrp; octets = os } in
      unheard vlan_view links at s (sent_octets Msrp at (Some os) s).0 refl refl wire refl refl (box_got s.outboxes at there.0 (box_at at s.outboxes ++ (wire ∷ [])) there.1)
      x y z far_in far_out marks old new met

  step_kept : (step : PortStep) (at : ℕ) (s : NodeState) → IsProperNode s → KeepsLink vlan_view at s (port_step step at s).0 (both_stepped Mvrp step at s (port_step step at s).1)
  step_kept Work at s proper = work_kept at (box_at at s.inboxes) s refl
  step_kept (LeaveNow (Vlan vid)) at s proper = call_kept at s (port_step (LeaveNow (Vlan vid)) at s).0 (left_state nat_cmp vid) (leaves vlan_view links vid) (left_is at vid s.vlans) refl refl
  step_kept (LeaveNow (Srp key)) at s proper = none_kept at s (port_step (LeaveNow (Srp key)) at s).0 refl refl refl
  step_kept (LeaveAllNow Mvrp) at s proper = call_kept at s (port_step (LeaveAllNow Mvrp) at s).0
      (leave_all_state s.clock) (fires_leave_all vlan_view links s.clock) (leave_all_is s.clock at s.vlans) refl refl
  step_kept (LeaveAllNow Msrp) at s proper = none_kept at s (port_step (LeaveAllNow Msrp) at s).0 refl refl refl
  step_kept (PeriodicNow Mvrp) at s proper = call_kept at s (port_step (PeriodicNow Mvrp) at s).0 periodic_state (fires_periodic vlan_view links) (periodic_is at s.vlans) refl refl
  step_kept (PeriodicNow Msrp) at s proper = none_kept at s (port_step (PeriodicNow Msrp) at s).0 refl refl refl
  step_kept Due at s proper = call_kept at s (port_step Due at s).0 (due_state s.clock) (fires vlan_view links s.clock) (due_is s.clock at s.vlans) refl refl
  step_kept Settle at s proper =
      call_kept at s (port_step Settle at s).0 (settled_part (is_flat s.vlans at) (awaiting_at at s.vlans))
      (λ x. all_keep vlan_view links (settled_vid (is_flat s.vlans at)) (settles (is_flat s.vlans at)) (awaiting_at at s.vlans) x) (settled_is at s.vlans) refl refl
  step_kept (Send Mvrp) at s proper = sent_kept at s proper (slice_get s.vlans.parts at) refl
  step_kept (Send Msrp) at s proper = other_sent at (octets_to_say Msrp at s) s proper

  pub vlan_facts : StepFacts vlan_view
  vlan_facts =
      record {
        there = λ at s proper below. within s.vlans.parts at below;
        others_say = λ wire ne. silent_app wire.app wire.octets ne;
        boxes = λ k s ins outs. refl;
        asked = asked_same;
        ticked = λ k s. refl;
        apart = step_apart;
        keeps = step_kept;
        spoilt_own = λ at s x is. made_there at unsound s.vlans (spoilt_vlans at s.vlans) (spoilt_is at s.vlans) ∙ ap (option_map unsound) is;
        spoilt_apart = spoilt_apart;
        spoilt_other = spoilt_other;
      }
