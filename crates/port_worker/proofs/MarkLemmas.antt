-- The marks follow what the steps of a node did to the PDUs on its links, as events make them.
use Rattle.std.proofs.Common.{◌≡◌, ℕ, zero, suc, ◌+◌, ◌-◌, ◌<◌, ◌≤◌, Bool, true, false, ◌&&◌, ◌||◌, if◌then◌else◌, List, [], ◌∷◌, ◌++◌, length, length-append, refl, sym, ap, subst, ◌∙◌, arith}
use Rattle.std.specs.Prelude.{slice_get, slice_set, Option, Some, None, ◌^◌}
use Rattle.std.specs.Option.{option_map_or, option_and_then}
use Rattle.srp_base.proofs.Lists.{get_set, within as get_within}
use Rattle.srp_base.specs.declared.{numbers.NodeNo.NodeNo, numbers.EgressPort.EgressPort, mrp.App.App, mrp.App.TheVariants.Mvrp, mrp.App.TheVariants.Msrp}
use Rattle.tree_topology.specs.{Topology.Topology, Topology.HasPort, Ports.peer_of, Ports.neighbours, PortLaws.HasPortLaws}
use Rattle.attribute_propagation.specs.Ports.{place_of}
use Rattle.node_core.specs.declared.{types.Wire.Wire, types.NodeStep.NodeStep, types.PortStep.PortStep, types.StepReply.StepReply}
use Rattle.node_core.specs.declared.types.PortStep.TheVariants.{Work, LeaveNow, LeaveAllNow, PeriodicNow, Due, Settle, Send}
use Rattle.node_core.specs.declared.types.StepReply.TheVariants.{Nothing, Discarded, Received, Fired, Settled, Silent, Sent, Taken}
use Rattle.node_core.specs.{Leaving.has_leave_all, Leaving.is_leave_all_at, State.NodeState, State.box_at}
use Rattle.bridge_book.specs.declared.notice.Notice.{Notice}
use Rattle.bridge_book.specs.declared.notice.Notice.TheVariants.{Quiet, Took, Said}
use Rattle.bridge_book.specs.Steps.{notice_of, notice_of_first, notice_of_saying}
use Rattle.world_core.specs.declared.{events.WorldEvent.WorldEvent, events.WorldEvent.TheVariants.Port, events.WorldReply.TheVariants.Step, marks.EndMark.EndMark, marks.EndMarks.EndMarks}
use Rattle.world_core.specs.{Apart.events_of, Apart.HavePorts, Apart.stepped_node, Apart.HaveOwnReplies, Apart.marks_of_step, Apart.marks_of_steps, Apart.after_own, Kept.IsKeptWorld, Marks.MarksState, Marks.BothMarks, Marks.of_app, Marks.with_app, Marks.no_mark, Marks.mark_at, Marks.row_with, Marks.with_mark, Marks.with_two, Marks.both_at, Marks.both_took, Marks.both_sent, Marks.with_fewer, Marks.is_same_app, Marks.count_of, World.WorldState, World.node_at, World.inbox, World.outbox, World.marks_taking, World.marks_sending, World.world_step, World.world_after}
use Rattle.world_core.proofs.{Marked.count_length, Marked.counted_from, Counts.app_same, Counts.count_append}
use Rattle.port_worker.specs.{StepLaws, notices_of, mark_by, CanMark, marks_by, CanMarkAll, AreFew}

-- ---- the marks follow

and_twice : (l c : Bool) → (l && c) ≡ ((c && l) && c)
and_twice true true = refl
and_twice true false = refl
and_twice false true = refl
and_twice false false = refl

taken_clear : (l : Bool) (marks : BothMarks) → both_took l marks ≡ both_took (marks.0.clear && l) marks
taken_clear l marks = ap (λ (b : Bool). (record marks.0 { assured = marks.0.assured || b }, with_fewer marks.1)) (and_twice l marks.0.clear)

taking : (p : EgressPort) (o : Option Wire) (m : MarksState) → mark_by p (notice_of_first o) m ≡ marks_taking p o m
taking p None m = refl
taking p (Some wire) m = ap (λ (marks : BothMarks). with_two wire.app p marks m) (taken_clear (has_leave_all wire) (both_at wire.app p m))

sending : (p : EgressPort) (app : App) (l : Bool) (reply : StepReply) (m : MarksState) → mark_by p (notice_of_saying app l reply) m ≡ marks_sending p app l (Step reply) m
sending p app l Nothing m = refl
sending p app l (Discarded place) m = refl
sending p app l (Received n) m = refl
sending p app l (Fired n) m = refl
sending p app l (Settled n) m = refl
sending p app l Silent m = refl
sending p app l (Sent octets) m = refl
sending p app l Taken m = refl

pub mark_of_step : (p : EgressPort) (step : PortStep) (reply : StepReply) (s : NodeState) (m : MarksState)
    → mark_by p (notice_of step (place_of p.port) reply s) m ≡ marks_of_step p step reply s m
mark_of_step p Work reply s m = taking p (slice_get (box_at (place_of p.port) s.inboxes) 0) m
mark_of_step p (LeaveNow key) reply s m = refl
mark_of_step p (LeaveAllNow app) reply s m = refl
mark_of_step p (PeriodicNow app) reply s m = refl
mark_of_step p Due reply s m = refl
mark_of_step p Settle reply s m = refl
mark_of_step p (Send app) reply s m = sending p app (is_leave_all_at app (place_of p.port) s) reply m

pub marks_of_all : (n : NodeNo) (made : List NodeStep) (s : NodeState) (m : MarksState) → marks_by n made (notices_of made s) m ≡ marks_of_steps n made s m
marks_of_all n [] s m = refl
marks_of_all n (st ∷ made) s m =
    let p : EgressPort = record { node = n; port = st.port } in
    let next : NodeState = stepped_node st s in
    ap (λ (x : MarksState). marks_by n made (notices_of made next) x) (mark_of_step p st.step st.reply s m)
    ∙ marks_of_all n made next (marks_of_step p st.step st.reply s m)

-- ---- few PDUs are on their way

-- what holds of each element, and of what becomes of one, holds once one has become that
kept_at : {X : Type 0} (P : Option X → Type 0) (f : X → X) (xs : List X) (i k : ℕ) → ((x : X) → P (Some x) → P (Some (f x))) → P (slice_get xs k)
    → P (slice_get (option_map_or (λ x. slice_set xs i (f x)) (slice_get xs i) xs) k)
kept_at P f [] i k change h = h
kept_at P f (x ∷ xs) zero zero change h = change x h
kept_at P f (x ∷ xs) zero (suc k) change h = h
kept_at {X = X} P f (x ∷ xs) (suc i) zero change h = by (slice_get xs i)
  where
    by : (o : Option X) → P (slice_get (option_map_or (λ y. x ∷ slice_set xs i (f y)) o (x ∷ xs)) zero)
    by None = h
    by (Some y) = h
kept_at {X = X} P f (x ∷ xs) (suc i) (suc k) change h = by (slice_get xs i) (kept_at P f xs i k change h)
  where
    by : (o : Option X) → P (slice_get (option_map_or (λ y. slice_set xs i (f y)) o xs) k) → P (slice_get (option_map_or (λ y. x ∷ slice_set xs i (f y)) o (x ∷ xs)) (suc k))
    by None q = q
    by (Some y) q = q

few_app : (app a : App) (mark : EndMark) (e : EndMarks) (b : ℕ) → mark.flying < b → (of_app app e).flying < b → (of_app app (with_app a mark e)).flying < b
few_app Mvrp Mvrp mark e b new old = new
few_app Mvrp Msrp mark e b new old = old
few_app Msrp Mvrp mark e b new old = old
few_app Msrp Msrp mark e b new old = new

few_mark : (app a : App) (p q : EgressPort) (mark : EndMark) (m : MarksState) (b : ℕ) → mark.flying < b → (mark_at app q m).flying < b → (mark_at app q (with_mark a p mark m)).flying < b
few_mark app a p q mark m b new old =
    kept_at (λ (o : Option (List EndMarks)). (option_map_or (of_app app) (option_and_then (λ row. slice_get row (place_of q.port)) o) no_mark).flying < b)
    (row_with a (place_of p.port) mark) m.ends (p.node.0 - 1) (q.node.0 - 1)
    (λ row h.
    kept_at (λ (o : Option EndMarks). (option_map_or (of_app app) o no_mark).flying < b) (with_app a mark) row (place_of p.port) (place_of q.port)
    (λ e k. few_app app a mark e b new k) h)
    old

few_two : (app : App) (p : EgressPort) (marks : BothMarks) (m : MarksState) (b : ℕ) → marks.0.flying < b → marks.1.flying < b → AreFew b m → AreFew b (with_two app p marks m)
few_two app p marks m b near far few a q has =
    few_mark a app (peer_of m.tree.links p) q marks.1 (with_mark app p marks.0 m) b far (few_mark a app p q marks.0 m b near (few a q has))

fewer : (b c : ℕ) (m : MarksState) → b ≤ c → AreFew b m → AreFew c m
fewer b c m le few app q has = let h = few app q has in omega (arith, le, h)

few_step : (p : EgressPort) (notice : Notice) (m : MarksState) (b : ℕ) → HasPort m.tree p → HasPort m.tree (peer_of m.tree.links p) → AreFew b m → AreFew (b + 1) (mark_by p notice m)
few_step p Quiet m b here there few = fewer b (b + 1) m (omega arith) few
few_step p (Took app l) m b here there few =
    let near = few app p here in
    let far = few app (peer_of m.tree.links p) there in
    few_two app p (both_took l (both_at app p m)) m (b + 1) (omega (arith, near)) (omega (arith, far)) (fewer b (b + 1) m (omega arith) few)
few_step p (Said app l) m b here there few =
    let near = few app p here in
    let far = few app (peer_of m.tree.links p) there in
    few_two app p (both_sent l (both_at app p m)) m (b + 1) (omega (arith, near)) (omega (arith, far)) (fewer b (b + 1) m (omega arith) few)

-- ---- what the marks count

-- the node of a port
pub record HasPlace (w : WorldState) (p : EgressPort) : Type 0 where
  pub node : NodeState
  pub at : node_at p.node w ≡ Some node
  pub within : place_of p.port < length node.vlans.parts
  pub within_streams : place_of p.port < length node.streams.ports

pub place : (w : WorldState) → IsKeptWorld w → (p : EgressPort) → HasPort w.tree p → HasPlace w p
place w kept p has =
    let first = has.0.0 in
    let last = has.0.1 in
    let some = has.1 in
    let few = has.2 in
    let there = get_within w.nodes (p.node.0 - 1) (let many = kept.many in omega (arith, first, last, many)) in
    let fits = kept.nodes (p.node.0 - 1) there.0 there.1 in
    let ports = fits.ports in
    let number : p.node.0 - 1 + 1 ≡ p.node.0 = omega (arith, first) in
    let own : length (neighbours w.tree.links (p.node.0 - 1 + 1)) ≡ length (neighbours w.tree.links p.node.0) = ap (λ (k : ℕ). length (neighbours w.tree.links k)) number in
    let same = fits.kept.kept.same_ports in
    record {
      node = there.0;
      at = there.1;
      within = omega (arith, some, few, ports, own);
      within_streams = omega (arith, some, few, ports, own, same);
    }

count_first : (ws : List Wire) (wire : Wire) → slice_get ws 0 ≡ Some wire → 1 ≤ count_of wire.app ws
count_first [] wire get = cc
count_first (w ∷ ws) wire get =
    let own : w ≡ wire = cc in
    let yes : is_same_app wire.app w.app ≡ true = ap (λ (x : Wire). is_same_app wire.app x.app) own ∙ app_same wire.app in
    subst (λ (b : Bool). 1 ≤ (if b then 1 else 0) + count_of wire.app ws) (sym yes) (omega arith)

-- a PDU that waits is on its way from the peer
waits_counted : (w : WorldState) → IsKeptWorld w → HasPortLaws w.tree → (p : EgressPort) → HasPort w.tree p → (wire : Wire) → slice_get (inbox p w) 0 ≡ Some wire
    → 1 ≤ (mark_at wire.app (peer_of w.tree.links p) w.marks).flying
waits_counted w kept laws p has wire get =
    let q = peer_of w.tree.links p in
    let all = counted_from w kept laws wire.app q (laws.peer_port p has)
    ∙ (ap (λ (r : EgressPort). count_of wire.app (inbox r w ++ outbox q w)) (laws.peer_twice p has) ∙ count_append wire.app (inbox p w) (outbox q w)) in
    let some = count_first (inbox p w) wire get in
    omega (arith, all, some)

-- few are on their way where few wait at both ends
pub few_counted : (w : WorldState) → IsKeptWorld w → HasPortLaws w.tree → (app : App) (p : EgressPort) → HasPort w.tree p
    → length (inbox (peer_of w.tree.links p) w) < 2 ^ 64 → length (outbox p w) < 2 ^ 64 → (mark_at app p w.marks).flying < 2 ^ 65
few_counted w kept laws app p has ins outs =
    let all = counted_from w kept laws app p has in
    let less = count_length app (inbox (peer_of w.tree.links p) w ++ outbox p w) in
    let parts = length-append (inbox (peer_of w.tree.links p) w) (outbox p w) in
    omega (arith, all, less, parts, ins, outs)

-- ---- the steps of one node

-- the marks can follow a step from a network that keeps what every network keeps
can_one : (laws : StepLaws) (u : WorldState) (p : EgressPort) (step : PortStep) (reply : StepReply) (s : NodeState) (b : ℕ) → IsKeptWorld u → HasPort u.tree p
    → node_at p.node u ≡ Some s → AreFew b u.marks → b ≤ 2 ^ 100 → CanMark p (notice_of step (place_of p.port) reply s) u.marks
can_one laws u p step reply s b kept has at few room = by step reply
  where
    has_mark : HasPort u.marks.tree p
    has_mark = subst (λ (t : Topology). HasPort t p) (sym kept.marks_of) has

    same_inbox : box_at (place_of p.port) s.inboxes ≡ inbox p u
    same_inbox = sym (ap (λ (o : Option NodeState). option_map_or (λ x. box_at (place_of p.port) x.inboxes) o []) at)

    first : (o : Option Wire) → slice_get (inbox p u) 0 ≡ o → CanMark p (notice_of_first o) u.marks
    first None is = has_mark
    first (Some wire) is = (
      has_mark,
      subst (λ (t : Topology). 1 ≤ (mark_at wire.app (peer_of t.links p) u.marks).flying) (sym kept.marks_of) (waits_counted u kept (laws.ports u.tree kept.tree) p has wire is),
    )

    saying : (app : App) (l : Bool) (r : StepReply) → CanMark p (notice_of_saying app l r) u.marks
    saying app l Nothing = has_mark
    saying app l (Discarded place) = has_mark
    saying app l (Received n) = has_mark
    saying app l (Fired n) = has_mark
    saying app l (Settled n) = has_mark
    saying app l Silent = has_mark
    saying app l (Sent octets) = (has_mark, let h = few app p has_mark in omega (arith, h, room))
    saying app l Taken = has_mark

    by : (x : PortStep) (r : StepReply) → CanMark p (notice_of x (place_of p.port) r s) u.marks
    by Work r = first (slice_get (box_at (place_of p.port) s.inboxes) 0) (ap (λ (ws : List Wire). slice_get ws 0) (sym same_inbox))
    by (LeaveNow key) r = has_mark
    by (LeaveAllNow app) r = has_mark
    by (PeriodicNow app) r = has_mark
    by Due r = has_mark
    by Settle r = has_mark
    by (Send app) r = saying app (is_leave_all_at app (place_of p.port) s) r

-- they can follow all steps of a node, and few are on their way then
pub record CanGoOn (n : NodeNo) (made : List NodeStep) (s : NodeState) (u : WorldState) (b : ℕ) : Type 0 where
  pub can : CanMarkAll n made (notices_of made s) u.marks
  pub few : AreFew (b + length made) (marks_by n made (notices_of made s) u.marks)
  pub kept : IsKeptWorld (after_own n made s u)

can_as : (p : EgressPort) (notice : Notice) (m : MarksState) → CanMark p notice m → HasPort m.tree p
can_as p Quiet m can = can
can_as p (Took app l) m can = can.0
can_as p (Said app l) m can = can.0

pub can_all : (laws : StepLaws) (n : NodeNo) (made : List NodeStep) (s : NodeState) (u : WorldState) (b : ℕ) → IsKeptWorld u → node_at n u ≡ Some s → HaveOwnReplies made s
    → HavePorts u.tree n made → AreFew b u.marks → b + length made ≤ 2 ^ 99 → CanGoOn n made s u b
can_all laws n [] s u b kept at own ports few room =
    let none : b ≡ b + 0 = omega arith in
    record { can = tt; few = subst (λ (k : ℕ). AreFew k u.marks) none few; kept = subst IsKeptWorld (laws.one n [] u s at tt) kept }
can_all laws n (st ∷ made) s u b kept at own ports few room =
    let p : EgressPort = record { node = n; port = st.port } in
    let notice : Notice = notice_of st.step (place_of st.port) st.reply s in
    let event : WorldEvent = Port n st.port st.step in
    let next : NodeState = stepped_node st s in
    let v : WorldState = after_own n (st ∷ []) s u in
    let has : HasPort u.tree p = ports.0 in
    let can : CanMark p notice u.marks = can_one laws u p st.step st.reply s b kept has at few (omega (arith, room)) in
    let reached : (world_step event u).0 ≡ v = laws.one n (st ∷ []) u s at (own.0, tt) in
    let kept_v : IsKeptWorld v = subst IsKeptWorld reached (laws.event event u has tt kept) in
    let marks : mark_by p notice u.marks ≡ v.marks = mark_of_step p st.step st.reply s u.marks in
    let here = can_as p notice u.marks can in
    let there : HasPort u.marks.tree (peer_of u.marks.tree.links p) =
    subst (λ (t : Topology). HasPort t (peer_of t.links p)) (sym kept.marks_of) ((laws.ports u.tree kept.tree).peer_port p has)
    in
    let few_v : AreFew (b + 1) v.marks = subst (AreFew (b + 1)) marks (few_step p notice u.marks b here there few) in
    let more : b + 1 + length made ≡ b + suc (length made) = omega arith in
    let later = can_all laws n made next v (b + 1) kept_v (get_set u.nodes (n.0 - 1) s next at) own.1 ports.1 few_v (omega (arith, room)) in
    let twice : after_own n made next v ≡ after_own n (st ∷ made) s u = sym (laws.one n made v next (get_set u.nodes (n.0 - 1) s next at) own.1)
    ∙ (ap (λ (x : WorldState). world_after (events_of n made) x) (sym reached) ∙ laws.one n (st ∷ made) u s at own)
    in
    record {
      can = (can, subst (λ (m : MarksState). CanMarkAll n made (notices_of made next) m) (sym marks) later.can);
      few = subst (λ (m : MarksState). AreFew (b + suc (length made)) (marks_by n made (notices_of made next) m)) (sym marks)
          (subst (λ (k : ℕ). AreFew k (marks_by n made (notices_of made next) v.marks)) more later.few);
      kept = subst IsKeptWorld twice later.kept;
    }
