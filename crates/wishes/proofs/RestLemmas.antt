-- A node that no event of a tick changes, that isn't busy when the tick begins, and that has nothing to say where it sends, hears
-- and has booked at its end what it did at its beginning.
use Rattle.std.proofs.Common.{◌≡◌, ◌≢◌, ◌⊎◌, inl, inr, ℕ, zero, suc, ◌+◌, ◌-◌, ◌==◌, Bool, true, false, not, ◌&&◌, ◌||◌, if◌then◌else◌, List, [], ◌∷◌, ◌++◌, length, map, refl, sym, ap, subst, ◌∙◌, arith}
use Rattle.std.specs.Prelude.{filter, slice_get, slice_set, Option, Some, None, option_map}
use Rattle.std.specs.{Option.option_map_or, List.AllByRecursion, List.list_all}
use Rattle.std.proofs.lemmas.Bool.{and_parts}
use Rattle.srp_base.proofs.{Arithmetic.decide, Lists.get-all, Lists.get_set, Lists.get_set_other, Lists.length_set, Lists.map-map, Lists.mapped_length}
use Rattle.srp_base.specs.declared.{numbers.NodeNo.NodeNo, numbers.PortNo.PortNo, numbers.EgressPort.EgressPort, numbers.StreamId.StreamId, streams.TalkerReg.TalkerReg, streams.ListenerKind.ListenerKind, mrp.App.App, mrp.App.TheVariants.Mvrp, mrp.App.TheVariants.Msrp}
use Rattle.tree_topology.specs.Ports.{peer_of}
use Rattle.tree_topology.specs.Topology.{Topology, HasPort, link_ports}
use Rattle.topology_file.specs.declared.{entries.StreamEntry.StreamEntry}
use Rattle.topology_file.specs.Plan.{Plan}
use Rattle.attribute_propagation.specs.Ports.{place_of}
use Rattle.mrp_participant.specs.State.{is_silent, is_still}
use Rattle.mvrp.specs.Part.{Part as VlanPart}
use Rattle.msrp.specs.Part.{Part as StreamPart}
use Rattle.flat_side.specs.Side.{are_still}
use Rattle.msrp.specs.{PortState.PortState, Part.registered_talker, Stream.advertise_of, Stream.first_talker, Stream.heard_from, Stream.is_listened, Stream.is_talker_port, Stream.talk_of, Side.Streams, Side.are_still as streams_are_still, Side.clocked_port, Side.clocked_streams, Side.has_listen, Side.heard_of}
use Rattle.node_core.specs.declared.{types.NodeEvent.NodeEvent, types.NodeStep.NodeStep, types.PortStep.PortStep}
use Rattle.node_core.specs.declared.types.NodeEvent.TheVariants as node_events
use Rattle.node_core.specs.declared.types.PortStep.TheVariants.{Due, Settle, Send}
use Rattle.node_core.specs.declared.types.Wire.{Wire}
use Rattle.node_core.specs.{Links.forged_at, Links.lost_at, Links.repeated_at, Links.spoilt_at, Links.with_carried, Links.with_outbox, State.NodeState, State.are_empty, State.box_at, State.is_busy_node, State.is_sending_time, State.is_still_node, State.job_list, State.works, Step.node_step, Step.octets_to_say, Step.sent_octets}
use Rattle.world_core.specs.declared.{events.WorldEvent.WorldEvent, journal.NodeSteps.NodeSteps, journal.Tick.Tick}
use Rattle.world_core.specs.declared.events.WorldEvent.TheVariants.{Request, Port, Lose, Repeat, Forge, Carry, Clock}
use Rattle.world_core.specs.{Ticks.IsLegalTick, Ticks.after_script, Ticks.closing_events, Ticks.jobs_of, Ticks.script_at, Ticks.step_events, Ticks.steps_at_port, Ticks.steps_of, Ticks.tick_events, World.WorldState, World.after_carrying, World.after_repeat, World.app_of, World.reaches, World.with_forgery, World.with_loss, World.with_unsound_ends, World.after_step, World.node_at, World.outbox, World.step_of_node, World.with_changed, World.with_node, World.world_after, World.world_step}
use Rattle.world_core.specs.declared.events.WorldReply.TheVariants.{Missed}
use Rattle.world_core.proofs.Timelines.{after_both}
use Rattle.stream_importance.specs.declared.entry.Entry.{Entry}
use Rattle.port_ledger.specs.Decision.{booked_of}
use Rattle.wishes.specs.declared.standing.{Hearing.Hearing, Standing.Standing}
use Rattle.wishes.specs.RunMoments.{bookings_in, hearing_of, hearings_in, standing_at}
use Rattle.wishes.specs.Watching.{is_idle}

-- ---- what a step is of

-- what is known of the steps of ports
pub record StepLaws : Type 0 where
  pub own : (n : NodeNo) (port : PortNo) (step : PortStep) (w : WorldState) (s : NodeState) → node_at n w ≡ Some s
      → node_at n (world_step (Port n port step) w).0 ≡ Some (node_step (node_events.Port port step) s).0
  pub others : (n m : NodeNo) (port : PortNo) (step : PortStep) (w : WorldState) → n.0 - 1 ≢ m.0 - 1 → node_at m (world_step (Port n port step) w).0 ≡ node_at m w
  pub silent : (s : NodeState) (app : App) (at : ℕ) → is_still_node s ≡ true → octets_to_say app at s ≡ None

each-both : {X : Type 0} (P : X → Type 0) (xs ys : List X) → AllByRecursion P (xs ++ ys) → AllByRecursion P xs × AllByRecursion P ys
each-both P [] ys h = (tt, h)
each-both P (x ∷ xs) ys h = let rest = each-both P xs ys h.1 in ((h.0, rest.0), rest.1)

module _ (laws : StepLaws) (x : ℕ) (s : NodeState) where
  -- a step leaves the node as it is
  abbrev Leaves : PortStep → Type 0
  Leaves step = (port : PortNo) → (node_step (node_events.Port port step) s).0 ≡ s

  -- of some steps of a node, each does so if the node is this one
  abbrev LeaveIt : NodeNo → List NodeStep → Type 0
  LeaveIt n made = AllByRecursion (λ (st : NodeStep). n.0 - 1 ≡ x → Leaves st.step) made

  at-place : (n : NodeNo) (w : WorldState) → n.0 - 1 ≡ x → slice_get w.nodes x ≡ Some s → node_at n w ≡ Some s
  at-place n w e h = ap (λ (k : ℕ). slice_get w.nodes k) e ∙ h

  step-stays : (n : NodeNo) (port : PortNo) (step : PortStep) (w : WorldState) → (n.0 - 1 ≡ x → Leaves step) → slice_get w.nodes x ≡ Some s
      → slice_get (world_step (Port n port step) w).0.nodes x ≡ Some s
  step-stays n port step w leaves h = by (decide (n.0 - 1) x)
    where
      back : x + 1 - 1 ≡ x
      back = omega arith

      by : (n.0 - 1 ≡ x) ⊎ (n.0 - 1 ≢ x) → slice_get (world_step (Port n port step) w).0.nodes x ≡ Some s
      by (inl e) =
          ap (λ (k : ℕ). slice_get (world_step (Port n port step) w).0.nodes k) (sym e)
          ∙ (laws.own n port step w s (at-place n w e h) ∙ ap Some (leaves e port))
      by (inr ne) =
          ap (λ (k : ℕ). slice_get (world_step (Port n port step) w).0.nodes k) (sym back)
          ∙ (laws.others n (record { 0 = x + 1 }) port step w (λ f. ne (f ∙ back))
          ∙ (ap (λ (k : ℕ). slice_get w.nodes k) back ∙ h))

  made-stay : (n : NodeNo) (made : List NodeStep) (w : WorldState) → LeaveIt n made → slice_get w.nodes x ≡ Some s
      → slice_get (world_after (map (λ (st : NodeStep). Port n st.port st.step) made) w).nodes x ≡ Some s
  made-stay n [] w leave h = h
  made-stay n (st ∷ made) w leave h = made-stay n made (world_step (Port n st.port st.step) w).0 leave.1 (step-stays n st.port st.step w leave.0 h)

  nodes-stay : (nodes : List NodeSteps) (w : WorldState) → AllByRecursion (λ (ns : NodeSteps). LeaveIt ns.node ns.steps) nodes → slice_get w.nodes x ≡ Some s
      → slice_get (world_after (step_events nodes) w).nodes x ≡ Some s
  nodes-stay [] w leave h = h
  nodes-stay (ns ∷ nodes) w leave h =
      let own : List WorldEvent = map (λ (st : NodeStep). Port ns.node st.port st.step) ns.steps in
      ap (λ (v : WorldState). slice_get v.nodes x) (after_both own (step_events nodes) w)
      ∙ nodes-stay nodes (world_after own w) leave.1 (made-stay ns.node ns.steps w leave.0 h)

  -- ---- which steps it makes

  -- of the steps of a node at its ports
  made-leave : (tree : Topology) (n : NodeNo) (made : List NodeStep) → AllByRecursion (λ (st : NodeStep). HasPort tree (record { node = n; port = st.port })) made
      → (n.0 - 1 ≡ x → (port : PortNo) → HasPort tree (record { node = n; port = port }) → AllByRecursion Leaves (steps_at_port port made)) → LeaveIt n made
  made-leave tree n [] known all = tt
  made-leave tree n (st ∷ made) known all = ((λ e. first e), made-leave tree n made known.1 (λ e port has. later port (st.port.0 == port.0) refl (all e port has)))
    where
      own : (st.port.0 == st.port.0) ≡ true
      own = grind arith

      first : n.0 - 1 ≡ x → Leaves st.step
      first e = let here : AllByRecursion Leaves (st.step ∷ steps_at_port st.port made) = subst (λ (b : Bool). AllByRecursion Leaves (map (λ (u : NodeStep). u.step) (if b then st ∷ filter (λ (u : NodeStep). u.port.0 == st.port.0) made else filter (λ (u : NodeStep). u.port.0 == st.port.0) made))) own (all e st.port known.0) in here.0

      later : (port : PortNo) (b : Bool) → (st.port.0 == port.0) ≡ b → AllByRecursion Leaves (steps_at_port port (st ∷ made)) → AllByRecursion Leaves (steps_at_port port made)
      later port true is h = (subst (λ (b : Bool). AllByRecursion Leaves (map (λ (u : NodeStep). u.step) (if b then st ∷ filter (λ (u : NodeStep). u.port.0 == port.0) made else filter (λ (u : NodeStep). u.port.0 == port.0) made))) is h).1
      later port false is h = subst (λ (b : Bool). AllByRecursion Leaves (map (λ (u : NodeStep). u.step) (if b then st ∷ filter (λ (u : NodeStep). u.port.0 == port.0) made else filter (λ (u : NodeStep). u.port.0 == port.0) made))) is h

  all-leave : (tree : Topology) (nodes : List NodeSteps)
      → AllByRecursion (λ (ns : NodeSteps). AllByRecursion (λ (st : NodeStep). HasPort tree (record { node = ns.node; port = st.port })) ns.steps) nodes
      → ((p : EgressPort) → HasPort tree p → p.node.0 - 1 ≡ x → AllByRecursion Leaves (steps_of p nodes))
      → AllByRecursion (λ (ns : NodeSteps). LeaveIt ns.node ns.steps) nodes
  all-leave tree [] known all = tt
  all-leave tree (ns ∷ nodes) known all = (
    made-leave tree ns.node ns.steps known.0 (λ e port has. own e port has),
    all-leave tree nodes known.1 (λ p has e. (each-both Leaves (here p) (steps_of p nodes) (all p has e)).1),
  )
    where
      here : EgressPort → List PortStep
      here p = if ns.node.0 == p.node.0 then steps_at_port p.port ns.steps else []

      same : (ns.node.0 == ns.node.0) ≡ true
      same = grind arith

      own : ns.node.0 - 1 ≡ x → (port : PortNo) → HasPort tree (record { node = ns.node; port = port }) → AllByRecursion Leaves (steps_at_port port ns.steps)
      own e port has =
          let p : EgressPort = record { node = ns.node; port = port } in
          subst (λ (b : Bool). AllByRecursion Leaves (if b then steps_at_port port ns.steps else [])) same (each-both Leaves (here p) (steps_of p nodes) (all p has e)).0

  -- ---- a node that is idle

  module _ (idle : is_idle s ≡ true) where
    quiet : is_busy_node s ≡ false
    quiet = down (is_busy_node s) (and_parts (not (is_busy_node s)) (not (is_sending_time s.clock) || is_still_node s) idle).0
      where
        down : (b : Bool) → not b ≡ true → b ≡ false
        down true h = absurd (let no : false ≡ true = h in cc)
        down false h = refl

    still : is_sending_time s.clock ≡ true → is_still_node s ≡ true
    still h = by (is_sending_time s.clock) (is_still_node s) h (and_parts (not (is_busy_node s)) (not (is_sending_time s.clock) || is_still_node s) idle).1
      where
        by : (a b : Bool) → a ≡ true → (not a || b) ≡ true → b ≡ true
        by true b h k = k
        by false b h k = absurd (let no : false ≡ true = h in cc)

    send-leaves : (app : App) → is_still_node s ≡ true → Leaves (Send app)
    send-leaves app h port = ap (λ (o : Option (List ℕ)). (sent_octets app (place_of port) o s).0) (laws.silent s app (place_of port) h)

    jobs-leave : (at : ℕ) → AllByRecursion Leaves (job_list at s)
    jobs-leave at = by (is_busy_node s) (is_sending_time s.clock) quiet still
      where
        by : (b c : Bool) → b ≡ false → (c ≡ true → is_still_node s ≡ true)
            → AllByRecursion Leaves ((if b then works (box_at at s.inboxes) ++ (Due ∷ Settle ∷ []) else []) ++ (if c then Send Mvrp ∷ Send Msrp ∷ [] else []))
        by true c off so = absurd (let no : true ≡ false = off in cc)
        by false true off so = (send-leaves Mvrp (so refl), (send-leaves Msrp (so refl), tt))
        by false false off so = tt

    -- where the events of a tick leave it, so do its steps
    steps-stay : (plan : Plan) (t : ℕ) (w : WorldState) (tick : Tick) → IsLegalTick plan t w tick → slice_get (after_script plan t w).nodes x ≡ Some s
        → slice_get (world_after (step_events tick.steps) (after_script plan t w)).nodes x ≡ Some s
    steps-stay plan t w tick legal h =
        nodes-stay tick.steps (after_script plan t w) (all-leave plan.tree tick.steps legal.known (λ p has e. leave p has e)) h
      where
        leave : (p : EgressPort) → HasPort plan.tree p → p.node.0 - 1 ≡ x → AllByRecursion Leaves (steps_of p tick.steps)
        leave p has e =
            let jobs : jobs_of p (after_script plan t w) ≡ job_list (place_of p.port) s =
            ap (λ (o : Option NodeState). option_map_or (λ (u : NodeState). job_list (place_of p.port) u) o []) (at-place p.node (after_script plan t w) e h)
            in
            subst (AllByRecursion Leaves) (sym (legal.jobs p has ∙ jobs)) (jobs-leave (place_of p.port))

-- ---- the end of a tick

-- what MSRP keeps of the node at a place
abbrev pub streams_at : ℕ → WorldState → Option Streams
streams_at x w = option_map (λ (s : NodeState). s.streams) (slice_get w.nodes x)

changed-streams : (x : ℕ) (n : NodeNo) (change : NodeState → NodeState) → ((s : NodeState) → (change s).streams ≡ s.streams) → (w : WorldState)
    → streams_at x (with_changed n change w) ≡ streams_at x w
changed-streams x n change same w = by (node_at n w) refl
  where
    by : (o : Option NodeState) → node_at n w ≡ o → streams_at x (option_map_or (λ (s : NodeState). with_node n (change s) w) o w) ≡ streams_at x w
    by None is = refl
    by (Some s) is = of (decide (n.0 - 1) x)
      where
        of : (n.0 - 1 ≡ x) ⊎ (n.0 - 1 ≢ x) → streams_at x (with_node n (change s) w) ≡ streams_at x w
        of (inl e) =
            let set : slice_get (slice_set w.nodes (n.0 - 1) (change s)) x ≡ Some (change s) =
            ap (λ (k : ℕ). slice_get (slice_set w.nodes (n.0 - 1) (change s)) k) (sym e) ∙ get_set w.nodes (n.0 - 1) s (change s) is
            in
            let was : slice_get w.nodes x ≡ Some s = ap (λ (k : ℕ). slice_get w.nodes k) (sym e) ∙ is in
            ap (option_map (λ (u : NodeState). u.streams)) set ∙ (ap Some (same s) ∙ sym (ap (option_map (λ (u : NodeState). u.streams)) was))
        of (inr ne) = ap (option_map (λ (u : NodeState). u.streams)) (get_set_other w.nodes (n.0 - 1) x (change s) ne)

carried-streams : (x : ℕ) (p : EgressPort) (w : WorldState) → streams_at x (after_carrying p w) ≡ streams_at x w
carried-streams x p w =
    let q = peer_of w.tree.links p in
    changed-streams x q.node (with_carried (place_of q.port) (outbox p w)) (λ s. refl) (with_changed p.node (with_outbox (place_of p.port) []) w)
    ∙ changed-streams x p.node (with_outbox (place_of p.port) []) (λ s. refl) w

pub get-mapped : {X Y : Type 0} (f : X → Y) (xs : List X) (i : ℕ) → slice_get (map f xs) i ≡ option_map f (slice_get xs i)
get-mapped f [] i = refl
get-mapped f (x ∷ xs) zero = refl
get-mapped f (x ∷ xs) (suc i) = get-mapped f xs i

-- the streams of a node whose clock went on
abbrev pub IsClocked : Option Streams → Streams → Type 0
IsClocked o side = (now : ℕ) × (o ≡ Some (clocked_streams now side))

clock-streams : (x : ℕ) (w : WorldState) (side : Streams) → streams_at x w ≡ Some side → IsClocked (streams_at x (world_step Clock w).0) side
clock-streams x w side h = by (slice_get w.nodes x) refl h
  where
    by : (o : Option NodeState) → slice_get w.nodes x ≡ o → option_map (λ (s : NodeState). s.streams) o ≡ Some side → IsClocked (streams_at x (world_step Clock w).0) side
    by None is h = absurd (let no : None ≡ Some side = h in cc)
    by (Some s) is h =
        let one : Some s.streams ≡ Some side = h in
        let same : s.streams ≡ side = cc in
        let now : slice_get (map (λ (u : NodeState). (node_step node_events.Clock u).0) w.nodes) x ≡ Some (node_step node_events.Clock s).0 =
        get-mapped (λ (u : NodeState). (node_step node_events.Clock u).0) w.nodes x ∙ ap (option_map (λ (u : NodeState). (node_step node_events.Clock u).0)) is
        in
        (s.clock.0 + 1, ap (option_map (λ (u : NodeState). u.streams)) now ∙ ap (λ (v : Streams). Some (clocked_streams (s.clock.0 + 1) v)) same)

closing-streams : (x : ℕ) (ports : List EgressPort) (w : WorldState) (side : Streams) → streams_at x w ≡ Some side
    → IsClocked (streams_at x (world_after (map Carry ports ++ (Clock ∷ [])) w)) side
closing-streams x [] w side h = clock-streams x w side h
closing-streams x (p ∷ ports) w side h = closing-streams x ports (after_carrying p w) side (carried-streams x p w ∙ h)

-- ---- a tick

-- a tick in its parts
tick-after : (plan : Plan) (t : ℕ) (w : WorldState) (tick : Tick)
    → world_after (tick_events plan t tick) w ≡ world_after (closing_events plan.tree) (world_after (step_events tick.steps) (after_script plan t w))
tick-after plan t w tick =
    after_both (map (λ (e : ℕ × WorldEvent). e.1) (script_at plan t) ++ step_events tick.steps) (closing_events plan.tree) w
    ∙ ap (world_after (closing_events plan.tree)) (after_both (map (λ (e : ℕ × WorldEvent). e.1) (script_at plan t)) (step_events tick.steps) w)

pub tick-streams : (laws : StepLaws) (x : ℕ) (s : NodeState) → is_idle s ≡ true → (plan : Plan) (t : ℕ) (w : WorldState) (tick : Tick) → IsLegalTick plan t w tick
    → slice_get (after_script plan t w).nodes x ≡ Some s → IsClocked (streams_at x (world_after (tick_events plan t tick) w)) s.streams
tick-streams laws x s idle plan t w tick legal h =
    let stays : slice_get (world_after (step_events tick.steps) (after_script plan t w)).nodes x ≡ Some s = steps-stay laws x s idle plan t w tick legal h in
    let closed =
    closing-streams x (link_ports plan.tree) (world_after (step_events tick.steps) (after_script plan t w)) s.streams (ap (option_map (λ (u : NodeState). u.streams)) stays)
    in
    (closed.0, ap (streams_at x) (tick-after plan t w tick) ∙ closed.1)

-- ---- what is heard and booked

heard-clocked : (stream : StreamId) (now : ℕ) (side : Streams) → heard_of stream (clocked_streams now side) ≡ heard_of stream side
heard-clocked stream now side =
    let talkers : map (λ (p : PortState). registered_talker stream p.part) (map (clocked_port now) side.ports) ≡ map (λ (p : PortState). registered_talker stream p.part) side.ports =
    map-map (λ (p : PortState). registered_talker stream p.part) (clocked_port now) side.ports
    in
    ap (λ (rest : List TalkerReg). if is_listened stream side.listens && not (is_talker_port 0 (advertise_of (talk_of stream side.talks) ∷ rest))
    then heard_from (first_talker (advertise_of (talk_of stream side.talks) ∷ rest)) else None) talkers

hearings-clocked : (now : ℕ) (side : Streams) (es : List StreamEntry) → hearings_in es (clocked_streams now side) ≡ hearings_in es side
hearings-clocked now side [] = refl
hearings-clocked now side (e ∷ es) =
    ap (λ (heard : Option ListenerKind). (record { listens = has_listen e.id side; heard = heard }) ∷ hearings_in es (clocked_streams now side)) (heard-clocked e.id now side)
    ∙ ap (λ (later : List Hearing). hearing_of side e ∷ later) (hearings-clocked now side es)

bookings-clocked : (now : ℕ) (side : Streams) → bookings_in (clocked_streams now side) ≡ bookings_in side
bookings-clocked now side = map-map (λ (p : PortState). booked_of p.ledger.entries) (clocked_port now) side.ports

-- at a node whose clock went on stands what stood
pub node-same : (streams : List StreamEntry) (x : ℕ) (w : WorldState) (s t : NodeState) → IsClocked (streams_at x w) s.streams → slice_get w.nodes x ≡ Some t
    → standing_at streams s ≡ standing_at streams t
node-same streams x w s t clocked h =
    let one : Some t.streams ≡ Some (clocked_streams clocked.0 s.streams) = sym (ap (option_map (λ (u : NodeState). u.streams)) h) ∙ clocked.1 in
    let same : t.streams ≡ clocked_streams clocked.0 s.streams = cc in
    let heard : hearings_in streams t.streams ≡ hearings_in streams s.streams = ap (hearings_in streams) same ∙ hearings-clocked clocked.0 s.streams streams in
    let booked : bookings_in t.streams ≡ bookings_in s.streams = ap bookings_in same ∙ bookings-clocked clocked.0 s.streams in
    sym (ap (λ (row : List Hearing). standing_with row (bookings_in t.streams)) heard ∙ ap (λ (rows : List (List Entry)). standing_with (hearings_in streams s.streams) rows) booked)
  where
    standing_with : List Hearing → List (List Entry) → Standing
    standing_with row rows = record { heard = row; booked = rows }

-- ---- how many nodes there are

count-changed : (n : NodeNo) (change : NodeState → NodeState) (w : WorldState) → length (with_changed n change w).nodes ≡ length w.nodes
count-changed n change w = by (node_at n w)
  where
    by : (o : Option NodeState) → length (option_map_or (λ (s : NodeState). with_node n (change s) w) o w).nodes ≡ length w.nodes
    by None = refl
    by (Some s) = length_set w.nodes (n.0 - 1) (change s)

count-stepped : (n : NodeNo) (event : NodeEvent) (w : WorldState) → length (step_of_node n event w).0.nodes ≡ length w.nodes
count-stepped n event w = by (node_at n w)
  where
    by : (o : Option NodeState) → length (option_map_or (λ (s : NodeState). after_step n (node_step event s) w) o (w, Missed)).0.nodes ≡ length w.nodes
    by None = refl
    by (Some s) = length_set w.nodes (n.0 - 1) (node_step event s).0

count-spoilt : (app : App) (p : EgressPort) (w : WorldState) → length (with_unsound_ends app p w).nodes ≡ length w.nodes
count-spoilt app p w =
    let q = peer_of w.tree.links p in
    count-changed q.node (spoilt_at app (place_of q.port)) (with_changed p.node (spoilt_at app (place_of p.port)) w)
    ∙ count-changed p.node (spoilt_at app (place_of p.port)) w

count-lost : (p : EgressPort) (index : ℕ) (o : Option App) (w : WorldState) → length (with_loss p index o w).0.nodes ≡ length w.nodes
count-lost p index None w = refl
count-lost p index (Some app) w =
    count-spoilt app p (with_changed p.node (lost_at (place_of p.port) index) w) ∙ count-changed p.node (lost_at (place_of p.port) index) w

count-repeated : (p : EgressPort) (index : ℕ) (o : Option App) (w : WorldState) → length (after_repeat p index o w).0.nodes ≡ length w.nodes
count-repeated p index None w = refl
count-repeated p index (Some app) w = count-changed p.node (repeated_at (place_of p.port) index) w

count-forged : (p : EgressPort) (index : ℕ) (wire : Wire) (b : Bool) (w : WorldState) → length (with_forgery p index wire b w).0.nodes ≡ length w.nodes
count-forged p index wire false w = refl
count-forged p index wire true w =
    count-spoilt wire.app p (with_changed p.node (forged_at (place_of p.port) index wire) w) ∙ count-changed p.node (forged_at (place_of p.port) index wire) w

count-event : (e : WorldEvent) (w : WorldState) → length (world_step e w).0.nodes ≡ length w.nodes
count-event (Request n request) w = count-stepped n (node_events.Request request) w
count-event (Port n port step) w = count-stepped n (node_events.Port port step) w
count-event (Lose p index) w = count-lost p index (app_of p index w) w
count-event (Repeat p index) w = count-repeated p index (app_of p index w) w
count-event (Forge p index wire) w = count-forged p index wire (reaches p index w) w
count-event (Carry p) w =
    let q = peer_of w.tree.links p in
    let v = with_changed p.node (with_outbox (place_of p.port) []) w in
    count-changed q.node (with_carried (place_of q.port) (outbox p w)) v ∙ count-changed p.node (with_outbox (place_of p.port) []) w
count-event Clock w = mapped_length (λ (s : NodeState). (node_step node_events.Clock s).0) w.nodes

pub count-events : (es : List WorldEvent) (w : WorldState) → length (world_after es w).nodes ≡ length w.nodes
count-events [] w = refl
count-events (e ∷ es) w = count-events es (world_step e w).0 ∙ count-event e w

-- ---- a node at which nothing is pending

none-said : {P X : Type 0} (silent : P → Bool) (say : P → X) (o : Option P) → ((p : P) → o ≡ Some p → silent p ≡ true)
    → option_map_or (λ (p : P). if silent p then None else Some (say p)) o None ≡ None
none-said silent say None h = refl
none-said {P} {X} silent say (Some p) h = ap (λ (b : Bool). if b then None else Some (say p)) (h p refl)

pub still-silent : ((part : VlanPart) → is_still part ≡ true → is_silent part ≡ true) → ((part : StreamPart) → is_still part ≡ true → is_silent part ≡ true)
    → (s : NodeState) (app : App) (at : ℕ) → is_still_node s ≡ true → octets_to_say app at s ≡ None
still-silent vlan stream s Mvrp at h =
    let all = and_parts (are_empty s.inboxes && are_empty s.outboxes && are_still s.vlans) (streams_are_still s.streams) h in
    let side = and_parts (are_empty s.inboxes && are_empty s.outboxes) (are_still s.vlans) all.0 in
    let parts = (and_parts (list_all (λ (p : VlanPart). is_still p) s.vlans.parts) _ side.1).0 in
    none-said is_silent _ (slice_get s.vlans.parts at) (λ part is. vlan part (get-all (λ (p : VlanPart). is_still p) s.vlans.parts at part parts is))
still-silent vlan stream s Msrp at h =
    let all = and_parts (are_empty s.inboxes && are_empty s.outboxes && are_still s.vlans) (streams_are_still s.streams) h in
    let ports = (and_parts (list_all (λ (p : PortState). is_still p.part) s.streams.ports) _ all.1).0 in
    none-said (λ (p : PortState). is_silent p.part) _ (slice_get s.streams.ports at) (λ port is. stream port.part (get-all (λ (p : PortState). is_still p.part) s.streams.ports at port ports is))
