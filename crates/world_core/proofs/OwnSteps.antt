-- Nodes that make their steps apart: a network with one more such node, with all of them, and what is kept.
use Rattle.std.proofs.Common.{◌≡◌, ◌-◌, ◌<◌, ◌≤◌, false, List, [], ◌∷◌, ◌++◌, refl, sym, ap, subst, ◌∙◌, arith}
use Rattle.std.specs.Prelude.{slice_get, slice_set, Option, Some}
use Rattle.std.specs.{Option.option_map_or, List.AllByRecursion}
use Rattle.srp_base.proofs.Lists.{set_set as set_twice, set-same as set_same, get_set, get_set_other, each_append}
use Rattle.srp_base.specs.declared.{numbers.NodeNo.NodeNo, numbers.EgressPort.EgressPort}
use Rattle.tree_topology.specs.Topology.{Topology, HasPort}
use Rattle.attribute_propagation.specs.Ports.{place_of}
use Rattle.node_core.specs.declared.types.NodeEvent.TheVariants as node_events
use Rattle.node_core.specs.declared.{types.NodeStep.NodeStep, types.PortStep.PortStep, types.StepReply.StepReply}
use Rattle.node_core.specs.declared.types.PortStep.TheVariants.{Work, LeaveNow, LeaveAllNow, PeriodicNow, Due, Settle, Send}
use Rattle.node_core.specs.{Leaving.is_leave_all_at, State.NodeState, State.box_at, Step.node_step}
use Rattle.world_core.specs.{WorldEvent, Request, Port, Lose, Repeat, Forge, Carry, Clock, WorldReply, Step, NodeSteps, MarksState, WorldState, Happened, node_at, after_step, after_port, step_of_node, marks_taking, marks_sending, marks_stepping, world_step, world_after, replies_to, CanHappen, CanAllHappen, IsEventInRange, step_events, step_replies, AscendByNode, events_of, replies_of, HavePorts, stepped_node, node_after, HaveOwnReplies, marks_of_step, marks_of_steps, after_own, nodes_after, marks_of_nodes, after_nodes, HasMade, AreMadeApart}
use Rattle.world_core.specs.declared.events.WorldReply.TheVariants.{Missed}
use Rattle.world_core.proofs.Runs.{tree_stays, after_append}

-- ---- places of a list

-- ---- one step

-- the marks after a step, by the node that makes it
marks_by_node : (p : EgressPort) (step : PortStep) (reply : StepReply) (w : WorldState) (s : NodeState) → node_at p.node w ≡ Some s
    → marks_stepping p step (Step reply) w ≡ marks_of_step p step reply s w.marks
marks_by_node p Work reply w s is =
    ap (λ (o : Option NodeState). marks_taking p (slice_get (option_map_or (λ x. box_at (place_of p.port) x.inboxes) o []) 0) w.marks) is
marks_by_node p (LeaveNow key) reply w s is = refl
marks_by_node p (LeaveAllNow app) reply w s is = refl
marks_by_node p (PeriodicNow app) reply w s is = refl
marks_by_node p Due reply w s is = refl
marks_by_node p Settle reply w s is = refl
marks_by_node p (Send app) reply w s is =
    ap (λ (o : Option NodeState). marks_sending p app (option_map_or (λ x. is_leave_all_at app (place_of p.port) x) o false) (Step reply) w.marks) is

-- a network with a node after a step, and the marks after it
abbrev stepped : NodeNo → NodeStep → NodeState → WorldState → WorldState
stepped n st s w =
    record {
      tree = w.tree;
      nodes = slice_set w.nodes (n.0 - 1) (stepped_node st s);
      marks = marks_of_step (record { node = n; port = st.port }) st.step st.reply s w.marks;
    }

one_step : (n : NodeNo) (st : NodeStep) (w : WorldState) (s : NodeState) → node_at n w ≡ Some s → st.reply ≡ (node_step (node_events.Port st.port st.step) s).1
    → world_step (Port n st.port st.step) w ≡ (stepped n st s w, Step st.reply)
one_step n st w s is own =
    let made = node_step (node_events.Port st.port st.step) s in
    let p : EgressPort = record { node = n; port = st.port } in
    let nodes : List NodeState = slice_set w.nodes (n.0 - 1) made.0 in
    let happened : step_of_node n (node_events.Port st.port st.step) w ≡ after_step n made w =
    ap (λ (o : Option NodeState). option_map_or (λ x. after_step n (node_step (node_events.Port st.port st.step) x) w) o (w, Missed)) is
    in
    let happens : MarksState → StepReply → Happened = λ m r. (record { tree = w.tree; nodes = nodes; marks = m }, Step r) in
    ap (λ (h : Happened). after_port p st.step h w) happened
    ∙ (ap (λ (m : MarksState). happens m made.1) (marks_by_node p st.step made.1 w s is)
    ∙ ap (λ (r : StepReply). happens (marks_of_step p st.step r s w.marks) r) (sym own))

-- ---- the steps of one node

pub own_after : (n : NodeNo) (made : List NodeStep) (w : WorldState) (s : NodeState) → node_at n w ≡ Some s → HaveOwnReplies made s
    → world_after (events_of n made) w ≡ after_own n made s w
own_after n [] w s is own = ap (λ (nodes : List NodeState). record { tree = w.tree; nodes = nodes; marks = w.marks }) (sym (set_same w.nodes (n.0 - 1) s is))
own_after n (st ∷ made) w s is own =
    let v : WorldState = stepped n st s w in
    let next : NodeState = stepped_node st s in
    ap (λ (h : Happened). world_after (events_of n made) h.0) (one_step n st w s is own.0)
    ∙ (own_after n made v next (get_set w.nodes (n.0 - 1) s next is) own.1
    ∙ ap (λ (nodes : List NodeState). record { tree = w.tree; nodes = nodes; marks = marks_of_steps n made next v.marks })
    (set_twice w.nodes (n.0 - 1) next (node_after made next)))

pub own_replies : (n : NodeNo) (made : List NodeStep) (w : WorldState) (s : NodeState) → node_at n w ≡ Some s → HaveOwnReplies made s
    → replies_of made ≡ replies_to (events_of n made) w
own_replies n [] w s is own = refl
own_replies n (st ∷ made) w s is own =
    let v : WorldState = stepped n st s w in
    let next : NodeState = stepped_node st s in
    ap (λ (rs : List WorldReply). Step st.reply ∷ rs) (own_replies n made v next (get_set w.nodes (n.0 - 1) s next is) own.1)
    ∙ sym (ap (λ (h : Happened). h.1 ∷ replies_to (events_of n made) h.0) (one_step n st w s is own.0))

-- ---- the steps of all nodes

-- two lists have the same node at each of these
abbrev AgreeAt : List NodeState → List NodeState → List NodeSteps → Type 0
AgreeAt xs ys made = AllByRecursion (λ ns. slice_get xs (ns.node.0 - 1) ≡ slice_get ys (ns.node.0 - 1)) made

same_marks : (made : List NodeSteps) (xs ys : List NodeState) (m : MarksState) → AgreeAt xs ys made → marks_of_nodes made xs m ≡ marks_of_nodes made ys m
same_marks [] xs ys m agree = refl
same_marks (ns ∷ made) xs ys m agree =
    ap (λ (o : Option NodeState). marks_of_nodes made xs (option_map_or (λ s. marks_of_steps ns.node ns.steps s m) o m)) agree.0
    ∙ same_marks made xs ys (option_map_or (λ s. marks_of_steps ns.node ns.steps s m) (slice_get ys (ns.node.0 - 1)) m) agree.1

same_made : (made : List NodeSteps) (xs ys : List NodeState) → AgreeAt xs ys made → AllByRecursion (HasMade ys) made → AllByRecursion (HasMade xs) made
same_made [] xs ys agree own = tt
same_made (ns ∷ made) xs ys agree own = ((own.0.0, (own.0.1.0, agree.0 ∙ own.0.1.1, own.0.1.2)), same_made made xs ys agree.1 own.1)

-- a node that is set leaves the later ones as they are
later_agree : (n : NodeNo) (x : NodeState) (xs : List NodeState) (made : List NodeSteps) → 1 ≤ n.0 → AllByRecursion (λ later. n.0 < later.node.0) made
    → AgreeAt (slice_set xs (n.0 - 1) x) xs made
later_agree n x xs [] some later = tt
later_agree n x xs (ns ∷ made) some later =
    let lt = later.0 in
    (get_set_other xs (n.0 - 1) (ns.node.0 - 1) x (λ e. omega (arith, some, lt, e)), later_agree n x xs made some later.1)

pub all_after : (made : List NodeSteps) (w : WorldState) → AscendByNode made → AllByRecursion (HasMade w.nodes) made
    → world_after (step_events made) w ≡ after_nodes made w
all_after [] w ascend own = refl
all_after (ns ∷ made) w ascend own =
    let s : NodeState = own.0.1.0 in
    let is = own.0.1.1 in
    let v : WorldState = after_own ns.node ns.steps s w in
    let agree : AgreeAt v.nodes w.nodes made = later_agree ns.node (node_after ns.steps s) w.nodes made own.0.0 ascend.0 in
    let world : List NodeState → MarksState → WorldState = λ nodes m. record { tree = w.tree; nodes = nodes; marks = m } in
    sym (after_append (events_of ns.node ns.steps) (step_events made) w)
    ∙ (ap (λ (u : WorldState). world_after (step_events made) u) (own_after ns.node ns.steps w s is own.0.1.2)
    ∙ (all_after made v ascend.1 (same_made made v.nodes w.nodes agree own.1)
    ∙ (ap (λ (m : MarksState). world (nodes_after made v.nodes) m) (same_marks made v.nodes w.nodes v.marks agree)
    ∙ sym (ap (λ (o : Option NodeState). world
    (nodes_after made (option_map_or (λ x. slice_set w.nodes (ns.node.0 - 1) (node_after ns.steps x)) o w.nodes))
    (marks_of_nodes made w.nodes (option_map_or (λ x. marks_of_steps ns.node ns.steps x w.marks) o w.marks))) is))))

pub replies_append : (es fs : List WorldEvent) (w : WorldState) → replies_to (es ++ fs) w ≡ replies_to es w ++ replies_to fs (world_after es w)
replies_append [] fs w = refl
replies_append (e ∷ es) fs w = ap (λ rs. (world_step e w).1 ∷ rs) (replies_append es fs (world_step e w).0)

pub all_replies : (made : List NodeSteps) (w : WorldState) → AscendByNode made → AllByRecursion (HasMade w.nodes) made
    → step_replies made ≡ replies_to (step_events made) w
all_replies [] w ascend own = refl
all_replies (ns ∷ made) w ascend own =
    let s : NodeState = own.0.1.0 in
    let is = own.0.1.1 in
    let v : WorldState = after_own ns.node ns.steps s w in
    let agree : AgreeAt v.nodes w.nodes made = later_agree ns.node (node_after ns.steps s) w.nodes made own.0.0 ascend.0 in
    let events : List WorldEvent = events_of ns.node ns.steps in
    ap (λ (rs : List WorldReply). rs ++ step_replies made) (own_replies ns.node ns.steps w s is own.0.1.2)
    ∙ (ap (λ (rs : List WorldReply). replies_to events w ++ rs) (all_replies made v ascend.1 (same_made made v.nodes w.nodes agree own.1))
    ∙ (sym (ap (λ (u : WorldState). replies_to events w ++ replies_to (step_events made) u) (own_after ns.node ns.steps w s is own.0.1.2))
    ∙ sym (replies_append events (step_events made) w)))

-- ---- they may happen

-- an event is the step of a port of the tree
abbrev IsStepOf : Topology → WorldEvent → Type 0
IsStepOf tree (Request n request) = ⊥
IsStepOf tree (Port n port step) = HasPort tree (record { node = n; port = port })
IsStepOf tree (Lose p index) = ⊥
IsStepOf tree (Repeat p index) = ⊥
IsStepOf tree (Forge p index wire) = ⊥
IsStepOf tree (Carry p) = ⊥
IsStepOf tree Clock = ⊥

can_step : (tree : Topology) (e : WorldEvent) (w : WorldState) → w.tree ≡ tree → IsStepOf tree e → CanHappen e w × IsEventInRange e
can_step tree (Request n request) w is h = absurd h
can_step tree (Port n port step) w is h = (subst (λ (t : Topology). HasPort t (record { node = n; port = port })) (sym is) h, tt)
can_step tree (Lose p index) w is h = absurd h
can_step tree (Repeat p index) w is h = absurd h
can_step tree (Forge p index wire) w is h = absurd h
can_step tree (Carry p) w is h = absurd h
can_step tree Clock w is h = absurd h

can_steps : (tree : Topology) (es : List WorldEvent) (w : WorldState) → w.tree ≡ tree → AllByRecursion (IsStepOf tree) es
    → CanAllHappen es w × AllByRecursion IsEventInRange es
can_steps tree [] w is h = (tt, tt)
can_steps tree (e ∷ es) w is h =
    let here = can_step tree e w is h.0 in
    let later = can_steps tree es (world_step e w).0 (tree_stays e w ∙ is) h.1 in
    ((here.0, later.0), (here.1, later.1))

own_steps : (tree : Topology) (n : NodeNo) (made : List NodeStep) → HavePorts tree n made → AllByRecursion (IsStepOf tree) (events_of n made)
own_steps tree n [] h = tt
own_steps tree n (st ∷ made) h = (h.0, own_steps tree n made h.1)

all_steps : (tree : Topology) (made : List NodeSteps) → AllByRecursion (λ (ns : NodeSteps). HavePorts tree ns.node ns.steps) made
    → AllByRecursion (IsStepOf tree) (step_events made)
all_steps tree [] h = tt
all_steps tree (ns ∷ made) h =
    each_append (IsStepOf tree) (events_of ns.node ns.steps) (step_events made) (own_steps tree ns.node ns.steps h.0) (all_steps tree made h.1)

pub all_can : (made : List NodeSteps) (w : WorldState) → AreMadeApart w made → CanAllHappen (step_events made) w × AllByRecursion IsEventInRange (step_events made)
all_can made w h = can_steps w.tree (step_events made) w refl (all_steps w.tree made h.ports)
