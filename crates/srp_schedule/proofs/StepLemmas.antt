-- The steps of one node after another: what has been made so far, and one node more.
use Rattle.std.proofs.Common.{◌≡◌, ◌≢◌, ℕ, zero, suc, ◌+◌, ◌-◌, ◌<◌, ◌≤◌, Bool, true, false, List, [], ◌∷◌, ◌++◌, length, map, take, get_or, refl, sym, ap, subst, ◌∙◌, arith}
use Rattle.std.specs.Prelude.{slice_get, Option, Some, None, ◌==◌, if◌then◌else◌, filter}
use Rattle.std.specs.{Option.option_map_or, List.AllByRecursion, List.range_with_len}
use Rattle.std.proofs.lemmas.{List.FromFn.length-map-range_with_len, Bool.Decides.nat_tests, List.append-nil, List.map-append, Grind.flat_map-append}
use Rattle.std.proofs.Math.Seq.{take-suc}
use Rattle.srp_base.proofs.{Lists.each_append, Lists.get_set_other, Lists.within, Lists.each_more, Arithmetic.same_where_equal as same_number, Arithmetic.is_same as same_is, Arithmetic.is_other as other_is}
use Rattle.srp_base.specs.declared.{numbers.NodeNo.NodeNo, numbers.PortNo.PortNo, numbers.EgressPort.EgressPort}
use Rattle.tree_topology.specs.{Topology.Topology, Topology.HasNode, Topology.HasPort, Ports.neighbours}
use Rattle.node_core.specs.declared.types.NodeEvent.TheVariants as node_events
use Rattle.node_core.specs.declared.{types.NodeStep.NodeStep, types.PortStep.PortStep}
use Rattle.node_core.specs.{State.NodeState, State.ports_of, State.job_list, Step.node_step}
use Rattle.world_core.specs.declared.{events.WorldEvent.WorldEvent, events.WorldEvent.TheVariants.Port, events.WorldReply.TheVariants.Step, events.WorldReply.TheVariants.Missed, journal.NodeSteps.NodeSteps}
use Rattle.world_core.specs.{Kept.IsKeptWorld, World.WorldState, World.Happened, World.node_at, World.after_step, World.world_step, World.world_after, World.replies_to, Ticks.step_events, Ticks.step_replies, Ticks.steps_at_port, Ticks.steps_of, Ticks.jobs_of, Ticks.canonical_order, Ticks.AscendByNode, Ticks.with_steps, Apart.events_of, Apart.replies_of}
use Rattle.world_core.proofs.{Timelines.after_both, OwnSteps.replies_append}
use Rattle.srp_schedule.specs.{AreSteps, IsNodeMade}
use Rattle.srp_schedule.proofs.OrderLemmas.{at_port, canonical_is, order_of_port, order_ports}

other_number : (x y : ℕ) → (x == y) ≡ false → x ≢ y
other_number x y h = λ e. grind (arith, nat_tests, h, e)

below : (p n x : ℕ) → (p == n) ≡ false → n ≡ x + 1 → p ≤ x + 1 → p ≤ x
below p n x h e le = let ne = other_number p n h in omega (arith, e, le, ne)

-- ---- a node of a network

pub node_there : (w : WorldState) → IsKeptWorld w → (n : NodeNo) → HasNode w.tree n.0 → (s : NodeState) × (node_at n w ≡ Some s)
node_there w kept n has =
    let first = has.0 in
    let last = has.1 in
    let many = kept.many in
    within w.nodes (n.0 - 1) (omega (arith, first, last, many))

-- and changes no other node
step_other : (n : NodeNo) (port : PortNo) (step : PortStep) (w : WorldState) (m : ℕ) → n.0 - 1 ≢ m → slice_get (world_step (Port n port step) w).0.nodes m ≡ slice_get w.nodes m
step_other n port step w m ne = by (node_at n w)
  where
    by : (o : Option NodeState) → slice_get (option_map_or (λ x. after_step n (node_step (node_events.Port port step) x) w) o (w, Missed)).0.nodes m ≡ slice_get w.nodes m
    by None = refl
    by (Some s) = get_set_other w.nodes (n.0 - 1) m (node_step (node_events.Port port step) s).0 ne

pub steps_other : (n : NodeNo) (made : List NodeStep) (w : WorldState) (m : ℕ) → n.0 - 1 ≢ m → slice_get (world_after (events_of n made) w).nodes m ≡ slice_get w.nodes m
steps_other n [] w m ne = refl
steps_other n (st ∷ made) w m ne = steps_other n made (world_step (Port n st.port st.step) w).0 m ne ∙ step_other n st.port st.step w m ne

-- ---- the jobs of one node, one after the other

-- a node's jobs before place i are made
pub record IsMade (n : NodeNo) (jobs : List (PortNo × PortStep)) (i : ℕ) (start w : WorldState) (made : List NodeStep) : Type 0 where
  pub order : map (λ st. (st.port, st.step)) made ≡ take i jobs
  pub known : AllByRecursion (λ st. HasPort start.tree (record { node = n; port = st.port })) made
  pub replies : replies_of made ≡ replies_to (events_of n made) start
  pub after : w ≡ world_after (events_of n made) start
  pub tree : w.tree ≡ start.tree

at_place : {X : Type 0} (P : X → Type 0) (xs : List X) (i : ℕ) (d : X) → i < length xs → AllByRecursion P xs → P (get_or xs i d)
at_place P [] i d lt h = absurd (omega (arith, lt))
at_place P (x ∷ xs) zero d lt h = h.0
at_place P (x ∷ xs) (suc i) d lt h = at_place P xs i d (omega (arith, lt)) h.1

-- the job at a place is of a port that there is
pub job_port : (n : NodeNo) (tree : Topology) (jobs : List (PortNo × PortStep)) (i : ℕ) (port : PortNo) (step : PortStep) → i < length jobs → (port, step) ≡ get_or jobs i (port, step)
    → AllByRecursion (λ (j : PortNo × PortStep). HasPort tree (record { node = n; port = j.0 })) jobs → HasPort tree (record { node = n; port = port })
job_port n tree jobs i port step lt here known =
    let P : PortNo × PortStep → Type 0 = λ j. HasPort tree (record { node = n; port = j.0 }) in
    subst P (sym here) (at_place P jobs i (port, step) lt known)

pub one_made : (n : NodeNo) (jobs : List (PortNo × PortStep)) (i : ℕ) (start w v : WorldState) (made : List NodeStep) (st : NodeStep)
    → i < length jobs → (st.port, st.step) ≡ get_or jobs i (st.port, st.step) → HasPort start.tree (record { node = n; port = st.port })
    → world_step (Port n st.port st.step) w ≡ (v, Step st.reply) → v.tree ≡ w.tree → IsMade n jobs i start w made
    → IsMade n jobs (i + 1) start v (made ++ (st ∷ []))
one_made n jobs i start w v made st lt here has step tree m =
    let event : WorldEvent = Port n st.port st.step in
    let pair : NodeStep → PortNo × PortStep = λ s. (s.port, s.step) in
    let events : events_of n (made ++ (st ∷ [])) ≡ events_of n made ++ (event ∷ []) = map-append (λ (s : NodeStep). Port n s.port s.step) made (st ∷ []) in
    let next : suc i ≡ i + 1 = omega arith in
    record {
      order =
          map-append pair made (st ∷ [])
          ∙ (ap (λ x. x ++ (pair st ∷ [])) m.order
          ∙ (ap (λ x. take i jobs ++ (x ∷ [])) here
          ∙ (sym (take-suc jobs i (pair st) lt) ∙ ap (λ (k : ℕ). take k jobs) next)));
      known = each_append (λ (s : NodeStep). HasPort start.tree (record { node = n; port = s.port })) made (st ∷ []) m.known (has, tt);
      replies =
          map-append (λ (s : NodeStep). Step s.reply) made (st ∷ [])
          ∙ (ap (λ x. x ++ (Step st.reply ∷ [])) m.replies
          ∙ (ap (λ (h : Happened). replies_to (events_of n made) start ++ (h.1 ∷ [])) (sym step)
          ∙ (ap (λ x. replies_to (events_of n made) start ++ ((world_step event x).1 ∷ [])) m.after
          ∙ (sym (replies_append (events_of n made) (event ∷ []) start) ∙ ap (λ es. replies_to es start) (sym events)))));
      after =
          ap (λ (h : Happened). h.0) (sym step)
          ∙ (ap (λ x. (world_step event x).0) m.after
          ∙ (sym (after_both (events_of n made) (event ∷ []) start) ∙ ap (λ es. world_after es start) (sym events)));
      tree = tree ∙ m.tree;
    }

-- ---- the nodes, one after the other

-- the nodes up to number x have made their steps, and the others are as they were
pub record IsSteppedTo (x : ℕ) (start w : WorldState) (made : List NodeSteps) : Type 0 where
  pub steps : AreSteps x start made
  pub after : w ≡ world_after (step_events made) start
  pub others : (m : ℕ) → x ≤ m → slice_get w.nodes m ≡ slice_get start.nodes m
  pub tree : w.tree ≡ start.tree

-- the steps at a port among a node's
at_pairs : (port : PortNo) (made : List NodeStep) → steps_at_port port made ≡ at_port port.0 (map (λ st. (st.port, st.step)) made)
at_pairs port [] = refl
at_pairs port (st ∷ made) = by (st.port.0 == port.0) (at_pairs port made)
  where
    by : (b : Bool) → steps_at_port port made ≡ at_port port.0 (map (λ st. (st.port, st.step)) made)
        → map (λ (s : NodeStep). s.step) (if b then st ∷ filter (λ s. s.port.0 == port.0) made else filter (λ s. s.port.0 == port.0) made)
        ≡ map (λ (j : PortNo × PortStep). j.1) (if b then (st.port, st.step) ∷ filter (λ j. j.0.0 == port.0) (map (λ s. (s.port, s.step)) made)
        else filter (λ j. j.0.0 == port.0) (map (λ s. (s.port, s.step)) made))
    by true e = ap (λ r. st.step ∷ r) e
    by false e = e

-- the steps of a port of a later node than all
steps_none : (p : EgressPort) (x : ℕ) (made : List NodeSteps) → x < p.node.0 → AllByRecursion (λ ns. ns.node.0 ≤ x) made → steps_of p made ≡ []
steps_none p x [] lt h = refl
steps_none p x (ns ∷ made) lt h =
    let le = h.0 in
    ap (λ (b : Bool). (if b then steps_at_port p.port ns.steps else []) ++ steps_of p made) (other_is ns.node.0 p.node.0 (λ e. omega (arith, e, le, lt)))
    ∙ steps_none p x made lt h.1

ascend_more : (ns : NodeSteps) (x : ℕ) (made : List NodeSteps) → x < ns.node.0 → AllByRecursion (λ (q : NodeSteps). q.node.0 ≤ x) made → AscendByNode made → AscendByNode (made ++ (ns ∷ []))
ascend_more ns x [] lt within h = (tt, tt)
ascend_more ns x (q ∷ made) lt within h =
    let le = within.0 in
    (each_append (λ later. q.node.0 < later.node.0) made (ns ∷ []) h.0 (omega (arith, le, lt), tt), ascend_more ns x made lt within.1 h.1)

module _ (n : NodeNo) (x : ℕ) (start w v : WorldState) (made : List NodeSteps) (number : n.0 ≡ x + 1) (s : NodeState) (is : node_at n start ≡ Some s)
    (ports : (p : EgressPort) → HasPort start.tree p → p.node.0 ≡ n.0 → p.port.0 ≤ ports_of s) (so_far : IsSteppedTo x start w made) where
  -- the node is as it was
  same_node : node_at n w ≡ Some s
  same_node = so_far.others (n.0 - 1) (omega (arith, number)) ∙ is

  same_order : canonical_order n w ≡ canonical_order n start
  same_order = canonical_is n w s same_node ∙ sym (canonical_is n start s is)

  others_later : (steps : List NodeStep) → v ≡ world_after (events_of n steps) w → (m : ℕ) → x + 1 ≤ m → slice_get v.nodes m ≡ slice_get start.nodes m
  others_later steps after m le =
      ap (λ (u : WorldState). slice_get u.nodes m) after
      ∙ (steps_other n steps w m (λ e. omega (arith, e, le, number)) ∙ so_far.others m (omega (arith, le)))

  own_jobs : (steps : List NodeStep) → map (λ st. (st.port, st.step)) steps ≡ canonical_order n start → (p : EgressPort) → HasPort start.tree p → p.node.0 ≡ n.0
      → steps_at_port p.port steps ≡ jobs_of p start
  own_jobs steps order p has same =
      at_pairs p.port steps
      ∙ (ap (λ j. at_port p.port.0 j) order
      ∙ (order_of_port n start s p.port is has.1 (ports p has same)
      ∙ ap (λ (k : ℕ). jobs_of (record { node = record { 0 = k }; port = p.port }) start) (sym same)))

  pub one_stepped : (steps : List NodeStep) → IsNodeMade n w v steps → IsSteppedTo (x + 1) start v (with_steps n steps made)
  one_stepped [] m =
      record {
        steps = record {
          within = each_more (λ ns. ns.node.0 ≤ x) (λ ns. ns.node.0 ≤ x + 1) made (λ ns le. omega (arith, le)) so_far.steps.within;
          nodes = so_far.steps.nodes;
          some = so_far.steps.some;
          known = so_far.steps.known;
          jobs = λ p has le. by p has (p.node.0 == n.0) refl le;
          replies = so_far.steps.replies;
          canonical = so_far.steps.canonical;
        };
        after = m.after ∙ so_far.after;
        others = others_later [] m.after;
        tree = m.tree ∙ so_far.tree;
      }
    where
      by : (p : EgressPort) → HasPort start.tree p → (b : Bool) → (p.node.0 == n.0) ≡ b → p.node.0 ≤ x + 1 → steps_of p made ≡ jobs_of p start
      by p has true e le =
          let same : p.node.0 ≡ n.0 = same_number p.node.0 n.0 e in
          steps_none p x made (omega (arith, same, number)) so_far.steps.within ∙ own_jobs [] (m.order ∙ same_order) p has same
      by p has false e le = so_far.steps.jobs p has (below p.node.0 n.0 x e number le)
  one_stepped (st ∷ later) m =
      let steps : List NodeStep = st ∷ later in
      let ns : NodeSteps = record { node = n; steps = steps } in
      let events : step_events (made ++ (ns ∷ [])) ≡ step_events made ++ events_of n steps =
      flat_map-append (λ (q : NodeSteps). map (λ r. Port q.node r.port r.step) q.steps) made (ns ∷ []) ∙ ap (λ es. step_events made ++ es) (append-nil (events_of n steps))
      in
      let order = m.order ∙ same_order in
      record {
        steps = record {
          within = each_append (λ q. q.node.0 ≤ x + 1) made (ns ∷ []) (each_more (λ q. q.node.0 ≤ x) (λ q. q.node.0 ≤ x + 1) made (λ q le. omega (arith, le)) so_far.steps.within)
              (omega (arith, number), tt);
          nodes = ascend_more ns x made (omega (arith, number)) so_far.steps.within so_far.steps.nodes;
          some = each_append (λ q. q.steps ≢ []) made (ns ∷ []) so_far.steps.some (λ e. cc, tt);
          known = each_append (λ q. AllByRecursion (λ r. HasPort start.tree (record { node = q.node; port = r.port })) q.steps) made (ns ∷ []) so_far.steps.known
              (subst (λ (t : Topology). AllByRecursion (λ r. HasPort t (record { node = n; port = r.port })) steps) so_far.tree m.known, tt);
          jobs = λ p has le. by p has (p.node.0 == n.0) refl le;
          replies =
              flat_map-append (λ (q : NodeSteps). map (λ r. Step r.reply) q.steps) made (ns ∷ [])
              ∙ (ap (λ rs. step_replies made ++ rs) (append-nil (replies_of steps))
              ∙ (ap (λ rs. rs ++ replies_of steps) so_far.steps.replies
              ∙ (ap (λ rs. replies_to (step_events made) start ++ rs) (m.replies ∙ ap (λ u. replies_to (events_of n steps) u) so_far.after)
              ∙ (sym (replies_append (step_events made) (events_of n steps) start) ∙ ap (λ es. replies_to es start) (sym events)))));
          canonical = each_append (λ q. map (λ r. (r.port, r.step)) q.steps ≡ canonical_order q.node start) made (ns ∷ []) so_far.steps.canonical (order, tt);
        };
        after =
            m.after
            ∙ (ap (λ u. world_after (events_of n steps) u) so_far.after
            ∙ (sym (after_both (step_events made) (events_of n steps) start) ∙ ap (λ es. world_after es start) (sym events)));
        others = others_later steps m.after;
        tree = m.tree ∙ so_far.tree;
      }
    where
      by : (p : EgressPort) → HasPort start.tree p → (b : Bool) → (p.node.0 == n.0) ≡ b → p.node.0 ≤ x + 1 → steps_of p (made ++ ((record { node = n; steps = st ∷ later }) ∷ [])) ≡ jobs_of p start
      by p has true e le =
          let same : p.node.0 ≡ n.0 = same_number p.node.0 n.0 e in
          let steps : List NodeStep = st ∷ later in
          let ns : NodeSteps = record { node = n; steps = steps } in
          flat_map-append (λ (q : NodeSteps). if q.node.0 == p.node.0 then steps_at_port p.port q.steps else []) made (ns ∷ [])
          ∙ (ap (λ a. a ++ steps_of p (ns ∷ [])) (steps_none p x made (omega (arith, same, number)) so_far.steps.within)
          ∙ (ap (λ (b : Bool). (if b then steps_at_port p.port steps else []) ++ []) (same_is n.0 p.node.0 (sym same))
          ∙ (append-nil (steps_at_port p.port steps) ∙ own_jobs steps (m.order ∙ same_order) p has same)))
      by p has false e le =
          let steps : List NodeStep = st ∷ later in
          let ns : NodeSteps = record { node = n; steps = steps } in
          let ne : n.0 ≢ p.node.0 = λ same. let none = other_number p.node.0 n.0 e in none (sym same) in
          flat_map-append (λ (q : NodeSteps). if q.node.0 == p.node.0 then steps_at_port p.port q.steps else []) made (ns ∷ [])
          ∙ (ap (λ (b : Bool). steps_of p made ++ ((if b then steps_at_port p.port steps else []) ++ [])) (other_is n.0 p.node.0 ne)
          ∙ (append-nil (steps_of p made) ∙ so_far.steps.jobs p has (below p.node.0 n.0 x e number le)))

-- ---- the ports of a node

-- a node has as many ports as its place in the tree
ports_are : (w : WorldState) → IsKeptWorld w → (n : NodeNo) → 1 ≤ n.0 → (s : NodeState) → node_at n w ≡ Some s → ports_of s ≡ length (neighbours w.tree.links n.0)
ports_are w kept n first s is =
    let number : n.0 - 1 + 1 ≡ n.0 = omega (arith, first) in
    (kept.nodes (n.0 - 1) s is).ports ∙ ap (λ (k : ℕ). length (neighbours w.tree.links k)) number

-- the canonical order is of ports that there are
pub jobs_known : (w : WorldState) → IsKeptWorld w → (n : NodeNo) → HasNode w.tree n.0 → (jobs : List (PortNo × PortStep)) → jobs ≡ canonical_order n w
    → AllByRecursion (λ (j : PortNo × PortStep). HasPort w.tree (record { node = n; port = j.0 })) jobs
jobs_known w kept n has jobs are =
    let there = node_there w kept n has in
    let s : NodeState = there.0 in
    let P : PortNo → Type 0 = λ port. HasPort w.tree (record { node = n; port = port }) in
    let f : ℕ → List PortStep = λ at. job_list at s in
    let count = ports_are w kept n has.0 s there.1 in
    let all : length (map f (range_with_len 0 (ports_of s))) ≡ ports_of s = length-map-range_with_len f 0 (ports_of s) in
    subst (λ (js : List (PortNo × PortStep)). AllByRecursion (λ j. P j.0) js) (sym (are ∙ canonical_is n w s there.1))
    (order_ports P (map f (range_with_len 0 (ports_of s))) (λ i le lt. (has, le, omega (arith, lt, all, count))))

-- one node more, as the loop has it
pub next_node : (x : ℕ) (start w v : WorldState) (made next : List NodeSteps) (steps : List NodeStep) → IsKeptWorld start → x < length start.tree.kinds
    → next ≡ with_steps (record { 0 = x + 1 }) steps made → IsNodeMade (record { 0 = x + 1 }) w v steps
    → IsSteppedTo x start w made → IsSteppedTo (x + 1) start v next
next_node x start w v made next steps kept lt push m so_far =
    let n : NodeNo = record { 0 = x + 1 } in
    let first : 1 ≤ x + 1 = omega arith in
    let last : x + 1 ≤ length start.tree.kinds = omega (arith, lt) in
    let there = node_there start kept n (first, last) in
    let s : NodeState = there.0 in
    let count = ports_are start kept n first s there.1 in
    let ports : (p : EgressPort) → HasPort start.tree p → p.node.0 ≡ n.0 → p.port.0 ≤ ports_of s =
    λ p has same. let few = has.2 in let own = ap (λ (k : ℕ). length (neighbours start.tree.links k)) same in omega (arith, few, own, count)
    in
    subst (IsSteppedTo (x + 1) start v) (sym push) (one_stepped n x start w v made refl s there.1 ports so_far steps m)

-- an element that is read at a place, under another name
pub read_as : {X : Type 0} (xs : List X) (i : ℕ) (x y : X) → x ≡ y → y ≡ get_or xs i y → x ≡ get_or xs i x
read_as xs i x y e h = subst (λ z. z ≡ get_or xs i z) (sym e) h
