-- The nodes of a network have made their steps of a tick apart: one node after the other, this is what the network makes of them.
use Rattle.std.proofs.Common.{◌≡◌, ◌≢◌, ℕ, suc, ◌+◌, ◌-◌, ◌*◌, ◌<◌, ◌≤◌, Bool, true, false, if◌then◌else◌, List, [], ◌∷◌, ◌++◌, length, length-append, map, refl, sym, ap, subst, ◌∙◌, append_assoc, arith}
use Rattle.std.specs.Prelude.{slice_get, slice_set, Option, Some, ◌==◌, ◌^◌}
use Rattle.std.specs.{Option.option_map_or, List.AllByRecursion}
use Rattle.std.proofs.lemmas.List.{append-nil, length-map}
use Rattle.srp_base.proofs.{Lists.get_set_other, Arithmetic.is_same, Arithmetic.is_other, Arithmetic.same_where_equal as same_number, Lists.each_more}
use Rattle.srp_base.specs.declared.{numbers.NodeNo.NodeNo, numbers.EgressPort.EgressPort}
use Rattle.tree_topology.specs.{Topology.Topology, Topology.HasPort, Ports.neighbours}
use Rattle.attribute_propagation.specs.Ports.{IsLinkPort, place_of}
use Rattle.node_core.specs.declared.{types.NodeStep.NodeStep, types.PortStep.PortStep}
use Rattle.node_core.specs.{Holding.NodeHolding, Holding.states_in, State.NodeState, State.ports_of, State.job_list}
use Rattle.bridge_book.specs.declared.notice.Notice.{Notice}
use Rattle.world_core.specs.declared.{events.WorldEvent.WorldEvent, events.WorldReply.WorldReply, journal.NodeSteps.NodeSteps}
use Rattle.world_core.specs.{Apart.events_of, Apart.replies_of, Apart.HavePorts, Apart.node_after, Apart.after_own, Kept.IsKeptWorld, Marks.MarksState, OneByOne.steps_before, Ticks.step_events, Ticks.step_replies, Ticks.steps_at_port, Ticks.steps_of, Ticks.jobs_of, Ticks.AscendByNode, World.WorldState, World.node_at, World.world_after, World.replies_to}
use Rattle.world_core.proofs.{Timelines.after_both, OwnSteps.replies_append}
use Rattle.port_worker.specs.{Task, IsWorked, marks_by, CanMarkAll, AreFew, AreNumbered, AreWorked, steps_made, marks_made, CanFollow, nodes_of, StepLaws, AreSteps}
use Rattle.port_worker.specs.declared.node.Worked.{Worked}
use Rattle.port_worker.proofs.{Lists.get_middle, MarkLemmas.CanGoOn, MarkLemmas.can_all, MarkLemmas.marks_of_all}

set_middle : {X : Type 0} (xs ys : List X) (x y : X) → slice_set (xs ++ x ∷ ys) (length xs) y ≡ xs ++ y ∷ ys
set_middle [] ys x y = refl
set_middle (z ∷ xs) ys x y = ap (λ r. z ∷ r) (set_middle xs ys x y)

-- ---- the steps of a node before those of later nodes

before_events : (n : NodeNo) (made : List NodeStep) (later : List NodeSteps) → step_events (steps_before n made later) ≡ events_of n made ++ step_events later
before_events n [] later = refl
before_events n (st ∷ made) later = refl

before_replies : (n : NodeNo) (made : List NodeStep) (later : List NodeSteps) → step_replies (steps_before n made later) ≡ replies_of made ++ step_replies later
before_replies n [] later = refl
before_replies n (st ∷ made) later = refl

before_each : (P : NodeSteps → Type 0) (n : NodeNo) (made : List NodeStep) (later : List NodeSteps) → (made ≢ [] → P (record { node = n; steps = made })) → AllByRecursion P later
    → AllByRecursion P (steps_before n made later)
before_each P n [] later h k = k
before_each P n (st ∷ made) later h k = (h (λ e. cc), k)

before_ascend : (n : NodeNo) (made : List NodeStep) (later : List NodeSteps) → AllByRecursion (λ (q : NodeSteps). n.0 < q.node.0) later → AscendByNode later → AscendByNode (steps_before n made later)
before_ascend n [] later h k = k
before_ascend n (st ∷ made) later h k = (h, k)

before_steps : (p : EgressPort) (n : NodeNo) (made : List NodeStep) (later : List NodeSteps)
    → steps_of p (steps_before n made later) ≡ (if n.0 == p.node.0 then steps_at_port p.port made else []) ++ steps_of p later
before_steps p n [] later = by (n.0 == p.node.0)
  where
    by : (b : Bool) → steps_of p later ≡ (if b then steps_at_port p.port [] else []) ++ steps_of p later
    by true = refl
    by false = refl
before_steps p n (st ∷ made) later = refl

steps_none : (p : EgressPort) (made : List NodeSteps) → AllByRecursion (λ (q : NodeSteps). p.node.0 < q.node.0) made → steps_of p made ≡ []
steps_none p [] h = refl
steps_none p (q ∷ made) h =
    let lt = h.0 in
    ap (λ (b : Bool). (if b then steps_at_port p.port q.steps else []) ++ steps_of p made) (is_other q.node.0 p.node.0 (λ e. omega (arith, e, lt)))
    ∙ steps_none p made h.1

-- ---- one node after the other

-- the network once the nodes behind these have become others, and the marks have followed
abbrev after_all : List NodeState → WorldState → List Worked → WorldState
after_all front u all = record { tree = u.tree; nodes = front ++ states_in (nodes_of all); marks = marks_made all u.marks }

-- the nodes behind node x have made their steps from a network
pub record IsGathered (x : ℕ) (front : List NodeState) (u : WorldState) (all : List Worked) : Type 0 where
  pub can : CanFollow all u.marks
  pub kept : IsKeptWorld (record { tree = u.tree; nodes = front ++ states_in (nodes_of all); marks = marks_made all u.marks })
  pub after : world_after (step_events (steps_made all)) u ≡ record { tree = u.tree; nodes = front ++ states_in (nodes_of all); marks = marks_made all u.marks }
  pub replies : step_replies (steps_made all) ≡ replies_to (step_events (steps_made all)) u
  pub within : AllByRecursion (λ (q : NodeSteps). x < q.node.0) (steps_made all)
  pub nodes : AscendByNode (steps_made all)
  pub some : AllByRecursion (λ (q : NodeSteps). q.steps ≢ []) (steps_made all)
  pub known : AllByRecursion (λ (q : NodeSteps). HavePorts u.tree q.node q.steps) (steps_made all)
  pub jobs : (p : EgressPort) → HasPort u.tree p → x < p.node.0 → steps_of p (steps_made all) ≡ jobs_of p u

-- the ports of a node are ports of the tree
link_ports_there : (tree : Topology) (n : NodeNo) (count : ℕ) (made : List NodeStep) → 1 ≤ n.0 → n.0 ≤ length tree.kinds → count ≡ length (neighbours tree.links n.0)
    → AllByRecursion (λ (st : NodeStep). IsLinkPort st.port count) made → HavePorts tree n made
link_ports_there tree n count [] first last ports h = tt
link_ports_there tree n count (st ∷ made) first last ports h =
    let some = h.0.some in
    let few = h.0.within in (
      ((first, last), some, omega (arith, few, ports)),
      link_ports_there tree n count made first last ports h.1,
    )

module _ (laws : StepLaws) where
  module _ (task : Task) (worked : Worked) (tasks : List Task) (rest : List Worked) (x : ℕ) (front : List NodeState) (u : WorldState) (few : AreFew (2 ^ 65 + x * 2 ^ 64) u.marks)
      (kept : IsKeptWorld u) (is : IsWorked task worked) (number : worked.number.0 ≡ x + 1) (nodes : u.nodes ≡ front ++ task.node.state ∷ states_in (map (λ (t : Task). t.node) tasks))
      (long : length front ≡ x) (room : x + suc (length tasks) < 65536) where
    abbrev n : NodeNo
    n = worked.number

    abbrev s : NodeState
    s = task.node.state

    abbrev made : List NodeStep
    made = worked.steps

    abbrev v : WorldState
    v = after_own n made s u

    place : n.0 - 1 ≡ length front
    place = omega (arith, number, long)

    at : node_at n u ≡ Some s
    at = ap (λ (k : ℕ). slice_get u.nodes k) place ∙ (ap (λ (all : List NodeState). slice_get all (length front)) nodes ∙ get_middle front (states_in (map (λ (t : Task). t.node) tasks)) s)

    many : n.0 ≤ length u.tree.kinds
    many =
        let count = kept.many in
        let all : length u.nodes ≡ length front + suc (length (states_in (map (λ (t : Task). t.node) tasks))) =
        ap (λ (xs : List NodeState). length xs) nodes ∙ length-append front (s ∷ states_in (map (λ (t : Task). t.node) tasks))
        in
        omega (arith, count, all, number, long)

    ports_are : ports_of s ≡ length (neighbours u.tree.links n.0)
    ports_are =
        let next : n.0 - 1 + 1 ≡ n.0 = omega (arith, number) in
        (kept.nodes (n.0 - 1) s at).ports ∙ ap (λ (k : ℕ). length (neighbours u.tree.links k)) next

    ports : HavePorts u.tree n made
    ports = link_ports_there u.tree n (ports_of s) made (omega (arith, number)) many ports_are is.made.ports

    go : CanGoOn n made s u (2 ^ 65 + x * 2 ^ 64)
    go = let short = is.few in can_all laws n made s u (2 ^ 65 + x * 2 ^ 64) kept at is.made.own ports few (omega (arith, short, room))

    pub kept_next : IsKeptWorld v
    kept_next = go.kept

    marks_next : v.marks ≡ marks_by n made worked.notices u.marks
    marks_next = sym (marks_of_all n made s u.marks) ∙ ap (λ (ns : List Notice). marks_by n made ns u.marks) (sym is.made.notices_are)

    pub few_next : AreFew (2 ^ 65 + (x + 1) * 2 ^ 64) v.marks
    few_next = λ app p has.
        let short = is.few in
        let h = subst (AreFew (2 ^ 65 + x * 2 ^ 64 + length made)) (marks_of_all n made s u.marks) go.few app p has in
        omega (arith, short, h)

    pub nodes_next : v.nodes ≡ (front ++ worked.node.state ∷ []) ++ states_in (map (λ (t : Task). t.node) tasks)
    nodes_next =
        let later : List NodeState = states_in (map (λ (t : Task). t.node) tasks) in
        ap (λ (k : ℕ). slice_set u.nodes k (node_after made s)) place
        ∙ (ap (λ (all : List NodeState). slice_set all (length front) (node_after made s)) nodes
        ∙ (set_middle front later s (node_after made s)
        ∙ (ap (λ (y : NodeState). front ++ y ∷ later) (sym is.made.after) ∙ sym (append_assoc front (worked.node.state ∷ []) later))))

    pub long_next : length (front ++ worked.node.state ∷ []) ≡ x + 1
    long_next = length-append front (worked.node.state ∷ []) ∙ ap (λ (k : ℕ). k + 1) long

    module _ (later : IsGathered (x + 1) (front ++ worked.node.state ∷ []) v rest) where
      abbrev all : List Worked
      all = worked ∷ rest

      same_after : after_all (front ++ worked.node.state ∷ []) v rest ≡ after_all front u all
      same_after =
          ap (λ (m : MarksState). record { tree = u.tree; nodes = (front ++ worked.node.state ∷ []) ++ states_in (nodes_of rest); marks = marks_made rest m }) marks_next
          ∙ ap (λ (ns : List NodeState). record { tree = u.tree; nodes = ns; marks = marks_made rest (marks_by n made worked.notices u.marks) })
          (append_assoc front (worked.node.state ∷ []) (states_in (nodes_of rest)))

      own_after : world_after (events_of n made) u ≡ v
      own_after = laws.one n made u s at is.made.own

      events : step_events (steps_made all) ≡ events_of n made ++ step_events (steps_made rest)
      events = before_events n made (steps_made rest)

      jobs_here : (p : EgressPort) → HasPort u.tree p → x < p.node.0 → (b : Bool) → (n.0 == p.node.0) ≡ b → steps_of p (steps_made all) ≡ jobs_of p u
      jobs_here p has lt true e =
          let same : n.0 ≡ p.node.0 = same_number n.0 p.node.0 e in
          let some = has.1 in
          let fits = has.2 in
          let own : length (neighbours u.tree.links n.0) ≡ length (neighbours u.tree.links p.node.0) = ap (λ (k : ℕ). length (neighbours u.tree.links k)) same in
          let link : IsLinkPort p.port (ports_of s) = record { some = some; within = omega (arith, fits, own, ports_are) } in
          let none : steps_of p (steps_made rest) ≡ [] =
          steps_none p (steps_made rest) (each_more (λ (q : NodeSteps). x + 1 < q.node.0) (λ (q : NodeSteps). p.node.0 < q.node.0)
          (steps_made rest) (λ q h. omega (arith, h, same, number)) later.within)
          in
          before_steps p n made (steps_made rest)
          ∙ (ap (λ (b : Bool). (if b then steps_at_port p.port made else []) ++ steps_of p (steps_made rest)) e
          ∙ (ap (λ (ss : List PortStep). steps_at_port p.port made ++ ss) none
          ∙ (append-nil (steps_at_port p.port made)
          ∙ (is.made.jobs p.port link
          ∙ sym (ap (λ (o : Option NodeState). option_map_or (λ y. job_list (place_of p.port) y) o []) (ap (λ (k : ℕ). slice_get u.nodes (k - 1)) (sym same) ∙ at))))))
      jobs_here p has lt false e =
          let ne : n.0 ≢ p.node.0 = λ same. let yes = is_same n.0 p.node.0 same in cc in
          let other : node_at p.node v ≡ node_at p.node u = get_set_other u.nodes (n.0 - 1) (p.node.0 - 1) (node_after made s) (λ same. ne (omega (arith, same, number, lt))) in
          before_steps p n made (steps_made rest)
          ∙ (ap (λ (b : Bool). (if b then steps_at_port p.port made else []) ++ steps_of p (steps_made rest)) e
          ∙ (later.jobs p has (let not_next : p.node.0 ≢ x + 1 = λ same. ne (number ∙ sym same) in omega (arith, lt, not_next))
          ∙ ap (λ (o : Option NodeState). option_map_or (λ y. job_list (place_of p.port) y) o []) other))

      pub one_gathered : IsGathered x front u all
      one_gathered =
          record {
            can = (
              subst (λ (ns : List Notice). CanMarkAll n made ns u.marks) (sym is.made.notices_are) go.can,
              subst (CanFollow rest) marks_next later.can,
            );
            kept = subst IsKeptWorld same_after later.kept;
            after =
                ap (λ (es : List WorldEvent). world_after es u) events
                ∙ (after_both (events_of n made) (step_events (steps_made rest)) u
                ∙ (ap (λ (w : WorldState). world_after (step_events (steps_made rest)) w) own_after ∙ (later.after ∙ same_after)));
            replies =
                before_replies n made (steps_made rest)
                ∙ (ap (λ (rs : List WorldReply). rs ++ step_replies (steps_made rest)) (laws.own n made u s at is.made.own)
                ∙ (ap (λ (rs : List WorldReply). replies_to (events_of n made) u ++ rs) (later.replies ∙ ap (λ (w : WorldState). replies_to (step_events (steps_made rest)) w) (sym own_after))
                ∙ (sym (replies_append (events_of n made) (step_events (steps_made rest)) u) ∙ ap (λ (es : List WorldEvent). replies_to es u) (sym events))));
            within = before_each (λ (q : NodeSteps). x < q.node.0) n made (steps_made rest) (λ ne. omega (arith, number))
                (each_more (λ (q : NodeSteps). x + 1 < q.node.0) (λ (q : NodeSteps). x < q.node.0) (steps_made rest) (λ q h. omega (arith, h)) later.within);
            nodes = before_ascend n made (steps_made rest)
                (each_more (λ (q : NodeSteps). x + 1 < q.node.0) (λ (q : NodeSteps). n.0 < q.node.0) (steps_made rest) (λ q h. omega (arith, h, number)) later.within) later.nodes;
            some = before_each (λ (q : NodeSteps). q.steps ≢ []) n made (steps_made rest) (λ ne. ne) later.some;
            known = before_each (λ (q : NodeSteps). HavePorts u.tree q.node q.steps) n made (steps_made rest) (λ ne. ports) later.known;
            jobs = λ p has lt. jobs_here p has lt (n.0 == p.node.0) refl;
          }

  pub gathered : (tasks : List Task) (all : List Worked) (x : ℕ) (front : List NodeState) (u : WorldState) → AreFew (2 ^ 65 + x * 2 ^ 64) u.marks → IsKeptWorld u → AreWorked tasks all
      → AreNumbered x tasks → u.nodes ≡ front ++ states_in (map (λ (t : Task). t.node) tasks) → length front ≡ x → x + length tasks < 65536 → IsGathered x front u all
  gathered [] [] x front u few kept worked numbers nodes long room =
      let same : u ≡ record { tree = u.tree; nodes = front ++ []; marks = u.marks } = ap (λ (ns : List NodeState). record { tree = u.tree; nodes = ns; marks = u.marks }) nodes in
      record {
        can = tt;
        kept = subst IsKeptWorld same kept;
        after = same;
        replies = refl;
        within = tt;
        nodes = tt;
        some = tt;
        known = tt;
        jobs = λ p has lt.
            let last = has.0.1 in
            let many = kept.many in
            let count : length u.nodes ≡ length front = ap (λ (ns : List NodeState). length ns) (nodes ∙ append-nil front) in
            absurd (omega (arith, last, many, count, long, lt));
      }
  gathered [] (worked ∷ rest) x front u few kept all numbers nodes long room = absurd all
  gathered (task ∷ tasks) [] x front u few kept all numbers nodes long room = absurd all
  gathered (task ∷ tasks) (worked ∷ rest) x front u few kept all numbers nodes long room =
      let number : worked.number.0 ≡ x + 1 = ap (λ (k : NodeNo). k.0) all.0.number ∙ numbers.0 in
      let v : WorldState = after_own worked.number worked.steps task.node.state u in
      let later = gathered tasks rest (x + 1) (front ++ worked.node.state ∷ []) v
      (few_next task worked tasks rest x front u few kept all.0 number nodes long room)
      (kept_next task worked tasks rest x front u few kept all.0 number nodes long room)
      all.1 numbers.1
      (nodes_next task worked tasks rest x front u few kept all.0 number nodes long room)
      (long_next task worked tasks rest x front u few kept all.0 number nodes long room)
      (omega (arith, room))
      in
      one_gathered task worked tasks rest x front u few kept all.0 number nodes long room later

  -- all nodes of a network
  pub all_gathered : (u : WorldState) (tasks : List Task) (all : List Worked) → IsKeptWorld u → AreFew (2 ^ 65) u.marks → states_in (map (λ (t : Task). t.node) tasks) ≡ u.nodes → AreNumbered 0 tasks
      → length u.nodes < 65536 → AreWorked tasks all → IsGathered 0 [] u all
  all_gathered u tasks all kept few nodes numbers room worked =
      let none : 2 ^ 65 ≡ 2 ^ 65 + 0 * 2 ^ 64 = omega arith in
      let count : length tasks ≡ length u.nodes = sym (length-map tasks (λ (t : Task). t.node))
      ∙ (sym (length-map (map (λ (t : Task). t.node) tasks) (λ (n : NodeHolding). n.state)) ∙ ap (λ (ns : List NodeState). length ns) nodes) in
      gathered tasks all 0 [] u (subst (λ (b : ℕ). AreFew b u.marks) none few) kept worked numbers (sym nodes) refl (omega (arith, room, count))

  pub steps_are : (u w : WorldState) (all : List Worked) (made : List NodeSteps) → IsGathered 0 [] u all → made ≡ steps_made all
      → w ≡ record { tree = u.tree; nodes = states_in (nodes_of all); marks = marks_made all u.marks } → AreSteps u w made
  steps_are u w all made h is reached =
      subst (λ (ns : List NodeSteps). AreSteps u w ns) (sym is)
      (record {
        nodes = h.nodes;
        some = h.some;
        known = h.known;
        jobs = λ p has. h.jobs p has (let first = has.0.0 in omega (arith, first));
        replies = h.replies;
        after = reached ∙ sym h.after;
      })
