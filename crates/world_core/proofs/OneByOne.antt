-- The legal steps of a tick are those that are made one by one, and there are such.
use Rattle.std.proofs.Common.{◌≡◌, ◌≢◌, ◌⊎◌, inl, inr, ℕ, zero, suc, ◌+◌, ◌-◌, ◌<◌, ◌≤◌, Bool, List, [], ◌∷◌, ◌++◌, length, map, refl, sym, ap, subst, ◌∙◌, arith}
use Rattle.std.specs.Prelude.{slice_get, slice_set, Option, Some, option_map, ◌==◌, if◌then◌else◌, filter}
use Rattle.std.specs.{Option.option_map_or, List.AllByRecursion, List.range_with_len}
use Rattle.std.proofs.lemmas.{List.append-nil, List.FromFn.length-map-range_with_len, List.FromFn.get_or-map-range_with_len, Option.slice_get_within, Option.slice_get-get_or}
use Rattle.srp_base.proofs.{Arithmetic.is_same, Lists.each_more, Arithmetic.is_other, Lists.length_set, Arithmetic.decide, Lists.get_set, Lists.get-set_same as get_set_same, Lists.get_set_other, Lists.each_of, Lists.at_each, Lists.within, Options.one_some}
use Rattle.srp_base.specs.declared.{numbers.NodeNo.NodeNo, numbers.PortNo.PortNo, numbers.EgressPort.EgressPort}
use Rattle.tree_topology.specs.{Topology.Topology, Topology.HasPort, Ports.neighbours}
use Rattle.tree_topology.proofs.EgressPorts.{same_numbers}
use Rattle.attribute_propagation.specs.Ports.{IsLinkPort, place_of}
use Rattle.node_core.specs.declared.types.NodeEvent.TheVariants as node_events
use Rattle.node_core.specs.declared.{types.NodeStep.NodeStep, types.PortStep.PortStep}
use Rattle.node_core.specs.{State.NodeState, State.ports_of, State.job_list, Step.node_step}
use Rattle.world_core.specs.{WorldEvent, Port, WorldReply, Step, NodeSteps, WorldState, node_at, after_step, world_step, world_after, replies_to, step_events, step_replies, steps_at_port, steps_of, jobs_of, AscendByNode, IsDuring, IsAllowed, events_of, replies_of, HavePorts, node_jobs, MakeLeft, steps_before, MakeAll}
use Rattle.world_core.specs.declared.events.WorldReply.TheVariants.{Missed}
use Rattle.world_core.proofs.{Nodes.node_same, Nodes.node_other, Nodes.stepped_is, OwnSteps.replies_append, Runs.after_append}

-- two lists in two parts each, of which the first are as long as one another
same_parts : {X : Type 0} (a b c d : List X) → length a ≡ length b → a ++ c ≡ b ++ d → (a ≡ b) × (c ≡ d)
same_parts [] [] c d long e = (refl, e)
same_parts [] (y ∷ b) c d long e = absurd (omega (arith, long))
same_parts (x ∷ a) [] c d long e = absurd (omega (arith, long))
same_parts (x ∷ a) (y ∷ b) c d long e =
    let first : x ≡ y = cc in
    let rest : a ++ c ≡ b ++ d = cc in
    let later = same_parts a b c d (omega (arith, long)) rest in
    (let same = later.0 in cc, later.1)

-- ---- the steps of one port

first_here : (port : PortNo) (st : NodeStep) (made : List NodeStep) → st.port.0 ≡ port.0 → steps_at_port port (st ∷ made) ≡ st.step ∷ steps_at_port port made
first_here port st made e =
    ap (λ (b : Bool). map (λ (s : NodeStep). s.step) (if b then st ∷ filter (λ s. s.port.0 == port.0) made else filter (λ s. s.port.0 == port.0) made)) (is_same st.port.0 port.0 e)

first_elsewhere : (port : PortNo) (st : NodeStep) (made : List NodeStep) → st.port.0 ≢ port.0 → steps_at_port port (st ∷ made) ≡ steps_at_port port made
first_elsewhere port st made ne =
    ap (λ (b : Bool). map (λ (s : NodeStep). s.step) (if b then st ∷ filter (λ s. s.port.0 == port.0) made else filter (λ s. s.port.0 == port.0) made)) (is_other st.port.0 port.0 ne)

-- a node's steps have made what its ports have left, each port its own in order, with the network's answers
pub record IsAllOfLeft (n : NodeNo) (left : List (List PortStep)) (w : WorldState) (made : List NodeStep) : Type 0 where
  pub ports : AllByRecursion (λ st. IsLinkPort st.port (length left)) made
  pub jobs : (at : ℕ) (jobs : List PortStep) → slice_get left at ≡ Some jobs → steps_at_port (record { 0 = at + 1 }) made ≡ jobs
  pub replies : replies_of made ≡ replies_to (events_of n made) w

pub left_by_ports : (n : NodeNo) (left : List (List PortStep)) (w : WorldState) (made : List NodeStep) → IsAllOfLeft n left w made → MakeLeft n left w made
left_by_ports n left w [] h = each_of (λ jobs. jobs ≡ []) left (λ i jobs get. sym (h.jobs i jobs get))
left_by_ports n left w (st ∷ made) h =
    let at : ℕ = st.port.0 - 1 in
    let some = h.ports.0.some in
    let few = h.ports.0.within in
    let number : at + 1 ≡ st.port.0 = omega (arith, some) in
    let there = within left at (omega (arith, some, few)) in
    let rest : List PortStep = steps_at_port (record { 0 = at + 1 }) made in
    let own : st.step ∷ rest ≡ there.0 = sym (first_here (record { 0 = at + 1 }) st made (sym number)) ∙ h.jobs at there.0 there.1 in
    let event : WorldEvent = Port n st.port st.step in
    let all : Step st.reply ∷ replies_of made ≡ (world_step event w).1 ∷ replies_to (events_of n made) (world_step event w).0 = h.replies in
    let reply : (world_step event w).1 ≡ Step st.reply = cc in
    let replies : replies_of made ≡ replies_to (events_of n made) (world_step event w).0 = cc in
    let after : List (List PortStep) = slice_set left at rest in
    let jobs : (k : ℕ) (js : List PortStep) → slice_get after k ≡ Some js → steps_at_port (record { 0 = k + 1 }) made ≡ js =
    λ k js get. next k js get (decide at k)
    in
    let ports = subst (λ (m : ℕ). AllByRecursion (λ (s : NodeStep). IsLinkPort s.port m) made) (sym (length_set left at rest)) h.ports.1 in (
      rest,
      record { port = some; job = there.1 ∙ ap Some (sym own); reply = reply },
      left_by_ports n after (world_step event w).0 made (record { ports = ports; jobs = jobs; replies = replies }),
    )
  where
    next : (k : ℕ) (js : List PortStep) → slice_get (slice_set left (st.port.0 - 1) (steps_at_port (record { 0 = st.port.0 - 1 + 1 }) made)) k ≡ Some js
        → (st.port.0 - 1 ≡ k) ⊎ (st.port.0 - 1 ≢ k) → steps_at_port (record { 0 = k + 1 }) made ≡ js
    next k js get (inl e) =
        let rest : List PortStep = steps_at_port (record { 0 = st.port.0 - 1 + 1 }) made in
        ap (λ (i : ℕ). steps_at_port (record { 0 = i + 1 }) made) (sym e)
        ∙ get_set_same left (st.port.0 - 1) rest js (ap (λ (i : ℕ). slice_get (slice_set left (st.port.0 - 1) rest) i) e ∙ get)
    next k js get (inr ne) =
        let rest : List PortStep = steps_at_port (record { 0 = st.port.0 - 1 + 1 }) made in
        let some = h.ports.0.some in
        sym (first_elsewhere (record { 0 = k + 1 }) st made (λ e. ne (omega (arith, some, e))))
        ∙ h.jobs k js (sym (get_set_other left (st.port.0 - 1) k rest ne) ∙ get)

pub left_of_ports : (n : NodeNo) (left : List (List PortStep)) (w : WorldState) (made : List NodeStep) → MakeLeft n left w made → IsAllOfLeft n left w made
left_of_ports n left w [] h = record { ports = tt; jobs = λ at jobs get. sym (at_each (λ jobs. jobs ≡ []) left h at jobs get); replies = refl }
left_of_ports n left w (st ∷ made) h =
    let at : ℕ = st.port.0 - 1 in
    let rest : List PortStep = h.0 in
    let some = h.1.port in
    let inside = slice_get_within left at (st.step ∷ rest) h.1.job in
    let event : WorldEvent = Port n st.port st.step in
    let later = left_of_ports n (slice_set left at rest) (world_step event w).0 made h.2 in
    let reply = h.1.reply in
    let replies = later.replies in
    record {
      ports = (
        record { some = some; within = omega (arith, some, inside) },
        subst (λ (m : ℕ). AllByRecursion (λ (s : NodeStep). IsLinkPort s.port m) made) (length_set left at rest) later.ports,
      );
      jobs = λ k jobs get. here k jobs get later (decide at k);
      replies = let same : Step st.reply ≡ (world_step event w).1 = sym reply in cc;
    }
  where
    here : (k : ℕ) (jobs : List PortStep) → slice_get left k ≡ Some jobs
        → IsAllOfLeft n (slice_set left (st.port.0 - 1) h.0) (world_step (Port n st.port st.step) w).0 made
        → (st.port.0 - 1 ≡ k) ⊎ (st.port.0 - 1 ≢ k) → steps_at_port (record { 0 = k + 1 }) (st ∷ made) ≡ jobs
    here k jobs get later (inl e) =
        let some = h.1.port in
        let own = later.jobs (st.port.0 - 1) h.0 (get_set left (st.port.0 - 1) (st.step ∷ h.0) h.0 h.1.job) in
        let same : st.step ∷ h.0 ≡ jobs = one_some (slice_get left (st.port.0 - 1)) (st.step ∷ h.0) jobs h.1.job (ap (λ (i : ℕ). slice_get left i) e ∙ get) in
        first_here (record { 0 = k + 1 }) st made (omega (arith, some, e))
        ∙ (ap (λ (i : ℕ). st.step ∷ steps_at_port (record { 0 = i + 1 }) made) (sym e) ∙ (ap (λ xs. st.step ∷ xs) own ∙ same))
    here k jobs get later (inr ne) =
        let some = h.1.port in
        first_elsewhere (record { 0 = k + 1 }) st made (λ e. ne (omega (arith, some, e)))
        ∙ later.jobs k jobs (get_set_other left (st.port.0 - 1) k h.0 ne ∙ get)

-- ---- the ports of a node

module _ (tree : Topology) (t : ℕ) where
  -- the node of a number, with as many ports as its place in the tree
  node_there : (x : ℕ) (w : WorldState) → IsDuring tree t w → 1 ≤ x → x ≤ length tree.kinds
      → (s : NodeState) × ((node_at (record { 0 = x }) w ≡ Some s) × (ports_of s ≡ length (neighbours tree.links x)))
  node_there x w run first last =
      let many = run.kept.many in
      let kinds = ap (λ (r : Topology). length r.kinds) run.tree_is in
      let there = within w.nodes (x - 1) (omega (arith, first, last, many, kinds)) in
      let number : x - 1 + 1 ≡ x = omega (arith, first) in (
        there.0,
        (
          there.1,
          (run.kept.nodes (x - 1) there.0 there.1).ports
              ∙ (ap (λ (r : Topology). length (neighbours r.links (x - 1 + 1))) run.tree_is ∙ ap (λ (k : ℕ). length (neighbours tree.links k)) number),
        ),
      )

  jobs_are : (x : ℕ) (w : WorldState) (s : NodeState) → node_at (record { 0 = x }) w ≡ Some s → node_jobs (record { 0 = x }) w ≡ map (λ at. job_list at s) (range_with_len 0 (ports_of s))
  jobs_are x w s is = ap (λ o. option_map_or (λ (r : NodeState). map (λ at. job_list at r) (range_with_len 0 (ports_of r))) o []) is

  pub count_jobs : (x : ℕ) (w : WorldState) → IsDuring tree t w → 1 ≤ x → x ≤ length tree.kinds → length (node_jobs (record { 0 = x }) w) ≡ length (neighbours tree.links x)
  count_jobs x w run first last =
      let there = node_there x w run first last in
      let s : NodeState = there.0 in
      ap (λ (xs : List (List PortStep)). length xs) (jobs_are x w s there.1.0) ∙ (length-map-range_with_len (λ at. job_list at s) 0 (ports_of s) ∙ there.1.1)

  -- the jobs at a place are those of its port
  jobs_at : (x at : ℕ) (w : WorldState) → IsDuring tree t w → 1 ≤ x → x ≤ length tree.kinds → at < length (neighbours tree.links x)
      → slice_get (node_jobs (record { 0 = x }) w) at ≡ Some (jobs_of (record { node = record { 0 = x }; port = record { 0 = at + 1 } }) w)
  jobs_at x at w run first last lt =
      let there = node_there x w run first last in
      let s : NodeState = there.0 in
      let f : ℕ → List PortStep = λ k. job_list k s in
      let count = there.1.1 in
      let below : at < ports_of s = omega (arith, lt, count) in
      let long = length-map-range_with_len f 0 (ports_of s) in
      let number : at + 1 - 1 ≡ at = omega arith in
      let own : jobs_of (record { node = record { 0 = x }; port = record { 0 = at + 1 } }) w ≡ f at =
      ap (λ o. option_map_or (λ (r : NodeState). job_list (at + 1 - 1) r) o []) there.1.0 ∙ ap f number
      in
      ap (λ (xs : List (List PortStep)). slice_get xs at) (jobs_are x w s there.1.0)
      ∙ (slice_get-get_or (map f (range_with_len 0 (ports_of s))) at [] (omega (arith, below, long))
      ∙ ap Some (get_or-map-range_with_len f 0 (ports_of s) at at [] below (omega arith) ∙ sym own))

  -- the tree has the ports of a list of jobs
  has_port : (x : ℕ) (w : WorldState) (port : PortNo) → IsDuring tree t w → 1 ≤ x → x ≤ length tree.kinds → IsLinkPort port (length (node_jobs (record { 0 = x }) w))
      → HasPort tree (record { node = record { 0 = x }; port = port })
  has_port x w port run first last is =
      let count = count_jobs x w run first last in
      let few = is.within in
      ((first, last), is.some, omega (arith, count, few))

  have_ports : (x : ℕ) (w : WorldState) (made : List NodeStep) → IsDuring tree t w → 1 ≤ x → x ≤ length tree.kinds
      → AllByRecursion (λ st. IsLinkPort st.port (length (node_jobs (record { 0 = x }) w))) made → HavePorts tree (record { 0 = x }) made
  have_ports x w made run first last = each_more (λ (st : NodeStep). IsLinkPort st.port (length (node_jobs (record { 0 = x }) w))) _ made (λ st is. has_port x w st.port run first last is)

  link_ports : (x : ℕ) (w : WorldState) (made : List NodeStep) → IsDuring tree t w → 1 ≤ x → x ≤ length tree.kinds
      → HavePorts tree (record { 0 = x }) made → AllByRecursion (λ st. IsLinkPort st.port (length (node_jobs (record { 0 = x }) w))) made
  link_ports x w made run first last =
      let count = count_jobs x w run first last in
      each_more (λ (st : NodeStep). HasPort tree (record { node = record { 0 = x }; port = st.port })) _ made
      (λ st has. let few = has.2 in record { some = has.1; within = omega (arith, count, few) })

-- ---- one node after the other

ports_allowed : (tree : Topology) (n : NodeNo) (made : List NodeStep) → HavePorts tree n made → AllByRecursion (IsAllowed tree) (events_of n made)
ports_allowed tree n [] h = tt
ports_allowed tree n (st ∷ made) h = (h.0, ports_allowed tree n made h.1)

other_node : (n m : NodeNo) (made : List NodeStep) (w : WorldState) → n.0 - 1 ≢ m.0 - 1 → node_at m (world_after (events_of n made) w) ≡ node_at m w
other_node n m [] w apart = refl
other_node n m (st ∷ made) w apart =
    let event = node_events.Port st.port st.step in
    other_node n m made (world_step (Port n st.port st.step) w).0 apart
    ∙ (ap (node_at m) (sym (stepped_is n event w)) ∙ node_other n (λ (x : NodeState). (node_step event x).0) w m apart)

-- what is left of the jobs of a node's ports that are there: nothing
no_steps : (p : EgressPort) (steps : List NodeSteps) → AllByRecursion (λ ns. p.node.0 < ns.node.0) steps → steps_of p steps ≡ []
no_steps p [] h = refl
no_steps p (ns ∷ steps) h =
    let lt = h.0 in
    ap (λ (b : Bool). (if b then steps_at_port p.port ns.steps else []) ++ steps_of p steps) (is_other ns.node.0 p.node.0 (λ e. omega (arith, e, lt)))
    ∙ no_steps p steps h.1

own_steps : (p : EgressPort) (ns : NodeSteps) (steps : List NodeSteps) → ns.node.0 ≡ p.node.0 → AllByRecursion (λ later. p.node.0 < later.node.0) steps
    → steps_of p (ns ∷ steps) ≡ steps_at_port p.port ns.steps
own_steps p ns steps e h =
    ap (λ (b : Bool). (if b then steps_at_port p.port ns.steps else []) ++ steps_of p steps) (is_same ns.node.0 p.node.0 e)
    ∙ (ap (λ (xs : List PortStep). steps_at_port p.port ns.steps ++ xs) (no_steps p steps h) ∙ append-nil (steps_at_port p.port ns.steps))

later_steps : (p : EgressPort) (ns : NodeSteps) (steps : List NodeSteps) → ns.node.0 ≢ p.node.0 → steps_of p (ns ∷ steps) ≡ steps_of p steps
later_steps p ns steps ne =
    ap (λ (b : Bool). (if b then steps_at_port p.port ns.steps else []) ++ steps_of p steps) (is_other ns.node.0 p.node.0 ne)

long_replies : (n : NodeNo) (made : List NodeStep) (w : WorldState) → length (replies_of made) ≡ length (replies_to (events_of n made) w)
long_replies n [] w = refl
long_replies n (st ∷ made) w = ap suc (long_replies n made (world_step (Port n st.port st.step) w).0)

-- the steps of so many nodes from number x on are legal
pub record AreLegalFrom (tree : Topology) (x count : ℕ) (w : WorldState) (steps : List NodeSteps) : Type 0 where
  pub nodes : AscendByNode steps
  pub from : AllByRecursion (λ ns. x ≤ ns.node.0) steps
  pub below : AllByRecursion (λ ns. ns.node.0 < x + count) steps
  pub some : AllByRecursion (λ ns. ns.steps ≢ []) steps
  pub known : AllByRecursion (λ ns. HavePorts tree ns.node ns.steps) steps
  pub jobs : (p : EgressPort) → HasPort tree p → x ≤ p.node.0 → steps_of p steps ≡ jobs_of p w
  pub replies : step_replies steps ≡ replies_to (step_events steps) w

module _ (tree : Topology) (t : ℕ) (stays : (es : List WorldEvent) (w : WorldState) → AllByRecursion (IsAllowed tree) es → IsDuring tree t w → IsDuring tree t (world_after es w)) where
  -- ---- legal steps, one by one

  -- a node without steps has no jobs
  none_left : (x count : ℕ) (w : WorldState) (steps : List NodeSteps) → IsDuring tree t w → 1 ≤ x → x ≤ length tree.kinds → AreLegalFrom tree x count w steps
      → AllByRecursion (λ ns. x < ns.node.0) steps → MakeLeft (record { 0 = x }) (node_jobs (record { 0 = x }) w) w []
  none_left x count w steps run first last legal later =
      each_of (λ jobs. jobs ≡ []) (node_jobs (record { 0 = x }) w) (λ at jobs get.
      let inside = slice_get_within (node_jobs (record { 0 = x }) w) at jobs get in
      let counts = count_jobs tree t x w run first last in
      let lt : at < length (neighbours tree.links x) = omega (arith, inside, counts) in
      let p : EgressPort = record { node = record { 0 = x }; port = record { 0 = at + 1 } } in
      let own : jobs ≡ jobs_of p w = one_some (slice_get (node_jobs (record { 0 = x }) w) at) jobs (jobs_of p w) get (jobs_at tree t x at w run first last lt) in
      own ∙ (sym (legal.jobs p ((first, last), omega arith, omega (arith, lt)) (omega arith)) ∙ no_steps p steps later))

  skipped : (x count : ℕ) (w : WorldState) (steps : List NodeSteps) → AreLegalFrom tree x (suc count) w steps → AllByRecursion (λ ns. x < ns.node.0) steps → AreLegalFrom tree (suc x) count w steps
  skipped x count w steps legal later =
      record {
        nodes = legal.nodes;
        from = each_more (λ ns. x < ns.node.0) (λ ns. suc x ≤ ns.node.0) steps (λ ns lt. omega (arith, lt)) later;
        below = each_more (λ ns. ns.node.0 < x + suc count) (λ ns. ns.node.0 < suc x + count) steps (λ ns lt. omega (arith, lt)) legal.below;
        some = legal.some;
        known = legal.known;
        jobs = λ p has le. legal.jobs p has (omega (arith, le));
        replies = legal.replies;
      }

  -- the first node makes all that its ports have left
  made_left : (x count : ℕ) (w : WorldState) (ns : NodeSteps) (steps : List NodeSteps) → IsDuring tree t w → 1 ≤ x → x ≤ length tree.kinds → ns.node.0 ≡ x
      → AreLegalFrom tree x count w (ns ∷ steps) → IsAllOfLeft (record { 0 = x }) (node_jobs (record { 0 = x }) w) w ns.steps
  made_left x count w ns steps run first last number legal =
      let n : NodeNo = record { 0 = x } in
      let same : ns.node ≡ n = ap (λ (k : ℕ). record { 0 = k }) number in
      let events : List WorldEvent = events_of ns.node ns.steps in
      let parts = same_parts (replies_of ns.steps) (replies_to events w) (step_replies steps) (replies_to (step_events steps) (world_after events w))
      (long_replies ns.node ns.steps w) (legal.replies ∙ replies_append events (step_events steps) w)
      in
      record {
        ports = link_ports tree t x w ns.steps run first last (subst (λ (m : NodeNo). HavePorts tree m ns.steps) same legal.known.0);
        jobs = λ at jobs get.
            let inside = slice_get_within (node_jobs n w) at jobs get in
            let counts = count_jobs tree t x w run first last in
            let lt : at < length (neighbours tree.links x) = omega (arith, inside, counts) in
            let p : EgressPort = record { node = n; port = record { 0 = at + 1 } } in
            let own : jobs ≡ jobs_of p w = one_some (slice_get (node_jobs n w) at) jobs (jobs_of p w) get (jobs_at tree t x at w run first last lt) in
            let later = each_more (λ (q : NodeSteps). ns.node.0 < q.node.0) (λ (q : NodeSteps). x < q.node.0) steps (λ q lt. omega (arith, lt, number)) legal.nodes.0 in
            sym (own_steps p ns steps number later) ∙ (legal.jobs p ((first, last), omega arith, omega (arith, lt)) (omega arith) ∙ sym own);
        replies = parts.0 ∙ ap (λ (m : NodeNo). replies_to (events_of m ns.steps) w) same;
      }

  -- and the others go on from there
  goes_on : (x count : ℕ) (w : WorldState) (ns : NodeSteps) (steps : List NodeSteps) → 1 ≤ x → ns.node.0 ≡ x
      → AreLegalFrom tree x (suc count) w (ns ∷ steps) → AreLegalFrom tree (suc x) count (world_after (events_of (record { 0 = x }) ns.steps) w) steps
  goes_on x count w ns steps first number legal =
      let n : NodeNo = record { 0 = x } in
      let same : ns.node ≡ n = ap (λ (k : ℕ). record { 0 = k }) number in
      let events : List WorldEvent = events_of ns.node ns.steps in
      let parts = same_parts (replies_of ns.steps) (replies_to events w) (step_replies steps) (replies_to (step_events steps) (world_after events w))
      (long_replies ns.node ns.steps w) (legal.replies ∙ replies_append events (step_events steps) w)
      in
      record {
        nodes = legal.nodes.1;
        from = each_more (λ (q : NodeSteps). ns.node.0 < q.node.0) (λ (q : NodeSteps). suc x ≤ q.node.0) steps (λ q lt. omega (arith, lt, number)) legal.nodes.0;
        below = each_more (λ (q : NodeSteps). q.node.0 < x + suc count) (λ (q : NodeSteps). q.node.0 < suc x + count) steps (λ q lt. omega (arith, lt)) legal.below.1;
        some = legal.some.1;
        known = legal.known.1;
        jobs = λ p has le.
            sym (later_steps p ns steps (λ e. omega (arith, e, number, le)))
            ∙ (legal.jobs p has (omega (arith, le))
            ∙ sym (ap (λ o. option_map_or (λ (s : NodeState). job_list (place_of p.port) s) o []) (other_node n p.node ns.steps w (λ e. omega (arith, e, le, first)))));
        replies = parts.1 ∙ ap (λ (m : NodeNo). replies_to (step_events steps) (world_after (events_of m ns.steps) w)) same;
      }

  named : (x : ℕ) (ns : NodeSteps) (steps : List NodeSteps) → ns.node.0 ≡ x → ns.steps ≢ [] → ns ∷ steps ≡ steps_before (record { 0 = x }) ns.steps steps
  named x ns steps number some = by ns.node ns.steps number some
    where
      by : (n : NodeNo) (made : List NodeStep) → n.0 ≡ x → made ≢ [] → record { node = n; steps = made } ∷ steps ≡ steps_before (record { 0 = x }) made steps
      by n [] e ne = absurd (ne refl)
      by n (st ∷ made) e ne = ap (λ (k : ℕ). record { node = record { 0 = k }; steps = st ∷ made } ∷ steps) e

  pub one_by_one : (count x : ℕ) (w : WorldState) (steps : List NodeSteps) → IsDuring tree t w → 1 ≤ x → x + count ≡ suc (length tree.kinds)
      → AreLegalFrom tree x count w steps → MakeAll x count w steps
  one_by_one zero x w [] run first all legal = refl
  one_by_one zero x w (ns ∷ steps) run first all legal =
      let from = legal.from.0 in
      let below = legal.below.0 in
      absurd (omega (arith, from, below))
  one_by_one (suc count) x w [] run first all legal =
      let last : x ≤ length tree.kinds = omega (arith, all) in
      ([], ([], refl, none_left x (suc count) w [] run first last legal tt, one_by_one count (suc x) w [] run (omega arith) (omega (arith, all)) (skipped x count w [] legal tt)))
  one_by_one (suc count) x w (ns ∷ steps) run first all legal =
      by (decide ns.node.0 x)
      (λ v rest there here. one_by_one count (suc x) v rest there (omega arith) (omega (arith, all)) here)
    where
      by : (ns.node.0 ≡ x) ⊎ (ns.node.0 ≢ x)
          → ((v : WorldState) (rest : List NodeSteps) → IsDuring tree t v → AreLegalFrom tree (suc x) count v rest → MakeAll (suc x) count v rest)
          → MakeAll x (suc count) w (ns ∷ steps)
      by (inl e) later =
          let n : NodeNo = record { 0 = x } in
          let last : x ≤ length tree.kinds = omega (arith, all) in
          let all_of = made_left x (suc count) w ns steps run first last e legal in
          let has = have_ports tree t x w ns.steps run first last all_of.ports in
          let v : WorldState = world_after (events_of n ns.steps) w in
          let there : IsDuring tree t v = stays (events_of n ns.steps) w (ports_allowed tree n ns.steps has) run in
          (ns.steps, (steps, named x ns steps e legal.some.0, left_by_ports n (node_jobs n w) w ns.steps all_of, later v steps there (goes_on x count w ns steps first e legal)))
      by (inr ne) later =
          let from = legal.from.0 in
          let lt : x < ns.node.0 = omega (arith, from, ne) in
          let after : AllByRecursion (λ (q : NodeSteps). x < q.node.0)
          (ns ∷ steps) = (lt, each_more (λ (q : NodeSteps). ns.node.0 < q.node.0) (λ (q : NodeSteps). x < q.node.0) steps (λ q gt. omega (arith, gt, lt)) legal.nodes.0) in
          let last : x ≤ length tree.kinds = omega (arith, all) in
          ([], (ns ∷ steps, refl, none_left x (suc count) w (ns ∷ steps) run first last legal after, later w (ns ∷ steps) run (skipped x count w (ns ∷ steps) legal after)))

  -- ---- and the other way round

  at_port : (x : ℕ) (w : WorldState) (p : EgressPort) → IsDuring tree t w → 1 ≤ x → x ≤ length tree.kinds → HasPort tree p → p.node.0 ≡ x
      → slice_get (node_jobs (record { 0 = x }) w) (p.port.0 - 1) ≡ Some (jobs_of p w)
  at_port x w p run first last has e =
      let some = has.1 in
      let few = has.2 in
      let here = ap (λ (k : ℕ). length (neighbours tree.links k)) e in
      jobs_at tree t x (p.port.0 - 1) w run first last (omega (arith, some, few, here))
      ∙ ap (λ (q : EgressPort). Some (jobs_of q w)) (same_numbers (record { node = record { 0 = x }; port = record { 0 = p.port.0 - 1 + 1 } }) p (sym e) (omega (arith, some)))

  at_own_port : (x : ℕ) (w : WorldState) (made : List NodeStep) (p : EgressPort) → IsDuring tree t w → 1 ≤ x → x ≤ length tree.kinds
      → IsAllOfLeft (record { 0 = x }) (node_jobs (record { 0 = x }) w) w made → HasPort tree p → p.node.0 ≡ x → steps_at_port p.port made ≡ jobs_of p w
  at_own_port x w made p run first last all_of has e =
      let some = has.1 in
      ap (λ (k : ℕ). steps_at_port (record { 0 = k }) made) (omega (arith, some)) ∙ all_of.jobs (p.port.0 - 1) (jobs_of p w) (at_port x w p run first last has e)

  legal_before : (x count : ℕ) (w : WorldState) (made : List NodeStep) (later : List NodeSteps) → IsDuring tree t w → 1 ≤ x → x ≤ length tree.kinds
      → IsAllOfLeft (record { 0 = x }) (node_jobs (record { 0 = x }) w) w made → HavePorts tree (record { 0 = x }) made
      → AreLegalFrom tree (suc x) count (world_after (events_of (record { 0 = x }) made) w) later
      → AreLegalFrom tree x (suc count) w (steps_before (record { 0 = x }) made later)
  legal_before x count w [] later run first last all_of has legal =
      record {
        nodes = legal.nodes;
        from = each_more (λ ns. suc x ≤ ns.node.0) (λ ns. x ≤ ns.node.0) later (λ ns le. omega (arith, le)) legal.from;
        below = each_more (λ ns. ns.node.0 < suc x + count) (λ ns. ns.node.0 < x + suc count) later (λ ns lt. omega (arith, lt)) legal.below;
        some = legal.some;
        known = legal.known;
        jobs = λ p here le. by p here le (decide p.node.0 x);
        replies = legal.replies;
      }
    where
      by : (p : EgressPort) → HasPort tree p → x ≤ p.node.0 → (p.node.0 ≡ x) ⊎ (p.node.0 ≢ x) → steps_of p later ≡ jobs_of p w
      by p here le (inl e) =
          no_steps p later (each_more (λ (ns : NodeSteps). suc x ≤ ns.node.0) (λ (ns : NodeSteps). p.node.0 < ns.node.0) later (λ ns gt. omega (arith, gt, e)) legal.from)
          ∙ at_own_port x w [] p run first last all_of here e
      by p here le (inr ne) = legal.jobs p here (omega (arith, le, ne))
  legal_before x count w (st ∷ made) later run first last all_of has legal =
      let n : NodeNo = record { 0 = x } in
      let steps : List NodeStep = st ∷ made in
      record {
        nodes = (each_more (λ (ns : NodeSteps). suc x ≤ ns.node.0) (λ (ns : NodeSteps). x < ns.node.0) later (λ ns le. omega (arith, le)) legal.from, legal.nodes);
        from = (omega arith, each_more (λ ns. suc x ≤ ns.node.0) (λ ns. x ≤ ns.node.0) later (λ ns le. omega (arith, le)) legal.from);
        below = (omega arith, each_more (λ ns. ns.node.0 < suc x + count) (λ ns. ns.node.0 < x + suc count) later (λ ns lt. omega (arith, lt)) legal.below);
        some = ((λ (e : steps ≡ []). cc), legal.some);
        known = (has, legal.known);
        jobs = λ p here le. by p here le (decide p.node.0 x);
        replies =
            ap (λ (rs : List WorldReply). rs ++ step_replies later) all_of.replies
            ∙ (ap (λ (rs : List WorldReply). replies_to (events_of n steps) w ++ rs) legal.replies ∙ sym (replies_append (events_of n steps) (step_events later) w));
      }
    where
      by : (p : EgressPort) → HasPort tree p → x ≤ p.node.0 → (p.node.0 ≡ x) ⊎ (p.node.0 ≢ x)
          → steps_of p (record { node = record { 0 = x }; steps = st ∷ made } ∷ later) ≡ jobs_of p w
      by p here le (inl e) =
          own_steps p (record { node = record { 0 = x }; steps = st ∷ made }) later (sym e)
          (each_more (λ (ns : NodeSteps). suc x ≤ ns.node.0) (λ (ns : NodeSteps). p.node.0 < ns.node.0) later (λ ns gt. omega (arith, gt, e)) legal.from)
          ∙ at_own_port x w (st ∷ made) p run first last all_of here e
      by p here le (inr ne) =
          later_steps p (record { node = record { 0 = x }; steps = st ∷ made }) later (λ e. ne (sym e))
          ∙ (legal.jobs p here (omega (arith, le, ne))
          ∙ ap (λ o. option_map_or (λ (s : NodeState). job_list (place_of p.port) s) o []) (other_node (record { 0 = x }) p.node (st ∷ made) w (λ e. ne (omega (arith, e, le, first)))))

  pub of_one_by_one : (count x : ℕ) (w : WorldState) (steps : List NodeSteps) → IsDuring tree t w → 1 ≤ x → x + count ≡ suc (length tree.kinds)
      → MakeAll x count w steps → AreLegalFrom tree x count w steps
  of_one_by_one zero x w steps run first all none =
      subst (AreLegalFrom tree x zero w) (sym none) (record {
        nodes = tt;
        from = tt;
        below = tt;
        some = tt;
        known = tt;
        jobs = λ p has le. let last = has.0.1 in absurd (omega (arith, last, le, all));
        replies = refl;
      })
  of_one_by_one (suc count) x w steps run first all h =
      let n : NodeNo = record { 0 = x } in
      let made : List NodeStep = h.0 in
      let later : List NodeSteps = h.1.0 in
      let last : x ≤ length tree.kinds = omega (arith, all) in
      let all_of = left_of_ports n (node_jobs n w) w made h.1.2 in
      let has = have_ports tree t x w made run first last all_of.ports in
      let v : WorldState = world_after (events_of n made) w in
      let there : IsDuring tree t v = stays (events_of n made) w (ports_allowed tree n made has) run in
      let legal = of_one_by_one count (suc x) v later there (omega arith) (omega (arith, all)) h.1.3 in
      subst (AreLegalFrom tree x (suc count) w) (sym h.1.1) (legal_before x count w made later run first last all_of has legal)

-- ---- there are such steps

-- how many jobs are left
abbrev pub total : List (List PortStep) → ℕ
total [] = 0
total (jobs ∷ left) = length jobs + total left

pub total_less : (left : List (List PortStep)) (at : ℕ) (step : PortStep) (rest : List PortStep) → slice_get left at ≡ Some (step ∷ rest) → suc (total (slice_set left at rest)) ≡ total left
total_less [] at step rest get = cc
total_less (jobs ∷ left) zero step rest get =
    let same : jobs ≡ step ∷ rest = cc in
    let long = ap (λ (js : List PortStep). length js) same in
    omega (arith, long)
total_less (jobs ∷ left) (suc at) step rest get = let later = total_less left at step rest get in omega (arith, later)

-- the first port that has a job left
first_left : (left : List (List PortStep)) → AllByRecursion (λ jobs. jobs ≡ []) left ⊎ ((at : ℕ) × ((step : PortStep) × ((rest : List PortStep) × (slice_get left at ≡ Some (step ∷ rest)))))
first_left [] = inl tt
first_left ((step ∷ rest) ∷ left) = inr (0, (step, (rest, refl)))
first_left ([] ∷ left) = by (first_left left)
  where
    by : AllByRecursion (λ jobs. jobs ≡ []) left ⊎ ((at : ℕ) × ((step : PortStep) × ((rest : List PortStep) × (slice_get left at ≡ Some (step ∷ rest)))))
        → AllByRecursion (λ jobs. jobs ≡ []) ([] ∷ left) ⊎ ((at : ℕ) × ((step : PortStep) × ((rest : List PortStep) × (slice_get ([] ∷ left) at ≡ Some (step ∷ rest)))))
    by (inl none) = inl (refl, none)
    by (inr (at, (step, (rest, get)))) = inr (suc at, (step, (rest, get)))

-- the steps of a node are its own
stepped_own : (n : NodeNo) (port : PortNo) (step : PortStep) (w : WorldState) (s : NodeState) → node_at n w ≡ Some s
    → (r : NodeState) × (node_at n (world_step (Port n port step) w).0 ≡ Some r)
stepped_own n port step w s is =
    let event = node_events.Port port step in
    ((node_step event s).0, ap (node_at n) (sym (stepped_is n event w)) ∙ (node_same n (λ (x : NodeState). (node_step event x).0) w ∙ ap (option_map (λ (x : NodeState). (node_step event x).0)) is))

answered : (n : NodeNo) (port : PortNo) (step : PortStep) (w : WorldState) (s : NodeState) → node_at n w ≡ Some s
    → (world_step (Port n port step) w).1 ≡ Step (node_step (node_events.Port port step) s).1
answered n port step w s is = ap (λ (o : Option NodeState). (option_map_or (λ x. after_step n (node_step (node_events.Port port step) x) w) o (w, Missed)).1) is

-- the first port that has a job left makes it, and what is left then can be made
next_made : (n : NodeNo) (left : List (List PortStep)) (w : WorldState) (s : NodeState) → node_at n w ≡ Some s
    → (at : ℕ) (step : PortStep) (rest : List PortStep) → slice_get left at ≡ Some (step ∷ rest)
    → ((v : WorldState) (r : NodeState) → node_at n v ≡ Some r → (made : List NodeStep) × MakeLeft n (slice_set left at rest) v made)
    → (made : List NodeStep) × MakeLeft n left w made
next_made n left w s is at step rest get on =
    let port : PortNo = record { 0 = at + 1 } in
    let number : at + 1 - 1 ≡ at = omega arith in
    let next = stepped_own n port step w s is in
    let later = on (world_step (Port n port step) w).0 next.0 next.1 in
    let st : NodeStep = record { port = port; step = step; reply = (node_step (node_events.Port port step) s).1 } in (
      st ∷ later.0,
      (
        rest,
        record { port = omega arith; job = ap (λ (k : ℕ). slice_get left k) number ∙ get; reply = answered n port step w s is },
        subst (λ (k : ℕ). MakeLeft n (slice_set left k rest) (world_step (Port n port step) w).0 later.0) (sym number) later.1,
      ),
    )

can_make : (fuel : ℕ) (n : NodeNo) (left : List (List PortStep)) (w : WorldState) (s : NodeState) → node_at n w ≡ Some s → total left ≤ fuel → (made : List NodeStep) × MakeLeft n left w made
can_make zero n left w s is few = by (first_left left)
  where
    by : AllByRecursion (λ jobs. jobs ≡ []) left ⊎ ((at : ℕ) × ((step : PortStep) × ((rest : List PortStep) × (slice_get left at ≡ Some (step ∷ rest)))))
        → (made : List NodeStep) × MakeLeft n left w made
    by (inl none) = ([], none)
    by (inr (at, (step, (rest, get)))) = let less = total_less left at step rest get in absurd (omega (arith, less, few))
can_make (suc fuel) n left w s is few = by (first_left left) (λ after v r here le. can_make fuel n after v r here le)
  where
    by : AllByRecursion (λ jobs. jobs ≡ []) left ⊎ ((at : ℕ) × ((step : PortStep) × ((rest : List PortStep) × (slice_get left at ≡ Some (step ∷ rest)))))
        → ((after : List (List PortStep)) (v : WorldState) (r : NodeState) → node_at n v ≡ Some r → total after ≤ fuel → (made : List NodeStep) × MakeLeft n after v made)
        → (made : List NodeStep) × MakeLeft n left w made
    by (inl none) on = ([], none)
    by (inr (at, (step, (rest, get)))) on =
        let less = total_less left at step rest get in
        next_made n left w s is at step rest get (λ v r here. on (slice_set left at rest) v r here (omega (arith, less, few)))

-- the steps of a node before those of later ones
pub before_after : (n : NodeNo) (made : List NodeStep) (later : List NodeSteps) (w : WorldState)
    → world_after (step_events (steps_before n made later)) w ≡ world_after (step_events later) (world_after (events_of n made) w)
before_after n [] later w = refl
before_after n (st ∷ made) later w = sym (after_append (events_of n (st ∷ made)) (step_events later) w)

module _ (tree : Topology) (t : ℕ) (stays : (es : List WorldEvent) (w : WorldState) → AllByRecursion (IsAllowed tree) es → IsDuring tree t w → IsDuring tree t (world_after es w)) where
  -- a node's steps that make what is left
  pub can_jobs : (x : ℕ) (left : List (List PortStep)) (w : WorldState) → IsDuring tree t w → 1 ≤ x → x ≤ length tree.kinds → length left ≡ length (neighbours tree.links x)
      → (made : List NodeStep) × (MakeLeft (record { 0 = x }) left w made × IsDuring tree t (world_after (events_of (record { 0 = x }) made) w))
  can_jobs x left w run first last long =
      let n : NodeNo = record { 0 = x } in
      let there = node_there tree t x w run first last in
      let one = can_make (total left) n left w there.0 there.1.0 (omega arith) in
      let made : List NodeStep = one.0 in
      let all_of = left_of_ports n left w made one.1 in
      let count = count_jobs tree t x w run first last in
      let ports = subst (λ (m : ℕ). AllByRecursion (λ (s : NodeStep). IsLinkPort s.port m) made) (long ∙ sym count) all_of.ports in
      let has = have_ports tree t x w made run first last ports in
      (made, (one.1, stays (events_of n made) w (ports_allowed tree n made has) run))

  pub can_all : (count x : ℕ) (w : WorldState) → IsDuring tree t w → 1 ≤ x → x + count ≡ suc (length tree.kinds)
      → (steps : List NodeSteps) × (MakeAll x count w steps × IsDuring tree t (world_after (step_events steps) w))
  can_all zero x w run first all = ([], (refl, run))
  can_all (suc count) x w run first all =
      let n : NodeNo = record { 0 = x } in
      let last : x ≤ length tree.kinds = omega (arith, all) in
      let one = can_jobs x (node_jobs n w) w run first last (count_jobs tree t x w run first last) in
      let made : List NodeStep = one.0 in
      let later = can_all count (suc x) (world_after (events_of n made) w) one.1.1 (omega arith) (omega (arith, all)) in
      (steps_before n made later.0, ((made, (later.0, refl, one.1.0, later.1.0)), subst (IsDuring tree t) (sym (before_after n made later.0 w)) later.1.1))
