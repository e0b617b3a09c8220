-- The replay goes on: a step more, a node more, the answers of a tick's events.
use Rattle.std.proofs.Common.{◌≡◌, ℕ, suc, ◌<◌, Bool, true, false, List, [], ◌∷◌, ◌++◌, length, map, refl, sym, ap, subst, ◌∙◌, append_assoc, arith}
use Rattle.std.specs.Prelude.{slice_set, Option, Some, ◌||◌, if◌then◌else◌, nat_lt}
use Rattle.std.specs.{Option.option_map_or, List.AllByRecursion, List.range_with_len}
use Rattle.std.proofs.lemmas.{Bool.Decides.nat_tests, List.append-nil}
use Rattle.std.proofs.lemmas.Grind.{flat_map-append as flat_append}
use Rattle.srp_base.proofs.Lists.{length_set}
use Rattle.srp_base.specs.declared.{numbers.NodeNo.NodeNo, mrp.App.TheVariants.Mvrp, mrp.App.TheVariants.Msrp}
use Rattle.tree_topology.specs.{Topology.HasNode, Ports.neighbours}
use Rattle.attribute_propagation.specs.Ports.{place_of}
use Rattle.topology_file.specs.Plan.{Plan}
use Rattle.node_core.specs.declared.{types.NodeStep.NodeStep, types.PortStep.PortStep}
use Rattle.node_core.specs.declared.types.PortStep.TheVariants.{Due, Settle, Send}
use Rattle.node_core.specs.State.{NodeState, ports_of, box_at, works, job_list, is_busy_node, is_sending_time}
use Rattle.world_core.specs.declared.{events.WorldEvent.WorldEvent, events.WorldEvent.TheVariants.Port, events.WorldReply.WorldReply, journal.NodeSteps.NodeSteps, journal.Tick.Tick}
use Rattle.world_core.specs.{World.WorldState, World.node_at, World.world_step, World.world_after, World.replies_to, Apart.events_of, Ticks.script_at, Ticks.after_script, Ticks.step_events, Ticks.closing_events, Ticks.with_steps, During.IsDuring, OneByOne.node_jobs, OneByOne.MakeLeft, OneByOne.steps_before, OneByOne.MakeAll, OneByOne.IsOneByOne}
use Rattle.journal_lines.specs.Lines.{line_at}
use Rattle.world_core.proofs.Timelines.{after_both}
use Rattle.journal_audit.specs.{LeftState, jobs_left, is_any_left, IsStuck, AreTaken, HasRead, answer_line, answer_lines, made_lines, steps_lines, tick_lines, FollowTicks, FollowNodes, FollowJobs, FollowAnswers, nodes_from, ReplayLaws, IsOtherAnswer, IsStepRead, IsPartRead, IsNodeRead, AreNodesRead, IsTickRead}
use Rattle.journal_audit.specs.Reading.{Reading}
use Rattle.journal_audit.proofs.{ReadingLemmas.Lines, ReadingLemmas.read_none, ReadingLemmas.read_same, ReadingLemmas.same_read, ReadingLemmas.read_then, ReadingLemmas.read_one, ReadingLemmas.stuck_then, ReadingLemmas.stuck_as, ReadingLemmas.same_behind, FollowLemmas.node, FollowLemmas.answers_out, FollowLemmas.answers_in, FollowLemmas.answers_stuck, FollowLemmas.one_less, FollowLemmas.none_behind, FollowLemmas.jobs_out, FollowLemmas.jobs_in, FollowLemmas.nodes_none_out, FollowLemmas.nodes_none_in, FollowLemmas.left_none_out, FollowLemmas.left_none_in, FollowLemmas.has_port, FollowLemmas.step_onto, FollowLemmas.step_back}

-- ---- lists

map_append : {A B : Type 0} (f : A → B) (xs ys : List A) → map f (xs ++ ys) ≡ map f xs ++ map f ys
map_append f [] ys = refl
map_append f (x ∷ xs) ys = ap (λ zs. f x ∷ zs) (map_append f xs ys)

-- ---- whether a job is left

pub any_none : (ports : List LeftState) → is_any_left ports ≡ false → AllByRecursion (λ jobs. jobs ≡ []) (jobs_left ports)
any_none [] h = tt
any_none (p ∷ ports) h = let both = or_false (nat_lt 0 (length p.jobs)) (is_any_left ports) h in (empty p.jobs both.0, any_none ports both.1)
  where
    or_false : (a b : Bool) → (a || b) ≡ false → (a ≡ false) × (b ≡ false)
    or_false true b h = cc
    or_false false b h = (refl, h)

    empty : (jobs : List PortStep) → nat_lt 0 (length jobs) ≡ false → jobs ≡ []
    empty [] h = refl
    empty (job ∷ jobs) h = absurd (grind (arith, nat_tests, h))

pub any_some : (ports : List LeftState) → is_any_left ports ≡ true → AllByRecursion (λ jobs. jobs ≡ []) (jobs_left ports) → ⊥
any_some [] h all = cc
any_some (p ∷ ports) h all = by (nat_lt 0 (length p.jobs)) refl h (any_some ports)
  where
    by : (b : Bool) → nat_lt 0 (length p.jobs) ≡ b → (b || is_any_left ports) ≡ true → (is_any_left ports ≡ true → AllByRecursion (λ jobs. jobs ≡ []) (jobs_left ports) → ⊥) → ⊥
    by true e h later =
        let none : length p.jobs ≡ 0 = ap (λ (js : List PortStep). length js) all.0 in
        grind (arith, nat_tests, none, e)
    by false e h later = later h all.1

-- a node that isn't busy has no job at a moment at which nothing is sent
pub idle : (n : NodeNo) (w : WorldState) (s : NodeState) → node_at n w ≡ Some s → (is_busy_node s || is_sending_time s.clock) ≡ false → AllByRecursion (λ jobs. jobs ≡ []) (node_jobs n w)
idle n w s is rests =
    subst (λ (o : Option NodeState). AllByRecursion (λ (jobs : List PortStep). jobs ≡ []) (option_map_or (λ (r : NodeState). map (λ at. job_list at r) (range_with_len 0 (ports_of r))) o [])) (sym is)
    (each (range_with_len 0 (ports_of s)))
  where
    none : (busy sending : Bool) (a b : List PortStep) → (busy || sending) ≡ false → (if busy then a else []) ++ (if sending then b else []) ≡ []
    none true sending a b h = cc
    none false true a b h = cc
    none false false a b h = refl

    each : (places : List ℕ) → AllByRecursion (λ jobs. jobs ≡ []) (map (λ at. job_list at s) places)
    each [] = tt
    each (at ∷ places) =
        (none (is_busy_node s) (is_sending_time s.clock) (works (box_at at s.inboxes) ++ (Due ∷ Settle ∷ [])) (Send Mvrp ∷ Send Msrp ∷ []) rests, each places)

module _ (plan : Plan) (laws : ReplayLaws plan) where
  -- ---- the steps of a node

  pub step_stays : (t x : ℕ) (left left2 : List (List PortStep)) (w w2 : WorldState) (st : NodeStep) (from to : Reading) → IsDuring plan.tree t w → HasNode plan.tree x
      → length left ≡ length (neighbours plan.tree.links x) → IsStepRead plan t x left left2 w w2 st from to → IsDuring plan.tree t w2
  step_stays t x left left2 w w2 st from to run known long step =
      subst (IsDuring plan.tree t) (sym step.reached) (laws.stay t (Port (node x) st.port st.step ∷ []) w (has_port plan laws x left w st step.rest known long step.next, tt) run)

  pub step_read : (t x : ℕ) (left left2 : List (List PortStep)) (w w2 : WorldState) (st : NodeStep) (from to : Reading) → HasNode plan.tree x → length left ≡ length (neighbours plan.tree.links x)
      → IsStepRead plan t x left left2 w w2 st from to → HasRead (FollowJobs plan t x left w) from (line_at plan t (node x) st ∷ []) (FollowJobs plan t x left2 w2) to
  step_read t x left left2 w w2 st from to known long step =
      let rest = step.rest in
      let onto : (lines : Lines) → FollowJobs plan t x left2 w2 lines → FollowJobs plan t x (slice_set left (place_of st.port) rest) (world_step (Port (node x) st.port st.step) w).0 lines =
      λ lines h. subst (λ (v : WorldState). FollowJobs plan t x (slice_set left (place_of st.port) rest) v lines) step.reached
      (subst (λ (l : List (List PortStep)). FollowJobs plan t x l w2 lines) step.left_is h)
      in
      let back : (lines : Lines) → FollowJobs plan t x (slice_set left (place_of st.port) rest) (world_step (Port (node x) st.port st.step) w).0 lines → FollowJobs plan t x left2 w2 lines =
      λ lines h. subst (λ (l : List (List PortStep)). FollowJobs plan t x l w2 lines) (sym step.left_is)
      (subst (λ (v : WorldState). FollowJobs plan t x (slice_set left (place_of st.port) rest) v lines) (sym step.reached) h)
      in
      read_one (FollowJobs plan t x left w) (FollowJobs plan t x left2 w2) from to (line_at plan t (node x) st) step.taken
      (λ lines h. step_onto plan laws t x left w known long st rest lines step.next (onto lines h))
      (λ lines h. back lines (step_back plan laws t x left w known long st rest lines step.next h))

  pub part_more : (t x : ℕ) (left left1 left2 : List (List PortStep)) (w w1 w2 : WorldState) (from via to : Reading) (made : List NodeStep) (st : NodeStep) → HasNode plan.tree x
      → IsPartRead plan t x left w from made left1 w1 via → IsStepRead plan t x left1 left2 w1 w2 st via to → IsPartRead plan t x left w from (made ++ st ∷ []) left2 w2 to
  part_more t x left left1 left2 w w1 w2 from via to made st known part step =
      record {
        goes_on = on;
        reached = step.reached
            ∙ (ap (λ (v : WorldState). (world_step (Port (node x) st.port st.step) v).0) part.reached
            ∙ (sym (after_both (events_of (node x) made) (events_of (node x) (st ∷ [])) w)
            ∙ ap (λ (es : List WorldEvent). world_after es w) (sym (map_append (λ (s : NodeStep). Port (node x) s.port s.step) made (st ∷ [])))));
        during = step_stays t x left1 left2 w1 w2 st via to part.during known part.long step;
        long = ap (λ (l : List (List PortStep)). length l) step.left_is ∙ (length_set left1 (place_of st.port) step.rest ∙ part.long);
        read = subst (λ (front : Lines). HasRead (FollowJobs plan t x left w) from front (FollowJobs plan t x left2 w2) to) (sym (map_append (line_at plan t (node x)) made (st ∷ [])))
            (read_then (FollowJobs plan t x left w) (FollowJobs plan t x left1 w1) (FollowJobs plan t x left2 w2) from via to (made_lines plan t (node x) made) (line_at plan t (node x) st ∷ [])
            part.read
            (step_read t x left1 left2 w1 w2 st via to known part.long step));
      }
    where
      on : (later : List NodeStep) → MakeLeft (node x) left2 w2 later → MakeLeft (node x) left w ((made ++ st ∷ []) ++ later)
      on later h =
          let here : MakeLeft (node x) (slice_set left1 (place_of st.port) step.rest) (world_step (Port (node x) st.port st.step) w1).0 later =
          subst (λ (v : WorldState). MakeLeft (node x) (slice_set left1 (place_of st.port) step.rest) v later) step.reached
          (subst (λ (l : List (List PortStep)). MakeLeft (node x) l w2 later) step.left_is h)
          in
          subst (MakeLeft (node x) left w) (sym (append_assoc made (st ∷ []) later)) (part.goes_on (st ∷ later) (step.rest, step.next, here))

  pub part_stuck : (t x : ℕ) (left left1 : List (List PortStep)) (w w1 : WorldState) (from via : Reading) (made : List NodeStep) (to : Reading)
      → IsPartRead plan t x left w from made left1 w1 via → IsStuck (FollowJobs plan t x left1 w1) via to → IsStuck (FollowJobs plan t x left w) from to
  part_stuck t x left left1 w w1 from via made to part stuck =
      stuck_then (FollowJobs plan t x left w) (FollowJobs plan t x left1 w1) from via (made_lines plan t (node x) made) to part.read stuck

  pub part_all : (t x : ℕ) (left left1 : List (List PortStep)) (w w1 : WorldState) (from to : Reading) (made : List NodeStep)
      → IsPartRead plan t x left w from made left1 w1 to → AllByRecursion (λ jobs. jobs ≡ []) left1 → IsNodeRead plan t x left w from made w1 to
  part_all t x left left1 w w1 from to made part none =
      record {
        jobs = subst (MakeLeft (node x) left w) (append-nil made) (part.goes_on [] none);
        reached = part.reached;
        during = part.during;
        read = read_same (FollowJobs plan t x left w) (FollowJobs plan t x left1 w1) (FollowNodes plan t (suc x) w1) from (made_lines plan t (node x) made) to
            (λ lines h. left_none_in plan laws t x left1 w1 lines none h) (λ lines h. left_none_out plan laws t x left1 w1 lines none h) part.read;
      }

  pub idle_read : (t x : ℕ) (w : WorldState) (from : Reading) → IsDuring plan.tree t w → AllByRecursion (λ jobs. jobs ≡ []) (node_jobs (node x) w)
      → IsNodeRead plan t x (node_jobs (node x) w) w from [] w from
  idle_read t x w from run none =
      record {
        jobs = none;
        reached = refl;
        during = run;
        read = read_same (FollowJobs plan t x (node_jobs (node x) w) w) (FollowJobs plan t x (node_jobs (node x) w) w) (FollowNodes plan t (suc x) w) from [] from
            (λ lines h. left_none_in plan laws t x (node_jobs (node x) w) w lines none h) (λ lines h. left_none_out plan laws t x (node_jobs (node x) w) w lines none h)
            (read_none (FollowJobs plan t x (node_jobs (node x) w) w) from);
      }

  -- ---- all nodes

  with_before : (n : NodeNo) (made : List NodeStep) (steps later : List NodeSteps) → steps ++ steps_before n made later ≡ with_steps n made steps ++ later
  with_before n [] steps later = refl
  with_before n (st ∷ made) steps later = sym (append_assoc steps (record { node = n; steps = st ∷ made } ∷ []) later)

  with_after : (n : NodeNo) (made : List NodeStep) (steps : List NodeSteps) (w : WorldState)
      → world_after (step_events (with_steps n made steps)) w ≡ world_after (events_of n made) (world_after (step_events steps) w)
  with_after n [] steps w = refl
  with_after n (st ∷ made) steps w =
      let last : NodeSteps = record { node = n; steps = st ∷ made } in
      ap (λ (es : List WorldEvent). world_after es w) (flat_append (λ (ns : NodeSteps). map (λ (s : NodeStep). Port ns.node s.port s.step) ns.steps) steps (last ∷ []))
      ∙ (after_both (step_events steps) (step_events (last ∷ [])) w
      ∙ ap (λ (es : List WorldEvent). world_after es (world_after (step_events steps) w)) (append-nil (events_of n (st ∷ made))))

  with_lines : (t : ℕ) (n : NodeNo) (made : List NodeStep) (steps : List NodeSteps) → steps_lines plan t (with_steps n made steps) ≡ steps_lines plan t steps ++ made_lines plan t n made
  with_lines t n [] steps = sym (append-nil (steps_lines plan t steps))
  with_lines t n (st ∷ made) steps =
      let last : NodeSteps = record { node = n; steps = st ∷ made } in
      flat_append (λ (ns : NodeSteps). made_lines plan t ns.node ns.steps) steps (last ∷ []) ∙ ap (λ (ls : Lines). steps_lines plan t steps ++ ls) (append-nil (made_lines plan t n (st ∷ made)))

  pub nodes_more : (t x : ℕ) (w w1 w2 : WorldState) (from via to : Reading) (steps : List NodeSteps) (made : List NodeStep) → HasNode plan.tree x
      → AreNodesRead plan t x w from steps w1 via → IsNodeRead plan t x (node_jobs (node x) w1) w1 via made w2 to → AreNodesRead plan t (suc x) w from (with_steps (node x) made steps) w2 to
  nodes_more t x w w1 w2 from via to steps made known nodes one =
      record {
        goes_on = on;
        reached = one.reached ∙ (ap (λ (v : WorldState). world_after (events_of (node x) made) v) nodes.reached ∙ sym (with_after (node x) made steps w));
        during = one.during;
        read = subst (λ (front : Lines). HasRead (FollowNodes plan t 1 w) from front (FollowNodes plan t (suc x) w2) to) (sym (with_lines t (node x) made steps))
            (read_then (FollowNodes plan t 1 w) (FollowNodes plan t x w1) (FollowNodes plan t (suc x) w2) from via to (steps_lines plan t steps) (made_lines plan t (node x) made) nodes.read
            (same_read (FollowJobs plan t x (node_jobs (node x) w1) w1) (FollowNodes plan t (suc x) w2) (FollowNodes plan t x w1) via (made_lines plan t (node x) made) to
            (λ lines h. jobs_in plan laws t x w1 lines known.1 h) (λ lines h. jobs_out plan laws t x w1 lines known.1 h) one.read));
      }
    where
      on : (later : List NodeSteps) → MakeAll (suc x) (nodes_from plan (suc x)) w2 later → MakeAll 1 (nodes_from plan 1) w (with_steps (node x) made steps ++ later)
      on later h =
          let here = subst (λ (v : WorldState). MakeAll (suc x) (nodes_from plan (suc x)) v later) one.reached h in
          let all = subst (λ (k : ℕ). MakeAll x k w1 (steps_before (node x) made later)) (sym (one_less plan laws x known.1)) (made, (later, refl, one.jobs, here)) in
          subst (MakeAll 1 (nodes_from plan 1) w) (with_before (node x) made steps later) (nodes.goes_on (steps_before (node x) made later) all)

  pub nodes_stuck : (t x : ℕ) (w w1 : WorldState) (from via : Reading) (steps : List NodeSteps) (to : Reading) → HasNode plan.tree x
      → AreNodesRead plan t x w from steps w1 via → IsStuck (FollowJobs plan t x (node_jobs (node x) w1) w1) via to → IsStuck (FollowNodes plan t 1 w) from to
  nodes_stuck t x w w1 from via steps to known nodes stuck =
      stuck_then (FollowNodes plan t 1 w) (FollowNodes plan t x w1) from via (steps_lines plan t steps) to nodes.read
      (stuck_as (FollowJobs plan t x (node_jobs (node x) w1) w1) (FollowNodes plan t x w1) via to
      (λ lines h. jobs_in plan laws t x w1 lines known.1 h) (λ lines h. jobs_out plan laws t x w1 lines known.1 h) stuck)

  -- ---- a tick

  module _ (t : ℕ) (w : WorldState) (run : IsDuring plan.tree t w) (within : t < plan.ticks) (answers : List (ℕ × WorldReply))
      (numbers : map (λ x. x.0) answers ≡ map (λ x. x.0) (script_at plan t)) (replies : map (λ x. x.1) answers ≡ replies_to (map (λ x. x.1) (script_at plan t)) w) where
    pub scripted_stays : IsDuring plan.tree t (after_script plan t w)
    scripted_stays = laws.stay t (map (λ (e : ℕ × WorldEvent). e.1) (script_at plan t)) w (laws.scripted t) run

    answers_read : (front behind : List (ℕ × WorldReply)) (from to : Reading) → answers ≡ front ++ behind → AreTaken (answer_lines t front) from to
        → HasRead (FollowTicks plan t w) from (answer_lines t front) (FollowAnswers plan t behind (after_script plan t w)) to
    answers_read front behind from to are taken =
        let all : answer_lines t answers ≡ answer_lines t front ++ answer_lines t behind = ap (answer_lines t) are ∙ map_append (answer_line t) front behind in
        record {
          lines = taken.lines_are;
          read = taken.read;
          onto = λ follow h.
              answers_in plan laws t w run within answers numbers replies (answer_lines t front ++ follow) (record {
                rest = h.rest;
                then = h.then;
                are = ap (λ (ls : Lines). answer_lines t front ++ ls) h.are
                    ∙ (sym (append_assoc (answer_lines t front) (answer_lines t behind) h.rest) ∙ ap (λ (ls : Lines). ls ++ h.rest) (sym all));
              });
          back = λ follow h.
              let out = answers_out plan laws t w run within answers numbers replies (answer_lines t front ++ follow) h in
              record {
                rest = out.rest;
                then = out.then;
                are = same_behind (answer_lines t front) follow (answer_lines t behind ++ out.rest)
                    (out.are ∙ (ap (λ (ls : Lines). ls ++ out.rest) all ∙ append_assoc (answer_lines t front) (answer_lines t behind) out.rest));
              };
        }

    pub other_stuck : (from to : Reading) → IsOtherAnswer t answers from to → IsStuck (FollowTicks plan t w) from to
    other_stuck from to h =
        stuck_then (FollowTicks plan t w) (FollowAnswers plan t (h.next ∷ h.behind) (after_script plan t w)) from to (answer_lines t h.front) to
        (answers_read h.front (h.next ∷ h.behind) from to h.are h.taken)
        (answers_stuck plan laws t h.next h.behind (after_script plan t w) to within scripted_stays h.wanted h.other)

    all_read : (from to : Reading) → AreTaken (answer_lines t answers) from to → HasRead (FollowTicks plan t w) from (answer_lines t answers) (FollowNodes plan t 1 (after_script plan t w)) to
    all_read from to taken =
        read_same (FollowTicks plan t w) (FollowAnswers plan t [] (after_script plan t w)) (FollowNodes plan t 1 (after_script plan t w)) from (answer_lines t answers) to
        (λ lines h. record { rest = lines; then = h; are = refl }) (λ lines h. subst (FollowNodes plan t 1 (after_script plan t w)) (sym h.are) h.then)
        (answers_read answers [] from to (sym (append-nil answers)) taken)

    pub steps_stuck : (w1 : WorldState) (from via to : Reading) → w1 ≡ after_script plan t w → AreTaken (answer_lines t answers) from via
        → IsStuck (FollowNodes plan t 1 w1) via to → IsStuck (FollowTicks plan t w) from to
    steps_stuck w1 from via to is taken stuck =
        stuck_then (FollowTicks plan t w) (FollowNodes plan t 1 (after_script plan t w)) from via (answer_lines t answers) to (all_read from via taken)
        (subst (λ (v : WorldState). IsStuck (FollowNodes plan t 1 v) via to) is stuck)

    pub tick_read : (w1 w2 : WorldState) (from via to : Reading) (steps : List NodeSteps) (tick : Tick) → w1 ≡ after_script plan t w → tick.events ≡ answers → tick.steps ≡ steps
        → AreTaken (answer_lines t answers) from via → AreNodesRead plan t (suc (length plan.tree.kinds)) w1 via steps w2 to → IsTickRead plan t w from tick w2 to
    tick_read w1 w2 from via to steps tick is events made taken nodes =
        let there : WorldState = after_script plan t w in
        let here = subst (λ (v : WorldState). AreNodesRead plan t (suc (length plan.tree.kinds)) v via steps w2 to) is nodes in
        let last : suc (length plan.tree.kinds) ≡ suc (length plan.tree.kinds) = refl in
        let none : MakeAll (suc (length plan.tree.kinds)) (nodes_from plan (suc (length plan.tree.kinds))) w2 [] =
        subst (λ (k : ℕ). MakeAll (suc (length plan.tree.kinds)) k w2 []) (sym (none_behind plan laws (suc (length plan.tree.kinds)) last)) refl
        in
        let all = subst (MakeAll 1 (nodes_from plan 1) there) (append-nil steps) (here.goes_on [] none) in
        let count : nodes_from plan 1 ≡ length plan.tree.kinds = omega arith in
        let one : IsOneByOne plan t w tick =
        record {
          numbers = ap (λ (es : List (ℕ × WorldReply)). map (λ x. x.0) es) events ∙ numbers;
          answers = ap (λ (es : List (ℕ × WorldReply)). map (λ x. x.1) es) events ∙ replies;
          steps = subst (λ (s : List NodeSteps). MakeAll 1 (length plan.tree.kinds) there s) (sym made) (subst (λ (k : ℕ). MakeAll 1 k there steps) count all);
        }
        in
        let lines : tick_lines plan t tick ≡ answer_lines t answers ++ steps_lines plan t steps =
        ap (λ (es : List (ℕ × WorldReply)). answer_lines t es ++ steps_lines plan t tick.steps) events ∙ ap (λ (s : List NodeSteps). answer_lines t answers ++ steps_lines plan t s) made
        in
        record {
          legal = laws.legal t w tick run one;
          reached = here.reached ∙ ap (λ (s : List NodeSteps). world_after (step_events s) there) (sym made);
          during = here.during;
          read = subst (λ (front : Lines). HasRead (FollowTicks plan t w) from front (FollowTicks plan (suc t) (world_after (closing_events plan.tree) w2)) to) (sym lines)
              (read_then (FollowTicks plan t w) (FollowNodes plan t 1 there) (FollowTicks plan (suc t) (world_after (closing_events plan.tree) w2)) from via to (answer_lines t answers)
              (steps_lines plan t steps)
              (all_read from via taken)
              (read_same (FollowNodes plan t 1 there) (FollowNodes plan t (suc (length plan.tree.kinds)) w2) (FollowTicks plan (suc t) (world_after (closing_events plan.tree) w2)) via
              (steps_lines plan t steps) to
              (λ ls h. nodes_none_in plan laws t (suc (length plan.tree.kinds)) w2 ls last h) (λ ls h. nodes_none_out plan laws t (suc (length plan.tree.kinds)) w2 ls last h) here.read));
        }
