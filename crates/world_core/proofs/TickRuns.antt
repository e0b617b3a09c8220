-- A tick one by one and as a whole, and the ticks that follow.
use Rattle.std.proofs.Common.{◌≡◌, ◌≢◌, ℕ, zero, suc, ◌+◌, ◌-◌, ◌<◌, ◌≤◌, ◌^◌, List, [], ◌∷◌, ◌++◌, length, map, refl, ap, subst, ◌∙◌, arith}
use Rattle.std.specs.List.{AllByRecursion}
use Rattle.srp_base.proofs.Lists.{each_append}
use Rattle.srp_base.specs.declared.numbers.NodeNo.{NodeNo}
use Rattle.tree_topology.specs.Topology.{Topology, link_ports}
use Rattle.topology_file.specs.Plan.{Plan}
use Rattle.node_core.specs.declared.types.NodeStep.{NodeStep}
use Rattle.world_core.specs.{WorldEvent, Carry, Clock, WorldReply, NodeSteps, Tick, WorldState, world_step, world_after, replies_to, script_at, after_script, step_events, tick_events, IsLegalTick, LeadTo, IsDuring, IsAllowed, HavePorts, events_of, IsOneByOne}
use Rattle.world_core.proofs.{OneByOne.one_by_one, OneByOne.of_one_by_one, OneByOne.can_all, Runs.after_append}

-- events with their answers, each with its number
numbered : (es : List (ℕ × WorldEvent)) (w : WorldState)
    → (events : List (ℕ × WorldReply)) × ((map (λ e. e.0) events ≡ map (λ e. e.0) es) × (map (λ e. e.1) events ≡ replies_to (map (λ e. e.1) es) w))
numbered [] w = ([], (refl, refl))
numbered (e ∷ es) w =
    let later = numbered es (world_step e.1 w).0 in
    ((e.0, (world_step e.1 w).1) ∷ later.0, (ap (λ xs. e.0 ∷ xs) later.1.0, ap (λ xs. (world_step e.1 w).1 ∷ xs) later.1.1))

-- what happens in a tick leaves it as it is until the clock goes on, and then the next tick begins
pub record TickLaws (plan : Plan) : Type 0 where
  pub stay : (t : ℕ) (es : List WorldEvent) (w : WorldState) → AllByRecursion (IsAllowed plan.tree) es → IsDuring plan.tree t w → IsDuring plan.tree t (world_after es w)
  pub scripted : (t : ℕ) → AllByRecursion (IsAllowed plan.tree) (map (λ (e : ℕ × WorldEvent). e.1) (script_at plan t))
  pub carried : AllByRecursion (IsAllowed plan.tree) (map Carry (link_ports plan.tree))
  pub next : (t : ℕ) (w : WorldState) → t < 2 ^ 61 → IsDuring plan.tree t w → IsDuring plan.tree (suc t) (world_step Clock w).0
  pub few : plan.ticks ≤ 2 ^ 61

-- a node that has made a step at a port of the tree is one of the tree's
number_known : (tree : Topology) (ns : NodeSteps) → ns.steps ≢ [] → HavePorts tree ns.node ns.steps → (1 ≤ ns.node.0) × (ns.node.0 ≤ length tree.kinds)
number_known tree ns some known = by ns.steps some known
  where
    by : (made : List NodeStep) → made ≢ [] → HavePorts tree ns.node made → (1 ≤ ns.node.0) × (ns.node.0 ≤ length tree.kinds)
    by [] ne h = absurd (ne refl)
    by (st ∷ made) ne h = h.0.0

from_first : (tree : Topology) (steps : List NodeSteps) → AllByRecursion (λ ns. ns.steps ≢ []) steps
    → AllByRecursion (λ ns. HavePorts tree ns.node ns.steps) steps → AllByRecursion (λ ns. 1 ≤ ns.node.0) steps
from_first tree [] some known = tt
from_first tree (ns ∷ steps) some known = ((number_known tree ns some.0 known.0).0, from_first tree steps some.1 known.1)

to_last : (tree : Topology) (steps : List NodeSteps) → AllByRecursion (λ ns. ns.steps ≢ []) steps → AllByRecursion (λ ns. HavePorts tree ns.node ns.steps) steps
    → AllByRecursion (λ ns. ns.node.0 < 1 + length tree.kinds) steps
to_last tree [] some known = tt
to_last tree (ns ∷ steps) some known = (let last = (number_known tree ns some.0 known.0).1 in omega (arith, last), to_last tree steps some.1 known.1)

module _ (plan : Plan) (laws : TickLaws plan) where
  scripted_stays : (t : ℕ) (w : WorldState) → IsDuring plan.tree t w → IsDuring plan.tree t (after_script plan t w)
  scripted_stays t w run = laws.stay t (map (λ e. e.1) (script_at plan t)) w (laws.scripted t) run

  pub tick_one_by_one : (t : ℕ) (w : WorldState) (tick : Tick) → IsDuring plan.tree t w → IsLegalTick plan t w tick → IsOneByOne plan t w tick
  tick_one_by_one t w tick run legal =
      record {
        numbers = legal.numbers;
        answers = legal.answers;
        steps = one_by_one plan.tree t (laws.stay t) (length plan.tree.kinds) 1 (after_script plan t w) tick.steps (scripted_stays t w run) (omega arith) (omega arith)
            (record {
              nodes = legal.nodes;
              from = from_first plan.tree tick.steps legal.some legal.known;
              below = to_last plan.tree tick.steps legal.some legal.known;
              some = legal.some;
              known = legal.known;
              jobs = λ p has le. legal.jobs p has;
              replies = legal.replies;
            });
      }

  pub tick_legal : (t : ℕ) (w : WorldState) (tick : Tick) → IsDuring plan.tree t w → IsOneByOne plan t w tick → IsLegalTick plan t w tick
  tick_legal t w tick run made =
      let steps = of_one_by_one plan.tree t (laws.stay t) (length plan.tree.kinds) 1 (after_script plan t w) tick.steps (scripted_stays t w run) (omega arith) (omega arith) made.steps in
      record {
        numbers = made.numbers;
        answers = made.answers;
        nodes = steps.nodes;
        some = steps.some;
        known = steps.known;
        jobs = λ p has. steps.jobs p has has.0.0;
        replies = steps.replies;
      }

  pub some_tick : (t : ℕ) (w : WorldState) → IsDuring plan.tree t w → (tick : Tick) × IsLegalTick plan t w tick
  some_tick t w run =
      let events = numbered (script_at plan t) w in
      let made = can_all plan.tree t (laws.stay t) (length plan.tree.kinds) 1 (after_script plan t w) (scripted_stays t w run) (omega arith) (omega arith) in
      let tick : Tick = record { events = events.0; steps = made.0 } in
      (tick, tick_legal t w tick run (record { numbers = events.1.0; answers = events.1.1; steps = made.1.0 }))

  pub next_tick : (t : ℕ) (w : WorldState) (tick : Tick) → t < plan.ticks → IsDuring plan.tree t w → IsLegalTick plan t w tick
      → IsDuring plan.tree (suc t) (world_after (tick_events plan t tick) w)
  next_tick t w tick lt run legal =
      let few = laws.few in
      let script : List WorldEvent = map (λ e. e.1) (script_at plan t) in
      let steps : List WorldEvent = step_events tick.steps in
      let carries : List WorldEvent = map Carry (link_ports plan.tree) in
      let one : WorldState = world_after script w in
      let two : WorldState = world_after steps one in
      let three : WorldState = world_after carries two in
      let scripted = scripted_stays t w run in
      let stepped = laws.stay t steps one (steps_allowed_here tick.steps legal.known) scripted in
      let carried = laws.stay t carries two laws.carried stepped in
      let last : IsDuring plan.tree (suc t) (world_step Clock three).0 = laws.next t three (omega (arith, lt, few)) carried in
      subst (IsDuring plan.tree (suc t))
      (after_append carries (Clock ∷ []) two
      ∙ (ap (λ (u : WorldState). world_after (carries ++ Clock ∷ []) u) (after_append script steps w) ∙ after_append (script ++ steps) (carries ++ Clock ∷ []) w)) last
    where
      made_allowed : (n : NodeNo) (made : List NodeStep) → HavePorts plan.tree n made → AllByRecursion (IsAllowed plan.tree) (events_of n made)
      made_allowed n [] known = tt
      made_allowed n (st ∷ made) known = (known.0, made_allowed n made known.1)

      steps_allowed_here : (nodes : List NodeSteps) → AllByRecursion (λ (ns : NodeSteps). HavePorts plan.tree ns.node ns.steps) nodes → AllByRecursion (IsAllowed plan.tree) (step_events nodes)
      steps_allowed_here [] known = tt
      steps_allowed_here (ns ∷ nodes) known =
          each_append (IsAllowed plan.tree) (events_of ns.node ns.steps) (step_events nodes) (made_allowed ns.node ns.steps known.0) (steps_allowed_here nodes known.1)

  pub some_rest : (count t : ℕ) (w : WorldState) → t + count ≡ plan.ticks → IsDuring plan.tree t w
      → (ticks : List Tick) × ((end : WorldState) × LeadTo (IsLegalTick plan) plan t w ticks plan.ticks end)
  some_rest zero t w all run = ([], (w, (omega (arith, all), refl)))
  some_rest (suc count) t w all run =
      let one = some_tick t w run in
      let tick : Tick = one.0 in
      let later = some_rest count (suc t) (world_after (tick_events plan t tick) w) (omega (arith, all)) (next_tick t w tick (omega (arith, all)) run one.1) in
      (tick ∷ later.0, (later.1.0, (one.1, later.1.1)))

  pub some_run : (t : ℕ) (w : WorldState) → t ≤ plan.ticks → IsDuring plan.tree t w
      → (ticks : List Tick) × ((end : WorldState) × LeadTo (IsLegalTick plan) plan t w ticks plan.ticks end)
  some_run t w le run = some_rest (plan.ticks - t) t w (omega (arith, le)) run
