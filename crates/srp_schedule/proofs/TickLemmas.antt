-- One tick from its parts, and one tick more of a run.
use Rattle.std.proofs.Common.{◌≡◌, ℕ, suc, ◌+◌, ◌<◌, ◌^◌, List, [], ◌∷◌, ◌++◌, length, map, refl, sym, ap, subst, ◌∙◌, arith}
use Rattle.std.specs.List.{AllByRecursion}
use Rattle.srp_base.specs.declared.{ports.PortChange.PortChange}
use Rattle.tree_topology.specs.Topology.{Topology, HasPort, link_ports}
use Rattle.topology_file.specs.{Plan.Plan, Scenario.KeepsRules}
use Rattle.world_core.specs.declared.{events.WorldEvent.WorldEvent, events.WorldReply.WorldReply, journal.NodeSteps.NodeSteps, journal.Tick.Tick}
use Rattle.world_core.specs.declared.events.WorldEvent.TheVariants.{Carry, Clock}
use Rattle.world_core.specs.{World.WorldState, World.CanHappen, World.world_step, World.world_after, World.replies_to, Start.world_of, Ticks.script_at, Ticks.after_script, Ticks.after_steps, Ticks.step_events, Ticks.tick_events, Ticks.LeadTo, Ticks.IsCanonicalTick, During.IsDuring, During.IsAllowed, History.HasPortsOf, History.acts_noted, Cursor.IsCursor}
use Rattle.world_core.proofs.{TickParts.steps_allowed, Timelines.after_both}
use Rattle.srp_schedule.specs.{AreSteps, DuringLaws}

-- ---- one tick

-- what the parts of a tick have made of a network, one after the other: the script, the steps, the carrying and the clock
pub record AreTickParts (plan : Plan) (t : ℕ) (w w1 w2 w3 w4 : WorldState) (tick : Tick) : Type 0 where
  pub numbers : map (λ e. e.0) tick.events ≡ map (λ e. e.0) (script_at plan t)
  pub answers : map (λ e. e.1) tick.events ≡ replies_to (map (λ e. e.1) (script_at plan t)) w
  pub script : w1 ≡ after_script plan t w
  pub steps : AreSteps (length w1.tree.kinds) w1 tick.steps
  pub stepped : w2 ≡ world_after (step_events tick.steps) w1
  pub carried : w3 ≡ world_after (map Carry (link_ports w2.tree)) w2
  pub clock : w4 ≡ (world_step Clock w3).0

pub tick_parts : (plan : Plan) (t : ℕ) (w w1 w2 w3 w4 : WorldState) (events : List (ℕ × WorldReply)) (steps : List NodeSteps) (tick : Tick)
    → tick.events ≡ events → tick.steps ≡ steps → map (λ e. e.0) events ≡ map (λ e. e.0) (script_at plan t)
    → map (λ e. e.1) events ≡ replies_to (map (λ e. e.1) (script_at plan t)) w → w1 ≡ after_script plan t w → AreSteps (length w1.tree.kinds) w1 steps
    → w2 ≡ world_after (step_events steps) w1 → w3 ≡ world_after (map Carry (link_ports w2.tree)) w2 → w4 ≡ (world_step Clock w3).0
    → AreTickParts plan t w w1 w2 w3 w4 tick
tick_parts plan t w w1 w2 w3 w4 events steps tick e s numbers answers script made stepped carried clock =
    record {
      numbers = ap (λ (es : List (ℕ × WorldReply)). map (λ x. x.0) es) e ∙ numbers;
      answers = ap (λ (es : List (ℕ × WorldReply)). map (λ x. x.1) es) e ∙ answers;
      script = script;
      steps = subst (λ (x : List NodeSteps). AreSteps (length w1.tree.kinds) w1 x) (sym s) made;
      stepped = stepped ∙ ap (λ (x : List NodeSteps). world_after (step_events x) w1) (sym s);
      carried = carried;
      clock = clock;
    }

module _ (laws : DuringLaws) (plan : Plan) (rules : KeepsRules plan) (t : ℕ) (within : t < plan.ticks) (w : WorldState) (during : IsDuring plan.tree t w) where
  below : t < 2 ^ 61
  below = let few = rules.ticks.1 in omega (arith, within, few)

  pub scripted_stays : (w1 : WorldState) → w1 ≡ after_script plan t w → IsDuring plan.tree t w1
  scripted_stays w1 is = subst (IsDuring plan.tree t) (sym is) (laws.all_stay plan.tree t (map (λ (e : ℕ × WorldEvent). e.1) (script_at plan t)) w (laws.scripted plan t rules) during)

  pub stepped_stays : (w1 w2 : WorldState) (steps : List NodeSteps) → w1 ≡ after_script plan t w → AreSteps (length w1.tree.kinds) w1 steps → w2 ≡ world_after (step_events steps) w1
      → IsDuring plan.tree t w2
  stepped_stays w1 w2 steps is made after =
      let here = scripted_stays w1 is in
      let allowed = subst (λ (tree : Topology). AllByRecursion (IsAllowed tree) (step_events steps)) here.tree_is (steps_allowed w1.tree steps made.known) in
      subst (IsDuring plan.tree t) (sym after) (laws.all_stay plan.tree t (step_events steps) w1 allowed here)

  -- the tree has the ports of the steps
  pub steps_known : (w1 : WorldState) (steps : List NodeSteps) → w1 ≡ after_script plan t w → AreSteps (length w1.tree.kinds) w1 steps → AllByRecursion (HasPortsOf plan.tree) steps
  steps_known w1 steps is made = subst (λ (r : Topology). AllByRecursion (HasPortsOf r) steps) (scripted_stays w1 is).tree_is made.known

  pub carried_stays : (w1 w2 w3 : WorldState) (steps : List NodeSteps) → w1 ≡ after_script plan t w → AreSteps (length w1.tree.kinds) w1 steps → w2 ≡ world_after (step_events steps) w1
      → w3 ≡ world_after (map Carry (link_ports w2.tree)) w2 → IsDuring plan.tree t w3
  carried_stays w1 w2 w3 steps is made after carried =
      let here = stepped_stays w1 w2 steps is made after in
      let same = carried ∙ ap (λ (tree : Topology). world_after (map Carry (link_ports tree)) w2) here.tree_is in
      subst (IsDuring plan.tree t) (sym same) (laws.all_stay plan.tree t (map Carry (link_ports plan.tree)) w2 (laws.carried plan rules) here)

  -- the clock may go on
  pub clock_can : (w1 w2 w3 : WorldState) (steps : List NodeSteps) → w1 ≡ after_script plan t w → AreSteps (length w1.tree.kinds) w1 steps → w2 ≡ world_after (step_events steps) w1
      → w3 ≡ world_after (map Carry (link_ports w2.tree)) w2 → CanHappen Clock w3
  clock_can w1 w2 w3 steps is made after carried = laws.clock plan.tree t w3 below (carried_stays w1 w2 w3 steps is made after carried)

  module _ (w1 w2 w3 w4 : WorldState) (tick : Tick) (made : AreTickParts plan t w w1 w2 w3 w4 tick) where
    pub begins_next : IsDuring plan.tree (suc t) w4
    begins_next =
        subst (IsDuring plan.tree (suc t)) (sym made.clock)
        (laws.next plan.tree t w3 below (carried_stays w1 w2 w3 tick.steps made.script made.steps made.stepped made.carried))

    pub after_tick : w4 ≡ world_after (tick_events plan t tick) w
    after_tick =
        let script : List WorldEvent = map (λ (e : ℕ × WorldEvent). e.1) (script_at plan t) in
        let steps : List WorldEvent = step_events tick.steps in
        let carries : List WorldEvent = map Carry (link_ports plan.tree) in
        let there = stepped_stays w1 w2 tick.steps made.script made.steps made.stepped in
        let here : w2 ≡ world_after (script ++ steps) w = made.stepped ∙ (ap (λ (u : WorldState). world_after steps u) made.script ∙ sym (after_both script steps w)) in
        let third : w3 ≡ world_after carries w2 = made.carried ∙ ap (λ (tree : Topology). world_after (map Carry (link_ports tree)) w2) there.tree_is in
        let last : w4 ≡ world_after (carries ++ (Clock ∷ [])) w2 =
        made.clock ∙ (ap (λ (u : WorldState). (world_step Clock u).0) third ∙ sym (after_both carries (Clock ∷ []) w2))
        in
        last ∙ (ap (λ (u : WorldState). world_after (carries ++ (Clock ∷ [])) u) here ∙ sym (after_both (script ++ steps) (carries ++ (Clock ∷ [])) w))

    -- the network after the tick's steps, and the changes once it is noted
    steps_reach : w2 ≡ after_steps plan t tick w
    steps_reach = made.stepped ∙ ap (λ (u : WorldState). world_after (step_events tick.steps) u) made.script

    pub steps_noted : (steps : List NodeSteps) (before after : List PortChange) → tick.steps ≡ steps → after ≡ acts_noted t steps w2 before
        → after ≡ acts_noted t tick.steps (after_steps plan t tick w) before
    steps_noted steps before after same is =
        is ∙ ap (λ (nodes : List NodeSteps). acts_noted t nodes w2 before) (sym same) ∙ ap (λ (u : WorldState). acts_noted t tick.steps u before) steps_reach

    -- the tick is canonical
    pub canonical_tick : IsCanonicalTick plan t w tick
    canonical_tick =
        let there : WorldState = after_script plan t w in
        let steps = subst (λ (u : WorldState). AreSteps (length u.tree.kinds) u tick.steps) made.script made.steps in
        let tree : there.tree ≡ plan.tree = (scripted_stays there refl).tree_is in
        record {
          legal = record {
            numbers = made.numbers;
            answers = made.answers;
            nodes = steps.nodes;
            some = steps.some;
            known = subst (λ (r : Topology). AllByRecursion (λ ns. AllByRecursion (λ st. HasPort r (record { node = ns.node; port = st.port })) ns.steps) tick.steps) tree steps.known;
            jobs = λ p has. let has' = subst (λ (r : Topology). HasPort r p) (sym tree) has in steps.jobs p has' has'.0.1;
            replies = steps.replies;
          };
          canonical = steps.canonical;
        }

-- ---- the run so far

-- the ticks before tick t lead to a network in the canonical order, and the cursor stands before tick t's events
pub record IsRunTo (plan : Plan) (t : ℕ) (made : List Tick) (w : WorldState) (i : ℕ) : Type 0 where
  pub ticks : LeadTo (IsCanonicalTick plan) plan 0 (world_of plan) made t w
  pub during : IsDuring plan.tree t w
  pub cursor : IsCursor plan.events t i

pub one_tick : (plan : Plan) (t : ℕ) (ticks : List Tick) (w v : WorldState) (cursor next : ℕ) (tick : Tick)
    → (LeadTo (IsCanonicalTick plan) plan 0 (world_of plan) ticks t w → IsCanonicalTick plan t w tick
    → LeadTo (IsCanonicalTick plan) plan 0 (world_of plan) (ticks ++ tick ∷ []) (suc t) (world_after (tick_events plan t tick) w))
    → IsCanonicalTick plan t w tick → v ≡ world_after (tick_events plan t tick) w → IsDuring plan.tree (suc t) v → IsCursor plan.events (suc t) next
    → IsRunTo plan t ticks w cursor → IsRunTo plan (t + 1) (ticks ++ tick ∷ []) v next
one_tick plan t ticks w v cursor next tick more here after during at run =
    let later : suc t ≡ t + 1 = omega arith in
    subst (λ (k : ℕ). IsRunTo plan k (ticks ++ tick ∷ []) v next) later
    (record {
      ticks = subst (λ (u : WorldState). LeadTo (IsCanonicalTick plan) plan 0 (world_of plan) (ticks ++ tick ∷ []) (suc t) u) (sym after) (more run.ticks here);
      during = during;
      cursor = at;
    })

pub no_tick : (plan : Plan) → IsDuring plan.tree 0 (world_of plan) → IsRunTo plan 0 [] (world_of plan) 0
no_tick plan during =
    record {
      ticks = (refl, refl);
      during = during;
      cursor = record { within = omega arith; past = λ k e get lt. absurd (omega (arith, lt)); coming = λ k e get le. omega arith };
    }
