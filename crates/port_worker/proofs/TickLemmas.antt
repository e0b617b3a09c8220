-- One tick from its parts: what its script, its steps, its carrying and its clock have made is a legal tick.
use Rattle.std.proofs.Common.{◌≡◌, ℕ, suc, ◌<◌, List, [], ◌∷◌, ◌++◌, map, sym, ap, subst, ◌∙◌, arith}
use Rattle.std.specs.List.{AllByRecursion}
use Rattle.tree_topology.specs.Topology.{Topology, HasPort, link_ports}
use Rattle.topology_file.specs.{Plan.Plan, Scenario.KeepsRules}
use Rattle.world_core.specs.declared.{events.WorldEvent.WorldEvent, events.WorldReply.WorldReply, journal.NodeSteps.NodeSteps, journal.Tick.Tick}
use Rattle.world_core.specs.declared.events.WorldEvent.TheVariants.{Carry, Clock}
use Rattle.world_core.specs.{World.WorldState, World.CanHappen, World.world_step, World.world_after, World.replies_to, Ticks.script_at, Ticks.after_script, Ticks.after_steps, Ticks.step_events, Ticks.tick_events, Ticks.IsLegalTick, During.IsDuring, During.IsAllowed, Carrying.NothingWaits, Cursor.IsCursor, History.HistoryState, History.HasPortsOf, History.acts_noted}
use Rattle.world_core.proofs.{TickParts.steps_allowed, Timelines.after_both}
use Rattle.port_worker.specs.{DuringLaws, AreSteps, IsTickMade}

module _ (laws : DuringLaws) (plan : Plan) (rules : KeepsRules plan) (t : ℕ) (within : t < plan.ticks) (w : WorldState) (during : IsDuring plan.tree t w) (w1 w2 w3 : WorldState)
    (steps : List NodeSteps)
    (script : w1 ≡ after_script plan t w) (made : AreSteps w1 w2 steps) where
  scripted_stays : IsDuring plan.tree t w1
  scripted_stays = subst (IsDuring plan.tree t) (sym script) (laws.all_stay plan.tree t (map (λ (e : ℕ × WorldEvent). e.1) (script_at plan t)) w (laws.scripted plan t rules) during)

  pub stepped_stays : IsDuring plan.tree t w2
  stepped_stays =
      let allowed = subst (λ (tree : Topology). AllByRecursion (IsAllowed tree) (step_events steps)) scripted_stays.tree_is (steps_allowed w1.tree steps made.known) in
      subst (IsDuring plan.tree t) (sym made.after) (laws.all_stay plan.tree t (step_events steps) w1 allowed scripted_stays)

  -- the tree has the ports of the steps
  pub steps_known : AllByRecursion (HasPortsOf plan.tree) steps
  steps_known = subst (λ (r : Topology). AllByRecursion (HasPortsOf r) steps) scripted_stays.tree_is made.known

  -- the network after the tick's steps
  pub steps_reach : (tick : Tick) → tick.steps ≡ steps → w2 ≡ after_steps plan t tick w
  steps_reach tick same =
      made.after ∙ (ap (λ (u : WorldState). world_after (step_events steps) u) script ∙ ap (λ (ns : List NodeSteps). world_after (step_events ns) (after_script plan t w)) (sym same))

  -- the clock may go on
  pub clock_can : w3 ≡ world_after (map Carry (link_ports w2.tree)) w2 → CanHappen Clock w3
  clock_can carried =
      let few = rules.ticks.1 in
      let same = carried ∙ ap (λ (tree : Topology). world_after (map Carry (link_ports tree)) w2) stepped_stays.tree_is in
      laws.clock plan.tree t w3 (omega (arith, within, few))
      (subst (IsDuring plan.tree t) (sym same) (laws.all_stay plan.tree t (map Carry (link_ports plan.tree)) w2 (laws.carried plan rules) stepped_stays))

  module _ (w4 : WorldState) (tick : Tick) (events : List (ℕ × WorldReply)) (events_are : tick.events ≡ events) (steps_are : tick.steps ≡ steps)
      (numbers : map (λ e. e.0) events ≡ map (λ e. e.0) (script_at plan t)) (answers : map (λ e. e.1) events ≡ replies_to (map (λ e. e.1) (script_at plan t)) w)
      (carried : w3 ≡ world_after (map Carry (link_ports w2.tree)) w2) (clock : w4 ≡ (world_step Clock w3).0) where
    pub after_tick : w4 ≡ world_after (tick_events plan t tick) w
    after_tick =
        let scripted : List WorldEvent = map (λ (e : ℕ × WorldEvent). e.1) (script_at plan t) in
        let stepped : List WorldEvent = step_events tick.steps in
        let carries : List WorldEvent = map Carry (link_ports plan.tree) in
        let here : w2 ≡ world_after (scripted ++ stepped) w = steps_reach tick steps_are ∙ sym (after_both scripted stepped w) in
        let third : w3 ≡ world_after carries w2 = carried ∙ ap (λ (tree : Topology). world_after (map Carry (link_ports tree)) w2) stepped_stays.tree_is in
        let last : w4 ≡ world_after (carries ++ (Clock ∷ [])) w2 =
        clock ∙ (ap (λ (u : WorldState). (world_step Clock u).0) third ∙ sym (after_both carries (Clock ∷ []) w2))
        in
        last ∙ (ap (λ (u : WorldState). world_after (carries ++ (Clock ∷ [])) u) here ∙ sym (after_both (scripted ++ stepped) (carries ++ (Clock ∷ [])) w))

    -- the tick is legal
    pub legal_tick : IsLegalTick plan t w tick
    legal_tick =
        let there : WorldState = after_script plan t w in
        let done = subst (λ (ns : List NodeSteps). AreSteps there w2 ns) (sym steps_are) (subst (λ (u : WorldState). AreSteps u w2 steps) script made) in
        let tree : there.tree ≡ plan.tree = subst (λ (u : WorldState). u.tree ≡ plan.tree) script scripted_stays.tree_is in
        record {
          numbers = ap (λ (es : List (ℕ × WorldReply)). map (λ x. x.0) es) events_are ∙ numbers;
          answers = ap (λ (es : List (ℕ × WorldReply)). map (λ x. x.1) es) events_are ∙ answers;
          nodes = done.nodes;
          some = done.some;
          known = subst (λ (r : Topology). AllByRecursion (λ ns. AllByRecursion (λ st. HasPort r (record { node = ns.node; port = st.port })) ns.steps) tick.steps) tree done.known;
          jobs = λ p has. done.jobs p (subst (λ (r : Topology). HasPort r p) (sym tree) has);
          replies = done.replies;
        }

    -- all that a tick has made
    pub tick_made : ((v : WorldState) → v ≡ world_after (tick_events plan t tick) w → NothingWaits v) → (cursor : ℕ) → IsCursor plan.events (suc t) cursor → (before after : HistoryState)
        → after.tree ≡ plan.tree → after.changes ≡ acts_noted t steps w2 before.changes → IsTickMade plan t w w4 cursor before after tick
    tick_made next cursor at before after tree noted =
        record {
          legal = legal_tick;
          reached = after_tick;
          next = next w4 after_tick;
          cursor = at;
          tree = tree;
          noted =
              noted
              ∙ (ap (λ (ns : List NodeSteps). acts_noted t ns w2 before.changes) (sym steps_are)
              ∙ ap (λ (u : WorldState). acts_noted t tick.steps u before.changes) (steps_reach tick steps_are));
        }
