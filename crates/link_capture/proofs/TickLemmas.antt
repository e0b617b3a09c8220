-- A tick of a legal run, part by part.
use Rattle.std.proofs.Common.{◌≡◌, ℕ, suc, ◌+◌, ◌<◌, ◌≤◌, ◌^◌, false, List, ◌∷◌, ◌++◌, length, map, get_or, drop, sym, ap, subst, ◌∙◌, append_assoc, arith}
use Rattle.std.proofs.Math.Seq.{drop-cons}
use Rattle.srp_base.specs.declared.numbers.EgressPort.{EgressPort}
use Rattle.tree_topology.specs.Topology.{Topology, HasPort, link_ports}
use Rattle.topology_file.specs.Plan.{Plan}
use Rattle.node_core.specs.declared.types.NodeStep.{NodeStep}
use Rattle.world_core.specs.declared.{events.WorldEvent.WorldEvent, journal.NodeSteps.NodeSteps, journal.Tick.Tick}
use Rattle.world_core.specs.declared.events.WorldEvent.TheVariants.{Port, Carry, Clock}
use Rattle.world_core.specs.{World.WorldState, World.CanHappen, World.CanAllHappen, World.world_after, Ticks.script_at, Ticks.after_script, Ticks.after_steps, Ticks.step_events, Ticks.closing_events, Ticks.tick_events, Ticks.IsLegalTick, Carrying.NothingWaits, Carrying.has_send, During.IsDuring}
use Rattle.world_core.proofs.{TickParts.steps_allowed, Timelines.after_both}
use Rattle.link_capture.specs.{TickLaws}

-- the steps of one node more
pub events_more : (steps : List NodeSteps) (i : ℕ) (made : NodeSteps) (those : List NodeStep) (out new : List WorldEvent) → i < length steps → made ≡ get_or steps i made
    → those ≡ made.steps → new ≡ out ++ map (λ st. Port made.node st.port st.step) those → out ++ step_events (drop i steps) ≡ step_events steps
    → new ++ step_events (drop (i + 1) steps) ≡ step_events steps
events_more steps i made those out new lt at are put before =
    let next : suc i ≡ i + 1 = omega arith in
    let events : List NodeStep → List WorldEvent = λ ss. map (λ st. Port made.node st.port st.step) ss in
    let rest = step_events (drop (i + 1) steps) in
    let cut : drop i steps ≡ made ∷ drop (i + 1) steps =
    drop-cons steps i made lt ∙ (ap (λ (x : NodeSteps). x ∷ drop (suc i) steps) (sym at) ∙ ap (λ (k : ℕ). made ∷ drop k steps) next)
    in
    ap (λ (es : List WorldEvent). es ++ rest) (put ∙ ap (λ (ss : List NodeStep). out ++ events ss) are)
    ∙ append_assoc out (events made.steps) rest
    ∙ ap (λ (ns : List NodeSteps). out ++ step_events ns) (sym cut)
    ∙ before

module _ (plan : Plan) (laws : TickLaws plan) (t : ℕ) (within : t < plan.ticks) (w : WorldState) (tick : Tick) (during : IsDuring plan.tree t w) (legal : IsLegalTick plan t w tick) where
  -- its moment
  pub moment : t ≤ 12000
  moment = let few = laws.rules.ticks.1 in omega (arith, within, few)

  scripted_during : IsDuring plan.tree t (after_script plan t w)
  scripted_during = laws.stay t (map (λ (e : ℕ × WorldEvent). e.1) (script_at plan t)) w (laws.scripted t) during

  -- behind the script its steps may happen
  pub steps_can : (v : WorldState) → v ≡ after_script plan t w → CanAllHappen (step_events tick.steps) v
  steps_can v is =
      laws.can t (step_events tick.steps) v (steps_allowed plan.tree tick.steps legal.known) (subst (IsDuring plan.tree t) (sym is) scripted_during)

  pub stepped_during : IsDuring plan.tree t (after_steps plan t tick w)
  stepped_during = laws.stay t (step_events tick.steps) (after_script plan t w) (steps_allowed plan.tree tick.steps legal.known) scripted_during

  -- the steps have been made
  pub steps_made : (v u : WorldState) (ns : List NodeSteps) → ns ≡ tick.steps → v ≡ after_script plan t w → u ≡ world_after (step_events ns) v → u ≡ after_steps plan t tick w
  steps_made v u ns are is made =
      made ∙ ap (λ (n : List NodeSteps). world_after (step_events n) v) are ∙ ap (λ (x : WorldState). world_after (step_events tick.steps) x) is

  module _ (u : WorldState) (is : u ≡ after_steps plan t tick w) where
    tree_is : u.tree ≡ plan.tree
    tree_is = ap (λ (v : WorldState). v.tree) is ∙ stepped_during.tree_is

    -- the tree's ports are there
    pub has_port : (p : EgressPort) → HasPort plan.tree p → HasPort u.tree p
    has_port p has = subst (λ (r : Topology). HasPort r p) (sym tree_is) has

    -- where nothing was sent, the carrying changes nothing
    pub nothing_sent : NothingWaits w → has_send tick.steps ≡ false → world_after (map Carry (link_ports u.tree)) u ≡ u
    nothing_sent waits isnt =
        ap (λ (r : Topology). world_after (map Carry (link_ports r)) u) tree_is
        ∙ (ap (λ (v : WorldState). world_after (map Carry (link_ports plan.tree)) v) is ∙ (laws.none_carried t w tick during waits isnt ∙ sym is))

    -- behind the carrying the clock may go on
    pub clock_can : CanHappen Clock (world_after (map Carry (link_ports u.tree)) u)
    clock_can =
        let below : t < 2 ^ 61 = let few = moment in omega (arith, few) in
        let here = subst (IsDuring plan.tree t) (sym is) stepped_during in
        let there = laws.stay t (map Carry (link_ports plan.tree)) u laws.carried here in
        laws.clock t (world_after (map Carry (link_ports u.tree)) u) below
        (subst (λ (r : Topology). IsDuring plan.tree t (world_after (map Carry (link_ports r)) u)) (sym tree_is) there)

    -- and the tick is over
    pub ended : (x : WorldState) → x ≡ world_after (closing_events u.tree) u → x ≡ world_after (tick_events plan t tick) w
    ended x closed =
        let script : List WorldEvent = map (λ (e : ℕ × WorldEvent). e.1) (script_at plan t) in
        let steps : List WorldEvent = step_events tick.steps in
        closed
        ∙ ap (λ (r : Topology). world_after (closing_events r) u) tree_is
        ∙ ap (λ (v : WorldState). world_after (closing_events plan.tree) v) (is ∙ sym (after_both script steps w))
        ∙ sym (after_both (script ++ steps) (closing_events plan.tree) w)
