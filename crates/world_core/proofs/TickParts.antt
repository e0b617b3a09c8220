-- What the parts of one tick have in common: its steps are allowed, and nothing is carried where they sent nothing.
use Rattle.std.proofs.Common.{◌≡◌, ℕ, false, List, [], ◌∷◌, map, sym, ap, ◌∙◌}
use Rattle.std.specs.List.{AllByRecursion}
use Rattle.srp_base.proofs.Lists.{each_append}
use Rattle.srp_base.specs.declared.numbers.NodeNo.{NodeNo}
use Rattle.tree_topology.specs.Topology.{Topology, HasPort, link_ports}
use Rattle.topology_file.specs.Plan.{Plan}
use Rattle.node_core.specs.declared.types.NodeStep.{NodeStep}
use Rattle.world_core.specs.{Port, Carry, NodeSteps, Tick, WorldState, world_after, after_steps, step_events, IsDuring, IsAllowed, NothingWaits, has_send}

-- nothing is carried where the steps sent nothing
pub nothing_carried : ((plan : Plan) (t : ℕ) (w : WorldState) (tick : Tick) → IsDuring plan.tree t w → NothingWaits w → has_send tick.steps ≡ false
    → world_after (map Carry (link_ports plan.tree)) (after_steps plan t tick w) ≡ after_steps plan t tick w)
    → (plan : Plan) (t : ℕ) (w : WorldState) → IsDuring plan.tree t w → NothingWaits w → (v : WorldState) (tick : Tick) → v ≡ after_steps plan t tick w → v.tree ≡ plan.tree
    → has_send tick.steps ≡ false
    → world_after (map Carry (link_ports v.tree)) v ≡ v
nothing_carried law plan t w during waits v tick is tree isnt =
    ap (λ (r : Topology). world_after (map Carry (link_ports r)) v) tree
    ∙ (ap (λ (u : WorldState). world_after (map Carry (link_ports plan.tree)) u) is ∙ (law plan t w tick during waits isnt ∙ sym is))

made_allowed : (tree : Topology) (n : NodeNo) (made : List NodeStep) → AllByRecursion (λ st. HasPort tree (record { node = n; port = st.port })) made
    → AllByRecursion (IsAllowed tree) (map (λ st. Port n st.port st.step) made)
made_allowed tree n [] known = tt
made_allowed tree n (st ∷ made) known = (known.0, made_allowed tree n made known.1)

pub steps_allowed : (tree : Topology) (nodes : List NodeSteps) → AllByRecursion (λ ns. AllByRecursion (λ st. HasPort tree (record { node = ns.node; port = st.port })) ns.steps) nodes
    → AllByRecursion (IsAllowed tree) (step_events nodes)
steps_allowed tree [] known = tt
steps_allowed tree (ns ∷ nodes) known =
    each_append (IsAllowed tree) (map (λ st. Port ns.node st.port st.step) ns.steps) (step_events nodes) (made_allowed tree ns.node ns.steps known.0) (steps_allowed tree nodes known.1)
