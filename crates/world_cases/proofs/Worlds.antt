-- What the tests' own conditions rest on.
use Rattle.std.proofs.Common.{◌≡◌, ℕ, ◌-◌, ◌<◌, ◌^◌, List, Some, refl, ap, subst}
use Rattle.srp_base.specs.declared.{numbers.Cs.Cs}
use Rattle.tree_topology.specs.Topology.{Topology}
use Rattle.node_core.specs.State.{NodeState}
use Rattle.std.specs.List.{AllByRecursion}
use Rattle.world_core.specs.declared.{events.WorldEvent.WorldEvent, events.WorldEvent.TheVariants.Clock}
use Rattle.world_core.specs.{World.WorldState, World.node_at, World.CanHappen, World.CanAllHappen, During.IsAllowed, During.IsDuring, Kept.IsKeptWorld}
pub use Rattle.world_core.proofs.Timelines.{none_are}

-- where the clock of node 1 is below 2^61, the clock goes on: all nodes have one clock
pub clock_goes_on : (w : WorldState) (t : NodeState) → IsKeptWorld w → node_at (record { 0 = 1 }) w ≡ Some t → t.clock.0 < 2 ^ 61 → CanHappen Clock w
clock_goes_on w t kept there below n s is = subst (λ (c : Cs). c.0 < 2 ^ 61) (kept.clock 0 (n.0 - 1) t s there is) below

-- what is allowed at any time may happen, one after the other
pub all_can : (w : WorldState) (t : NodeState) (es : List WorldEvent) → IsKeptWorld w → node_at (record { 0 = 1 }) w ≡ Some t
    → ((tree : Topology) (moment : ℕ) (es : List WorldEvent) (w : WorldState) → AllByRecursion (IsAllowed tree) es → IsDuring tree moment w → CanAllHappen es w)
    → AllByRecursion (IsAllowed w.tree) es → CanAllHappen es w
all_can w t es kept there can allowed =
    can w.tree t.clock.0 es w allowed
    (record { kept = kept; tree_is = refl; clock = λ x s is. ap (λ (c : Cs). c.0) (kept.clock x 0 s t is there) })
