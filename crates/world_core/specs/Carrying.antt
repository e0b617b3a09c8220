-- What waits to be carried at the end of a tick.
use Rattle.std.specs.Prelude.{◌≡◌, ℕ, Bool, List, [], ◌∷◌}
use Rattle.std.specs.List.{list_any}
use Rattle.srp_base.specs.declared.numbers.EgressPort.{EgressPort}
use Rattle.tree_topology.specs.{Topology.Topology, Topology.HasPort, Ports.ends_of}
use Rattle.world_core.specs.declared.{events.WorldEvent.WorldEvent, events.WorldEvent.TheVariants.Carry, journal.NodeSteps.NodeSteps}
use Rattle.world_core.specs.{World.WorldState, World.outbox, Ticks.is_send}

-- no PDU waits in the outbox of any port
abbrev pub NothingWaits : WorldState → Type 0
NothingWaits w = (p : EgressPort) → HasPort w.tree p → outbox p w ≡ []

-- whether a step among these is Send
abbrev pub has_send : List NodeSteps → Bool
has_send steps = list_any (λ ns. list_any (λ st. is_send st.step) ns.steps) steps

-- the carrying of a link's two ends, end `a` first
abbrev pub carried_ends : Topology → ℕ → List WorldEvent
carried_ends tree n = Carry (ends_of tree.links n).0 ∷ Carry (ends_of tree.links n).1 ∷ []
