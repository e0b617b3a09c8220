-- What a node holds: its state, and whether the memory is taken that its next clock needs. What a
-- call does is said of the states alone.
use Rattle.std.specs.Prelude.{ℕ, Bool, not, ◌||◌, List, map}
use Rattle.std.specs.List.{list_any}
use Rattle.msrp.specs.{Holding.SideHolding, Side.shows_at}
use Rattle.node_core.specs.State.{NodeState}

-- the state of a node, and whether it is ready for the clock: then a clock takes no memory
pub record NodeHolding : Type 0 where
  pub state : NodeState
  pub ready : Bool

-- the states of some nodes
abbrev pub states_in : List NodeHolding → List NodeState
states_in nodes = map (λ n. n.state) nodes

-- whether a clock that is set to a moment takes no memory of a side of MSRP: it is ready, or the
-- clock shows nothing there
abbrev pub is_ready_at : ℕ → SideHolding → Bool
is_ready_at now side = side.ready || not (list_any (shows_at now) side.state.ports)
