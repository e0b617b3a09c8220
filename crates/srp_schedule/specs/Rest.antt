-- What is known of nodes that rest, so that nobody asks them in each tick.
use Rattle.std.specs.Prelude.{◌≡◌, ◌+◌, ◌-◌, ◌*◌, ◌/◌, nat_le, not, ◌&&◌, if◌then◌else◌, ℕ, Bool, true, false, List, length, slice_get, Some}
use Rattle.srp_base.specs.declared.{numbers.Cs.Cs, numbers.NodeNo.NodeNo}
use Rattle.node_core.specs.State.{NodeState, is_at_rest, is_sending_time, join_time}
use Rattle.world_core.specs.World.{WorldState, node_at}
use Rattle.srp_schedule.specs.declared.rest.Rest.{Rest}
use Rattle.srp_schedule.specs.declared.rest.Rest.TheVariants.{Unknown, Awake, UpTo}

-- what is known of a node is true of it: it is at rest up to this moment
abbrev pub IsRestOf : Rest → NodeState → Type 0
IsRestOf Unknown s = Unit {0}
IsRestOf Awake s = Unit {0}
IsRestOf (UpTo until) s = is_at_rest until s ≡ true

-- whether by this a node has nothing to do at a moment
abbrev pub is_rest_at : Cs → Rest → Bool
is_rest_at now Unknown = false
is_rest_at now Awake = false
is_rest_at now (UpTo until) = nat_le now.0 until.0 && not (is_sending_time now)

-- the last moment before the next one of sending
abbrev pub before_sending : Cs → Cs
before_sending now = record { 0 = now.0 / join_time * join_time + (join_time - 1) }

-- what a node answers: whether it is at rest up to then
abbrev pub rest_of : NodeState → Rest
rest_of s = if is_at_rest (before_sending s.clock) s then UpTo (before_sending s.clock) else Awake

-- what is known of the node of a number is true of it
abbrev pub IsRestAt : NodeNo → WorldState → Rest → Type 0
IsRestAt n w rest = (s : NodeState) → node_at n w ≡ Some s → IsRestOf rest s

-- it says nothing of any node
abbrev pub SaysNothing : Rest → Type 0
SaysNothing Unknown = Unit {0}
SaysNothing Awake = Unit {0}
SaysNothing (UpTo until) = ⊥

-- what is known of each node of a network, in the order of their numbers
pub record AreRests (w : WorldState) (rests : List Rest) : Type 0 where
  pub count : length rests ≡ length w.tree.kinds
  pub each : (x : ℕ) (rest : Rest) (s : NodeState) → slice_get rests x ≡ Some rest → slice_get w.nodes x ≡ Some s → IsRestOf rest s
