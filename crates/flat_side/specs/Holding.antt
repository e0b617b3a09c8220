-- A flat side as contracts see it: its state, and where it is ready.
use Rattle.std.specs.Prelude.{◌≡◌, ◌≤◌, ℕ, true, List, length, map, Option, Some, None, slice_get, IfSome}
use Rattle.mrp_participant.specs.State.{Holding}
use Rattle.attribute_propagation.specs.{Dirty.KeySet, Ports.HasRoom, Ports.keys_at, Ports.keys_in}
use Rattle.flat_side.specs.{Part.Part, Side.FlatState}

-- the state of a side, and the place of the link port at which it is ready, if it is at one: there
-- timers fire and keys settle without memory being taken. What a side does is said of its state
-- alone.
pub record SideHolding (K : Type 0) : Type 0 where
  pub state : FlatState K
  pub ready : Option ℕ

-- what a participant without contents holds
abbrev pub PartHolding : Type 0 → Type 0
PartHolding K = Holding K (Unit {0})

-- the states of some participants
abbrev pub parts_in : {K : Type 0} → List (PartHolding K) → List (Part K)
parts_in parts = map (λ p. p.state) parts

-- the state of a side of these participants, sets of awaiting keys, and own keys
abbrev pub flat_of : {K : Type 0} → List (PartHolding K) → List (KeySet K) → List K → FlatState K
flat_of parts sets own = record { parts = parts_in parts; awaiting = keys_in sets; own = own }

-- the memory is taken for all that a port's timers and so many awaiting keys do: the participant is
-- ready, has room for as many rows, and at each port there is room for the keys of all rows
pub record HasPortRoom {K : Type 0} (waiting : ℕ) (sets : List (KeySet K)) (part : PartHolding K) : Type 0 where
  pub fires : part.ready ≡ true
  pub settles : waiting ≤ part.spare
  pub tells : HasRoom (length part.state.rows) sets

-- it is for the port at a place
abbrev pub HasRoomAt : {K : Type 0} → ℕ → List (PartHolding K) → List (KeySet K) → Type 0
HasRoomAt at parts sets = IfSome (slice_get parts at) (HasPortRoom (length (keys_at at (keys_in sets))) sets)

-- it is where the side is ready
abbrev pub IsReadyAs : {K : Type 0} → Option ℕ → List (PartHolding K) → List (KeySet K) → Type 0
IsReadyAs None parts sets = Unit {0}
IsReadyAs (Some at) parts sets = HasRoomAt at parts sets
