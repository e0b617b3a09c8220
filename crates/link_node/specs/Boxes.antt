-- The PDUs that wait at the link ports of a node, in the order of the ports.
use Rattle.std.specs.Prelude.{ℕ, ◌==◌, Bool, List, [], length, slice_get}
use Rattle.std.specs.{Option.option_map_or, List.list_all}

-- the PDUs in a list of boxes at a place
abbrev pub box_at : {X : Type 0} → ℕ → List (List X) → List X
box_at at boxes = option_map_or (λ pdus. pdus) (slice_get boxes at) []

-- whether no PDU waits in any of these boxes
abbrev pub are_empty : {X : Type 0} → List (List X) → Bool
are_empty boxes = list_all (λ pdus. length pdus == 0) boxes
