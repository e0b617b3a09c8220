-- PDUs that wait in an inbox or an outbox.
use Rattle.std.specs.Prelude.{◌≤◌, ℕ, suc, List, ◌∷◌, ◌++◌, length, take, drop}
use Rattle.std.specs.List.{AllByRecursion}
use Rattle.node_core.specs.declared.types.Wire.{Wire}

-- a PDU has at most 1,500 octets, as a frame of 802.3 has
abbrev pub IsShort : Wire → Type 0
IsShort wire = length wire.octets ≤ 1500

-- each of these PDUs has at most 1,500 octets
abbrev pub AreShort : List Wire → Type 0
AreShort wires = AllByRecursion IsShort wires

-- the PDUs without the one of an index, counted from 0
abbrev pub without : ℕ → List Wire → List Wire
without index wires = take index wires ++ drop (suc index) wires

-- the PDUs with one more at the place of an index, counted from 0; those that stood there and
-- behind come after it
abbrev pub with_wire : ℕ → Wire → List Wire → List Wire
with_wire index wire wires = take index wires ++ wire ∷ drop index wires
