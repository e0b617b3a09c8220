-- That what MVRP keeps at a node are VIDs, the numbers 1 to 4,094 (IEEE Std 802.1Q-2018, 9.6).
use Rattle.std.specs.Prelude.{◌≤◌, ℕ, List}
use Rattle.std.specs.Ordering.{nat_cmp}
use Rattle.flat_side.specs.Keys as keys
use Rattle.mvrp.specs.{Part.Part, Side.Vlans}

-- the number is a VID
abbrev pub IsVid : ℕ → Type 0
IsVid vid = (1 ≤ vid) × (vid ≤ 4094)

-- each row of a participant is a VID's
abbrev pub HasVidRows : Part → Type 0
HasVidRows s = keys.HasKeyRows nat_cmp IsVid s

-- VIDs alone are in a set
abbrev pub HasVidsAlone : List ℕ → Type 0
HasVidsAlone vids = keys.HasKeysAlone nat_cmp IsVid vids

-- each key that a side keeps is a VID
abbrev pub AreOfVids : Vlans → Type 0
AreOfVids side = keys.KeepsKeys nat_cmp IsVid side

-- what a side keeps, of VIDs
abbrev pub IsProper : Vlans → Type 0
IsProper side = keys.IsProper nat_cmp IsVid side
