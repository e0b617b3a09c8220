-- In which order the code goes over the ports: by level, so that each comes after those that send
-- into its node. No public contract names these words.
use Rattle.std.specs.Prelude.{◌≡◌, ◌<◌, List, map, All, Some}
use Rattle.std.specs.List.{Sorted.IsPermutation}
use Rattle.srp_base.specs.declared.numbers.EgressPort.{EgressPort}
use Rattle.tree_topology.specs.{Topology.Topology, Topology.HasPort}
use Rattle.frame_flow.specs.declared.place.Place.{Place}
use Rattle.frame_flow.specs.Levels.{level_at, level_of}
use Rattle.class_delays.specs.declared.{places.Ranked.Ranked, delays.PortDelays.PortDelays}
use Rattle.class_delays.specs.Given.{ClassSetting}
use Rattle.class_delays.specs.Table.{delays_at}
use Rattle.class_delays.specs.Reckoned.{IsReckoned}

-- a port with its level
abbrev pub ranked_place : Topology → Place → Ranked
ranked_place tree place = record { level = level_of tree place; place = place }

-- ports with their levels, in some order
abbrev pub AreRanked : Topology → List Place → List Ranked → Type 0
AreRanked tree places xs = IsPermutation (map (ranked_place tree) places) xs

-- each of what is reckoned comes of the others
abbrev pub AreReckoned : ClassSetting → List PortDelays → Type 0
AreReckoned a ports = All (IsReckoned a ports) ports

-- it is there for each port of a lower level than one, and so for those that send into its node
abbrev pub AreBefore : ClassSetting → List PortDelays → EgressPort → Type 0
AreBefore a ports p =
    (q : EgressPort) → HasPort a.setting.tree q
    → level_at a.setting.tree q < level_at a.setting.tree p
    → (e : PortDelays) × (delays_at ports q ≡ Some e)

-- and for each port
abbrev pub AreAllThere : List Place → List PortDelays → Type 0
AreAllThere places ports = All (λ x. (e : PortDelays) × (delays_at ports x.at ≡ Some e)) places

-- and for each of these
abbrev pub AreThere : List Ranked → List PortDelays → Type 0
AreThere xs ports = All (λ x. (e : PortDelays) × (delays_at ports x.place.at ≡ Some e)) xs
