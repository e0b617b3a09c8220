-- The law of groups: a MAC address is registered at a port exactly where a station behind the port
-- has joined it (IEEE Std 802.1Q-2018, 10.12). Either side by its own definition: one looks at the
-- registrars, the other at the tree and at what the stations' applications have joined.
use Rattle.std.specs.Prelude.{◌≡◌, ◌↔◌, ◌-◌, ℕ, Bool, true, false, ◌&&◌, if◌then◌else◌, List, [], Option, Some, None, length, slice_get, filter_map}
use Rattle.std.specs.{Option.option_map_or, List.list_any, List.range_with_len}
use Rattle.srp_base.specs.declared.numbers.EgressPort.{EgressPort}
use Rattle.tree_topology.specs.{Topology.HasNode, Topology.HasPort, Refusal.is_station, Ports.LiesBehind, Walk.is_behind}
use Rattle.registrar.specs.declared.{Registrar.Registrar, Registrar.TheVariants.Empty}
use Rattle.registrar.specs.Table.{is_registered_in}
use Rattle.mrp_participant.specs.declared.row.Row.{Row}
use Rattle.mmrp.specs.{Macs.Part, Macs.registers, Macs.registrar_in, Macs.has_joined, Net.NetGroups, Net.node_at, Net.part_at, Net.is_quiet, Net.is_in_step}

-- the state of the registrar of a MAC address at a port, MT where there is no row
abbrev pub registrar_at : NetGroups → ℕ → EgressPort → Registrar
registrar_at w mac p = option_map_or (registrar_in mac) (part_at p w) Empty

-- the MAC address of a row, where it is registered
abbrev pub registered_mac : Row ℕ (Unit {0}) → Option ℕ
registered_mac row = if is_registered_in row.registrar then Some row.key else None

-- the MAC addresses that a participant has registered, ascending
abbrev pub registered_in : Part → List ℕ
registered_in part = filter_map registered_mac part.rows

-- the MAC addresses that are registered at a port, ascending
abbrev pub groups_at : NetGroups → EgressPort → List ℕ
groups_at w p = option_map_or registered_in (part_at p w) []

-- whether a MAC address is registered at a port: its registrar there is IN or LV
abbrev pub is_registered : NetGroups → ℕ → EgressPort → Bool
is_registered w mac p = option_map_or (registers mac) (part_at p w) false

-- whether a node of the tree is a station
abbrev pub is_station_at : NetGroups → ℕ → Bool
is_station_at w y = option_map_or is_station (slice_get w.tree.kinds (y - 1)) false

-- whether a node is a station that has joined a MAC address
abbrev pub is_joined_at : NetGroups → ℕ → ℕ → Bool
is_joined_at w mac y = is_station_at w y && option_map_or (λ s. has_joined mac s.app) (node_at (record { 0 = y }) w) false

-- whether some station behind a port has joined a MAC address
abbrev pub is_joined_behind : NetGroups → ℕ → EgressPort → Bool
is_joined_behind w mac p =
    list_any (λ y. is_behind w.tree.links p y && is_joined_at w mac y) (range_with_len 1 (length w.tree.kinds))

-- some station behind a port, in the words of the tree's walks, has joined a MAC address
abbrev pub HasJoinedBehind : NetGroups → ℕ → EgressPort → Type 0
HasJoinedBehind w mac p = (y : ℕ) × HasNode w.tree y × LiesBehind w.tree.links p y × (is_joined_at w mac y ≡ true)

-- a MAC address is registered at a port exactly where a station behind it has joined it
abbrev pub GroupsMatch : NetGroups → Type 0
GroupsMatch w = (p : EgressPort) (mac : ℕ) → HasPort w.tree p → (is_registered w mac p ≡ true) ↔ HasJoinedBehind w mac p

-- nothing is pending, and every port has sent a LeaveAll since a PDU was last lost on its link
pub record IsAtRest (w : NetGroups) : Type 0 where
  pub quiet : is_quiet w ≡ true
  pub in_step : is_in_step w ≡ true
