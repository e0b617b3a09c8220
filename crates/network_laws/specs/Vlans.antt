-- The law of VLANs: a VID is registered at a port exactly where a station behind the port has
-- declared it (IEEE Std 802.1Q-2018, 11.2). Either side by its own definition: one looks at the
-- registrars, the other at the tree and at what the stations' applications declare.
use Rattle.std.specs.Prelude.{◌≡◌, ◌↔◌, ℕ, Bool, true, false, ◌&&◌, length}
use Rattle.std.specs.{Option.option_map_or, List.list_any, List.range_with_len}
use Rattle.srp_base.specs.declared.numbers.EgressPort.{EgressPort}
use Rattle.tree_topology.specs.{Topology.HasNode, Topology.HasPort, Refusal.is_station, Ports.LiesBehind, Walk.is_behind}
use Rattle.mvrp.specs.{Part.registers, Side.has_own}
use Rattle.world_core.specs.{World.WorldState, World.node_at, World.is_quiet, World.is_in_step, Duty.vlan_part}

-- whether a VID is registered at a port: its registrar there is IN or LV
abbrev pub is_registered : WorldState → ℕ → EgressPort → Bool
is_registered w vid p = option_map_or (registers vid) (vlan_part p w) false

-- whether a node is a station whose application declares a VID
abbrev pub is_declared_at : WorldState → ℕ → ℕ → Bool
is_declared_at w vid y = option_map_or (λ s. is_station s.kind && has_own vid s.vlans) (node_at (record { 0 = y }) w) false

-- whether some station behind a port declares a VID
abbrev pub is_declared_behind : WorldState → ℕ → EgressPort → Bool
is_declared_behind w vid p =
    list_any (λ y. is_behind w.tree.links p y && is_declared_at w vid y) (range_with_len 1 (length w.tree.kinds))

-- some station behind a port, in the words of the tree's walks, declares a VID
abbrev pub HasDeclaredBehind : WorldState → ℕ → EgressPort → Type 0
HasDeclaredBehind w vid p = (y : ℕ) × HasNode w.tree y × LiesBehind w.tree.links p y × (is_declared_at w vid y ≡ true)

-- a VID is registered at a port exactly where a station behind it has declared it
abbrev pub VlansMatch : WorldState → Type 0
VlansMatch w = (p : EgressPort) (vid : ℕ) → HasPort w.tree p → (is_registered w vid p ≡ true) ↔ HasDeclaredBehind w vid p

-- nothing is pending, and every port is sound in each application: it has sent a LeaveAll since a
-- PDU of the application was last lost or forged on its link, or since then took one of its
-- neighbour's on a clear way (`is_sound_in` of world_core)
pub record IsAtRest (w : WorldState) : Type 0 where
  pub quiet : is_quiet w ≡ true
  pub in_step : is_in_step w ≡ true
