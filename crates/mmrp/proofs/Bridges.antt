-- No bridge has joined anything, so that whoever has joined is a station.
use Rattle.std.proofs.Common.{◌≡◌, ◌-◌, ◌&&◌, ℕ, false, List, [], refl, sym, ap, ◌∙◌, arith}
use Rattle.std.specs.Prelude.{slice_get, Option, Some, None}
use Rattle.std.specs.{Option.option_map_or, Ordering.nat_cmp}
use Rattle.srp_base.proofs.{Options.one_some, Lists.within}
use Rattle.attribute_propagation.specs.Dirty.{is_awaiting}
use Rattle.tree_topology.specs.declared.{graph.NodeKind.NodeKind, graph.NodeKind.TheVariants.Station, graph.NodeKind.TheVariants.Bridge}
use Rattle.tree_topology.specs.{Refusal.is_station, Topology.HasNode}
use Rattle.mmrp.specs.{NodeGroups, NetGroups, IsKeptNet, has_joined, is_joined_at}

pub no_bridge_joined : (w : NetGroups) → IsKeptNet w → (x : ℕ) (s : NodeGroups) → slice_get w.nodes x ≡ Some s → slice_get w.tree.kinds x ≡ Some Bridge → s.app.own ≡ []
no_bridge_joined w kept x s get bridge =
    let f = kept.nodes x s get in
    f.kept.idle (one_some (slice_get w.tree.kinds x) f.kind Bridge f.kind_is bridge)

-- a node is a station that has joined a MAC address exactly where its application has joined it
pub joined_is : (w : NetGroups) → IsKeptNet w → (mac y : ℕ) → HasNode w.tree y
    → is_joined_at w mac y ≡ option_map_or (λ s. has_joined mac s.app) (slice_get w.nodes (y - 1)) false
joined_is w kept mac y has =
    let first = has.0 in
    let last = has.1 in
    let kind = within w.tree.kinds (y - 1) (omega (arith, first, last)) in
    by kind.0 kind.1
  where
    none : slice_get w.tree.kinds (y - 1) ≡ Some Bridge → (o : Option NodeGroups) → slice_get w.nodes (y - 1) ≡ o → option_map_or (λ s. has_joined mac s.app) o false ≡ false
    none bridge None is = refl
    none bridge (Some s) is = ap (λ (own : List ℕ). is_awaiting nat_cmp mac own) (no_bridge_joined w kept (y - 1) s is bridge)

    by : (k : NodeKind) → slice_get w.tree.kinds (y - 1) ≡ Some k → is_joined_at w mac y ≡ option_map_or (λ s. has_joined mac s.app) (slice_get w.nodes (y - 1)) false
    by Station is = ap (λ o. option_map_or is_station o false && option_map_or (λ (s : NodeGroups). has_joined mac s.app) (slice_get w.nodes (y - 1)) false) is
    by Bridge is =
        ap (λ o. option_map_or is_station o false && option_map_or (λ (s : NodeGroups). has_joined mac s.app) (slice_get w.nodes (y - 1)) false) is
        ∙ sym (none is (slice_get w.nodes (y - 1)) refl)
