-- A station has one port.
use Rattle.std.proofs.Common.{◌≡◌, ◌≢◌, ℕ, ◌-◌, true, false, ◌&&◌, length, refl, ap, ◌∙◌, inl, inr, arith}
use Rattle.std.specs.Prelude.{get_or, Option, Some, None}
use Rattle.std.specs.Option.{option_map_or}
use Rattle.std.proofs.lemmas.{Bool.and_parts, Bool.cases_eq, Option.get_or_from_slice_get}
use Rattle.srp_base.specs.declared.numbers.{EgressPort.EgressPort, StreamId.StreamId}
use Rattle.tree_topology.specs.{Topology.HasNode, Topology.HasPort, Ports.neighbours, Refusal.is_station}
use Rattle.tree_topology.specs.declared.graph.NodeKind.{NodeKind}
use Rattle.tree_topology.specs.declared.graph.NodeKind.TheVariants.{Bridge, Station}
use Rattle.msrp.specs.Side.{has_listen}
use Rattle.node_core.specs.State.{NodeState}
use Rattle.world_core.specs.{Kept.IsKeptWorld, World.WorldState}
use Rattle.network_laws.specs.{is_listened_at, node_of}

station-is : (kind : NodeKind) → is_station kind ≡ true → kind ≡ Station
station-is Station h = refl
station-is Bridge h = cc

pub first-port : (w : WorldState) (stream : StreamId) → IsKeptWorld w → (l : ℕ) → HasNode w.tree l → is_listened_at w stream l ≡ true
    → (q : EgressPort) → HasPort w.tree q → q.node.0 ≡ l → q.port.0 ≡ 1
first-port w stream kept l node listens q has at = by (node_of l w) refl listens
  where
    one : length (neighbours w.tree.links l) ≢ 1 → ((d : NodeKind) → get_or w.tree.kinds (l - 1) d ≡ Station) → ⊥
    one many kind = kept.tree.leaf_stations l node (kind, many)

    by : (o : Option NodeState) → node_of l w ≡ o → option_map_or (λ (s : NodeState). is_station s.kind && has_listen stream s.streams) o false ≡ true → q.port.0 ≡ 1
    by None is h = cc
    by (Some s) is h =
        let station = station-is s.kind (and_parts (is_station s.kind) (has_listen stream s.streams) h).0 in
        let kind = (kept.nodes (l - 1) s is).kind in
        let each : (d : NodeKind) → get_or w.tree.kinds (l - 1) d ≡ Station = λ d. get_or_from_slice_get w.tree.kinds (l - 1) s.kind d kind ∙ station in
        let here = ap (λ (y : ℕ). length (neighbours w.tree.links y)) at in
        elim (cases_eq (length (neighbours w.tree.links l)) 1) [
          | inl e ↦ omega (arith, has.1, has.2, here, e)
          | inr many ↦ absurd (one many each)
        ]
