-- What holds of each node of a network holds after an event, where the steps of the nodes keep it, and what waits in their boxes
-- and the marks of soundness are nothing to it.
use Rattle.std.proofs.Common.{◌≡◌, ℕ, ◌-◌, Bool, true, false, List, [], refl, subst}
use Rattle.std.specs.Prelude.{slice_get, slice_set, Option, Some, None}
use Rattle.std.specs.Option.{option_map_or}
use Rattle.srp_base.specs.declared.{numbers.NodeNo.NodeNo, numbers.EgressPort.EgressPort, mrp.App.App}
use Rattle.tree_topology.specs.Ports.{peer_of}
use Rattle.attribute_propagation.specs.Ports.{place_of}
use Rattle.attribute_propagation.proofs.Lists.{set_each}
use Rattle.node_core.specs.declared.{types.NodeEvent.NodeEvent, types.Wire.Wire}
use Rattle.node_core.specs.declared.types.NodeEvent.TheVariants as node_events
use Rattle.node_core.specs.{Links.spoilt_at, Links.with_outbox, Links.with_carried, Links.lost_at, Links.repeated_at, Links.forged_at, State.NodeState, Step.node_step}
use Rattle.world_core.specs.{WorldEvent, Request, Port, Lose, Repeat, Forge, Carry, Clock, WorldState, node_at, with_changed, step_of_node, with_unsound_ends, with_loss, after_repeat, with_forgery, app_of, reaches, outbox, world_step}
use Rattle.world_core.proofs.Nodes.{stepped_is, ticked_get}

-- something holds of each node, by its place
abbrev pub AllNodes : (ℕ → NodeState → Type 0) → WorldState → Type 0
AllNodes P w = (x : ℕ) (s : NodeState) → slice_get w.nodes x ≡ Some s → P x s

-- what waits at a node and whether it is sound is nothing to it
pub record IsOfSides (P : ℕ → NodeState → Type 0) : Type 0 where
  pub boxes : (x : ℕ) (s : NodeState) (ins outs : List (List Wire)) → P x s → P x (record s { inboxes = ins; outboxes = outs })
  pub marks : (app : App) (at x : ℕ) (s : NodeState) → P x s → P x (spoilt_at app at s)

-- the step that an event makes of a node keeps it, and the clock's step of each node
abbrev pub KeepsOwn : (ℕ → NodeState → Type 0) → WorldEvent → WorldState → Type 0
KeepsOwn P (Request n request) w = (s : NodeState) → node_at n w ≡ Some s → P (n.0 - 1) s → P (n.0 - 1) (node_step (node_events.Request request) s).0
KeepsOwn P (Port n port step) w = (s : NodeState) → node_at n w ≡ Some s → P (n.0 - 1) s → P (n.0 - 1) (node_step (node_events.Port port step) s).0
KeepsOwn P (Lose p index) w = Unit {0}
KeepsOwn P (Repeat p index) w = Unit {0}
KeepsOwn P (Forge p index wire) w = Unit {0}
KeepsOwn P (Carry p) w = Unit {0}
KeepsOwn P Clock w = (x : ℕ) (s : NodeState) → slice_get w.nodes x ≡ Some s → P x s → P x (node_step node_events.Clock s).0

module _ (P : ℕ → NodeState → Type 0) where
  pub all_changed : (n : NodeNo) (change : NodeState → NodeState) (w : WorldState)
      → ((s : NodeState) → node_at n w ≡ Some s → P (n.0 - 1) s → P (n.0 - 1) (change s)) → AllNodes P w → AllNodes P (with_changed n change w)
  all_changed n change w keeps all = by (node_at n w) refl
    where
      by : (o : Option NodeState) → node_at n w ≡ o → AllNodes P (option_map_or (λ s. record w { nodes = slice_set w.nodes (n.0 - 1) (change s) }) o w)
      by None is = all
      by (Some s) is = set_each P w.nodes (n.0 - 1) (change s) (keeps s is (all (n.0 - 1) s is)) all

  all_stepped : (n : NodeNo) (event : NodeEvent) (w : WorldState)
      → ((s : NodeState) → node_at n w ≡ Some s → P (n.0 - 1) s → P (n.0 - 1) (node_step event s).0) → AllNodes P w → AllNodes P (step_of_node n event w).0
  all_stepped n event w keeps all = subst (AllNodes P) (stepped_is n event w) (all_changed n (λ s. (node_step event s).0) w keeps all)

  all_ticked : (w : WorldState) → ((x : ℕ) (s : NodeState) → slice_get w.nodes x ≡ Some s → P x s → P x (node_step node_events.Clock s).0)
      → AllNodes P w → AllNodes P (world_step Clock w).0
  all_ticked w keeps all x t get = by (ticked_get w.nodes x t get)
    where
      by : (s : NodeState) × (slice_get w.nodes x ≡ Some s) × ((node_step node_events.Clock s).0 ≡ t) → P x t
      by (s, is, become) = subst (P x) become (keeps x s is (all x s is))

  module _ (sides : IsOfSides P) where
    all_spoilt : (app : App) (p : EgressPort) (w : WorldState) → AllNodes P w → AllNodes P (with_unsound_ends app p w)
    all_spoilt app p w all =
        let q = peer_of w.tree.links p in
        all_changed q.node (spoilt_at app (place_of q.port)) (with_changed p.node (spoilt_at app (place_of p.port)) w) (λ s is h. sides.marks app (place_of q.port) (q.node.0 - 1) s h)
        (all_changed p.node (spoilt_at app (place_of p.port)) w (λ s is h. sides.marks app (place_of p.port) (p.node.0 - 1) s h) all)

    all_lost : (p : EgressPort) (index : ℕ) (o : Option App) (w : WorldState) → AllNodes P w → AllNodes P (with_loss p index o w).0
    all_lost p index None w all = all
    all_lost p index (Some app) w all =
        all_spoilt app p (with_changed p.node (lost_at (place_of p.port) index) w)
        (all_changed p.node (lost_at (place_of p.port) index) w (λ s is h. sides.boxes (p.node.0 - 1) s (lost_at (place_of p.port) index s).inboxes s.outboxes h) all)

    all_forged : (p : EgressPort) (index : ℕ) (wire : Wire) (b : Bool) (w : WorldState) → AllNodes P w → AllNodes P (with_forgery p index wire b w).0
    all_forged p index wire false w all = all
    all_forged p index wire true w all =
        all_spoilt wire.app p (with_changed p.node (forged_at (place_of p.port) index wire) w)
        (all_changed p.node (forged_at (place_of p.port) index wire) w (λ s is h. sides.boxes (p.node.0 - 1) s (forged_at (place_of p.port) index wire s).inboxes s.outboxes h) all)

    all_repeated : (p : EgressPort) (index : ℕ) (o : Option App) (w : WorldState) → AllNodes P w → AllNodes P (after_repeat p index o w).0
    all_repeated p index None w all = all
    all_repeated p index (Some app) w all =
        all_changed p.node (repeated_at (place_of p.port) index) w (λ s is h. sides.boxes (p.node.0 - 1) s (repeated_at (place_of p.port) index s).inboxes s.outboxes h) all

    pub all_keep : (e : WorldEvent) (w : WorldState) → KeepsOwn P e w → AllNodes P w → AllNodes P (world_step e w).0
    all_keep (Request n request) w keeps all = all_stepped n (node_events.Request request) w keeps all
    all_keep (Port n port step) w keeps all = all_stepped n (node_events.Port port step) w keeps all
    all_keep (Lose p index) w keeps all = all_lost p index (app_of p index w) w all
    all_keep (Repeat p index) w keeps all = all_repeated p index (app_of p index w) w all
    all_keep (Forge p index wire) w keeps all = all_forged p index wire (reaches p index w) w all
    all_keep (Carry p) w keeps all =
        let q = peer_of w.tree.links p in
        let v = with_changed p.node (with_outbox (place_of p.port) []) w in
        all_changed q.node (with_carried (place_of q.port) (outbox p w)) v (λ s is h. sides.boxes (q.node.0 - 1) s (with_carried (place_of q.port) (outbox p w) s).inboxes s.outboxes h)
        (all_changed p.node (with_outbox (place_of p.port) []) w (λ s is h. sides.boxes (p.node.0 - 1) s s.inboxes (slice_set s.outboxes (place_of p.port) []) h) all)
    all_keep Clock w keeps all = all_ticked w keeps all
