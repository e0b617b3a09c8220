use Rattle.std.proofs.Common.{◌≡◌, ◌<◌, ◌-◌, ℕ, List, length, ap, ◌∙◌, arith}
use Rattle.std.specs.Prelude.{slice_set}
use Rattle.node_core.specs.{Wire, with_wire, NodeState, box_at, forged_at}
use Rattle.attribute_propagation.specs.Ports.{place_of}
use Rattle.node_core.proofs.{Boxes.box_read, Steps.is_upto, Steps.state_of, node.Node.forge.Goals.In_ok-insert}
use Rattle.node_core.proofs.node.Node.forge.Goals as goal

-- the node as it was, and the place of the port
abbrev before : In_ok-insert → NodeState
before c =
    record {
      kind = c.self.inside.kind;
      bridge = c.self.inside.bridge;
      clock = c.self.inside.clock;
      vlans = c.self.inside.mvrp.state;
      streams = c.self.inside.msrp.state;
      inboxes = c.self.inside.inboxes.items;
      outboxes = c.self.inside.outboxes.items;
    }

abbrev at : In_ok-insert → ℕ
at c = c.from-at.result - 1

below : (c : In_ok-insert) → at c < length (before c).inboxes
below c = omega (arith, c.from-at.ensures, c.requires.port.some, c.requires.port.within, c.self.invariant.kept.inboxes, ap (λ (v : NodeState). length v.vlans.parts) (state_of c.self.view_is))

pub returns-clause-after : goal.returns-clause-after
returns-clause-after c =
    ap (λ (b : List Wire). record (before c) { inboxes = slice_set (before c).inboxes (at c) b })
    (c.in_ok-insert.ensures.ok ∙ ap (with_wire c.args.index c.args.wire) (box_read (before c).inboxes (at c) c.index_mut.result.now (below c) c.index_mut.ensures.value))
    ∙ (ap (λ (v : NodeState). forged_at (at c) c.args.index c.args.wire v) (state_of c.self.view_is)
    ∙ ap (λ (n : ℕ). forged_at (n - 1) c.args.index c.args.wire c.args.self.now.state) c.from-at.ensures)

pub returns-clause-done : goal.returns-clause-done
returns-clause-done c =
    let first : c.index.result.now ≡ box_at (place_of c.args.port) (before c).inboxes =
    box_read (before c).inboxes (at c) c.index.result.now (below c) c.index.ensures ∙ ap (λ (n : ℕ). box_at (n - 1) (before c).inboxes) c.from-at.ensures in
    let many : length c.index.result.now ≡ length (box_at (place_of c.args.port) c.args.self.now.state.inboxes) =
    ap (λ (ws : List Wire). length ws) first ∙ ap (λ (s : NodeState). length (box_at (place_of c.args.port) s.inboxes)) (state_of c.self.view_is) in
    is_upto c.args.index (length (box_at (place_of c.args.port) c.args.self.now.state.inboxes)) (omega (arith, many, c.len.ensures, c.if-len-index.false))
