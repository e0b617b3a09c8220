use Rattle.std.proofs.Common.{◌≡◌, ◌<◌, ◌-◌, ℕ, List, length, ap, ◌∙◌, arith}
use Rattle.std.specs.Prelude.{slice_set}
use Rattle.mrp_participant.specs.Link.{with_repeat}
use Rattle.node_core.specs.{Wire, NodeState, box_at, repeated_at}
use Rattle.attribute_propagation.specs.Ports.{place_of}
use Rattle.node_core.proofs.{Boxes.box_read, Steps.is_below, Steps.of_inbox, Steps.state_of, node.Node.repeat.Goals.In_ok-repeat}
use Rattle.node_core.proofs.node.Node.repeat.Goals as goal

-- the node as it was, and the place of the port
abbrev before : In_ok-repeat → NodeState
before c =
    record {
      kind = c.self.inside.kind;
      bridge = c.self.inside.bridge;
      clock = c.self.inside.clock;
      vlans = c.self.inside.mvrp.state;
      streams = c.self.inside.msrp.state;
      inboxes = c.self.inside.inboxes.items;
      outboxes = c.self.inside.outboxes.items;
    }

abbrev at : In_ok-repeat → ℕ
at c = c.from-at.result - 1

below : (c : In_ok-repeat) → at c < length (before c).inboxes
below c = omega (arith, c.from-at.ensures, c.requires.some, c.requires.within, c.self.invariant.kept.inboxes, ap (λ (v : NodeState). length v.vlans.parts) (state_of c.self.view_is))

pub returns-clause-after : goal.returns-clause-after
returns-clause-after c =
    ap (λ (b : List Wire). record (before c) { inboxes = slice_set (before c).inboxes (at c) b })
    (c.in_ok-repeat.ensures.ok ∙ ap (with_repeat c.args.index) (box_read (before c).inboxes (at c) c.index_mut.result.now (below c) c.index_mut.ensures.value))
    ∙ (ap (λ (v : NodeState). repeated_at (at c) c.args.index v) (state_of c.self.view_is) ∙ ap (λ (n : ℕ). repeated_at (n - 1) c.args.index c.args.self.now.state) c.from-at.ensures)

pub returns-clause-done : goal.returns-clause-done
returns-clause-done c =
    let first : c.index.result.now ≡ box_at (place_of c.args.port) (before c).inboxes =
    box_read (before c).inboxes (at c) c.index.result.now (below c) c.index.ensures ∙ ap (λ (n : ℕ). box_at (n - 1) (before c).inboxes) c.from-at.ensures in
    let many : length c.index.result.now ≡ length (box_at (place_of c.args.port) c.args.self.now.state.inboxes) =
    ap (λ (ws : List Wire). length ws) first ∙ ap (λ (s : NodeState). length (box_at (place_of c.args.port) s.inboxes)) (state_of c.self.view_is) in
    is_below c.args.index (length (box_at (place_of c.args.port) c.args.self.now.state.inboxes)) (omega (arith, many, c.len.ensures, c.if-len-index.false))

pub invariant_of-self-2 : goal.invariant_of-self-2
invariant_of-self-2 c =
    of_inbox (before c) (at c) c.repeat.new.self (with_repeat c.args.index (box_at (at c) (before c).inboxes))
    (c.in_ok-repeat.ensures.ok ∙ ap (with_repeat c.args.index) (box_read (before c).inboxes (at c) c.index_mut.result.now (below c) c.index_mut.ensures.value))
    (c.links_keep_a_node_proper.ensures.repeated (at c) c.args.index (before c) c.self.invariant)
