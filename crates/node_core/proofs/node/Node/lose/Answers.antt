use Rattle.std.proofs.Common.{◌≡◌, ◌<◌, ◌-◌, ℕ, List, length, sym, subst, ap, ◌∙◌, arith}
use Rattle.std.specs.Prelude.{slice_set}
use Rattle.node_core.specs.{Wire, without, NodeState, box_at, lost_at, IsProperNode}
use Rattle.node_core.proofs.{Boxes.box_read, Steps.state_of, node.Node.lose.Goals.After-self-1}
use Rattle.node_core.proofs.node.Node.lose.Goals as goal

-- the node as it was, and the place of the port
abbrev before : After-self-1 → NodeState
before c =
    record {
      kind = c.self.inside.kind;
      bridge = c.self.inside.bridge;
      clock = c.self.inside.clock;
      vlans = c.self.inside.mvrp.state;
      streams = c.self.inside.msrp.state;
      inboxes = c.self.inside.inboxes.items;
      outboxes = c.self.inside.outboxes.items;
    }

abbrev at : After-self-1 → ℕ
at c = c.from-at.result - 1

below : (c : After-self-1) → at c < length (before c).inboxes
below c = omega (arith, c.from-at.ensures, c.requires.some, c.requires.within, c.self.invariant.kept.inboxes, ap (λ (v : NodeState). length v.vlans.parts) (state_of c.self.view_is))

-- the inbox is without the PDU
left : (c : After-self-1) → c.remove.new.self ≡ without c.args.index (box_at (at c) (before c).inboxes)
left c = c.remove.ensures ∙ ap (without c.args.index) (box_read (before c).inboxes (at c) c.index_mut.result.now (below c) c.index_mut.ensures.value)

pub returns-clause-after : goal.returns-clause-after
returns-clause-after c =
    ap (λ (b : List Wire). record (before c) { inboxes = slice_set (before c).inboxes (at c) b }) (left c)
    ∙ (ap (λ (v : NodeState). lost_at (at c) c.args.index v) (state_of c.self.view_is) ∙ ap (λ (n : ℕ). lost_at (n - 1) c.args.index c.args.self.now.state) c.from-at.ensures)

pub invariant_of-self : goal.invariant_of-self
invariant_of-self c =
    subst IsProperNode (ap (λ (b : List Wire). record (before c) { inboxes = slice_set (before c).inboxes (at c) b }) (sym (left c)))
    (c.links_keep_a_node_proper.ensures.lost (at c) c.args.index (before c) c.self.invariant)
