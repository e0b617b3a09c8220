use Rattle.std.proofs.Common.{◌≡◌, ◌<◌, ◌-◌, ℕ, Bool, false, List, [], ◌∷◌, length, refl, sym, subst, ap, ◌∙◌, arith}
use Rattle.std.specs.Prelude.{◌==◌, slice_set}
use Rattle.attribute_propagation.specs.Ports.{place_of}
use Rattle.node_core.specs.{Wire, AreShort, IsShort, Work, NodeState, box_at, after_work}
use Rattle.node_core.proofs.{Steps.both_same, Steps.made, Steps.port_kept, Steps.state_of, Steps.work_made, Boxes.box_read, Boxes.each_box, Boxes.each_read, node.Node.work.Goals.After-at}
use Rattle.node_core.proofs.node.Node.work.Goals as goal

-- a list that isn't empty has a front
is_some : (ws : List Wire) (b : Bool) → b ≡ (length ws == 0) → b ≡ false → 0 < length ws
is_some [] b is empty = cc
is_some (w ∷ ws) b is empty = omega arith

-- the node as it was, and afterwards
abbrev before : goal.After-self-1 → NodeState
before c =
    record {
      kind = c.self.inside.kind;
      bridge = c.self.inside.bridge;
      clock = c.self.inside.clock;
      vlans = c.self.inside.mvrp.state;
      streams = c.self.inside.msrp.state;
      inboxes = c.self.inside.inboxes.items;
      outboxes = c.self.inside.outboxes.items;
    }

abbrev after : goal.After-self-1 → NodeState
after c =
    record (before c) {
      vlans = c.worked_on.new.mvrp.state;
      streams = c.worked_on.new.msrp.state;
      inboxes = slice_set c.self.inside.inboxes.items (c.from-at.result - 1) c.remove.new.self;
    }

-- the place of the port
abbrev at : After-at → ℕ
at c = c.from-at.result - 1

below : (c : After-at) → at c < length c.self.inside.inboxes.items
below c = omega (arith, c.from-at.ensures, c.requires.some, c.requires.within, c.self.invariant.kept.inboxes, ap (λ (v : NodeState). length v.vlans.parts) (state_of c.self.view_is))

pub worked_on-requires-clause-now : goal.worked_on-requires-clause-now
worked_on-requires-clause-now c = omega (arith, c.self.invariant.kept.clock)

pub worked_on-requires-clause-port : goal.worked_on-requires-clause-port
worked_on-requires-clause-port c =
    record { some = c.requires.some; within = omega (arith, c.requires.within, ap (λ (v : NodeState). length v.vlans.parts) (state_of c.self.view_is)) }

pub worked_on-requires-clause-same : goal.worked_on-requires-clause-same
worked_on-requires-clause-same c = c.self.invariant.kept.same_ports

-- the inbox that is read is the port's, and has a front
read : (c : After-at) → c.index-2.result.now ≡ box_at (at c) c.self.inside.inboxes.items
read c = box_read c.self.inside.inboxes.items (at c) c.index-2.result.now (below c) c.index-2.ensures

some : (c : After-at) → 0 < length c.index-2.result.now
some c =
    let P : List Wire → Type 0 = λ ws. 0 < length ws in
    subst P (box_read c.self.inside.inboxes.items (at c) c.index.result.now (below c) c.index.ensures ∙ sym (read c))
    (is_some c.index.result.now c.is_empty.result c.is_empty.ensures c.if-is_empty.false)

-- its PDUs are short
short : (c : After-at) → AreShort c.index-2.result.now
short c = subst AreShort (sym (read c)) (each_box IsShort c.self.inside.inboxes.items (at c) c.self.invariant.kept.short_in)

pub worked_on-requires-clause-short : goal.worked_on-requires-clause-short
worked_on-requires-clause-short c = each_read IsShort c.index-2.result.now 0 c.at.result.now (some c) c.at.ensures (short c)

-- after want of memory both applications are as they were
pub invariant_of-self : goal.invariant_of-self
invariant_of-self c = both_same _ _ _ c.in_err-reply.ensures.err_vlans c.in_err-reply.ensures.err_streams c.self.invariant

-- what came of it is what the step makes
took : (c : goal.After-self-1) → after_work (place_of c.args.port) (box_at (place_of c.args.port) (before c).inboxes) (before c) ≡ (after c, c.in_ok-reply.reply)
took c =
    let i = c.from-at.result - 1 in
    let boxes = c.self.inside.inboxes.items in
    let below : i < length boxes =
    omega (arith, c.from-at.ensures, c.requires.some, c.requires.within, c.self.invariant.kept.inboxes, ap (λ (v : NodeState). length v.vlans.parts) (state_of c.self.view_is)) in
    let first : c.index.result.now ≡ box_at i boxes = box_read boxes i c.index.result.now below c.index.ensures in
    let read : c.index-2.result.now ≡ box_at i boxes = box_read boxes i c.index-2.result.now below c.index-2.ensures in
    let P : List Wire → Type 0 = λ ws. 0 < length ws in
    let some : 0 < length c.index-2.result.now =
    subst P (first ∙ sym read) (is_some c.index.result.now c.is_empty.result c.is_empty.ensures c.if-is_empty.false) in
    work_made (place_of c.args.port) i (before c) c.at.result.now c.index-2.result.now c.remove.new.self c.index_mut.result.now c.in_ok-reply.reply
    c.worked_on.new.mvrp.state c.worked_on.new.msrp.state
    (ap (λ (n : ℕ). n - 1) c.from-at.ensures) read (box_read boxes i c.index_mut.result.now below c.index_mut.ensures.value) c.remove.ensures some c.at.ensures c.in_ok-reply.ensures.ok

pub invariant_of-self-2 : goal.invariant_of-self-2
invariant_of-self-2 c =
    made _ _ _ (took c) (port_kept c.every_step_keeps_a_node_proper.ensures c.args.port Work (before c) c.args.self.now.state (state_of c.self.view_is) c.requires c.self.invariant)

pub returns-clause-ok : goal.returns-clause-ok
returns-clause-ok c =
    subst (λ (s : NodeState). after_work (place_of c.args.port) (box_at (place_of c.args.port) s.inboxes) s ≡ (after c, c.in_ok-reply.reply)) (state_of c.self.view_is) (took c)
