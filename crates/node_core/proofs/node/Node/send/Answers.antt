use Rattle.std.proofs.Common.{◌≡◌, ◌<◌, ◌-◌, ℕ, List, [], length, refl, ap, sym, subst, ◌∙◌, arith}
use Rattle.std.specs.Prelude.{slice_set, IfOk, OnErr}
use Rattle.std.specs.Option.{option_map_or}
use Rattle.std.proofs.lemmas.Option.{slice_get_read}
use Rattle.srp_base.proofs.Lists.{set_set}
use Rattle.attribute_propagation.specs.Ports.{place_of}
use Rattle.node_core.specs.{Wire, NodeState, box_at, HasOneSaid, after_send, Send}
use Rattle.node_core.proofs.{Sending.with_both, Sending.put_ok, Sending.put_err, Steps.made_or_not, Steps.port_kept, Steps.state_of, node.Node.send.Goals.After-drop-index_mut}
use Rattle.node_core.proofs.node.Node.send.Goals as goal

-- the node as it was, and the place of the port
abbrev before : After-drop-index_mut → NodeState
before c =
    record {
      kind = c.self.inside.kind;
      bridge = c.self.inside.bridge;
      clock = c.self.inside.clock;
      vlans = c.self.inside.mvrp.state;
      streams = c.self.inside.msrp.state;
      inboxes = c.self.inside.inboxes.items;
      outboxes = c.self.inside.outboxes.items;
    }

abbrev at : After-drop-index_mut → ℕ
at c = c.from-at.result - 1

-- the node afterwards
abbrev after : After-drop-index_mut → NodeState
after c =
    record (before c) {
      vlans = c.put_out-reply.new.mvrp.state;
      streams = c.put_out-reply.new.msrp.state;
      outboxes = slice_set (slice_set (before c).outboxes (at c) c.replace.new.dest) (at c) c.from_vec.result;
    }

below : (c : After-drop-index_mut) → at c < length (before c).outboxes
below c = omega (arith, c.from-at.ensures, c.requires.some, c.requires.within, c.self.invariant.kept.outboxes, ap (λ (v : NodeState). length v.vlans.parts) (state_of c.self.view_is))

-- what was put into is the port's outbox
here : (c : After-drop-index_mut) → box_at (place_of c.args.port) (before c).outboxes ≡ c.into_vec-outbox.result.items
here c =
    ap (λ (n : ℕ). box_at (n - 1) (before c).outboxes) (sym c.from-at.ensures)
    ∙ (ap (λ o. option_map_or (λ (w : List Wire). w) o [])
    (slice_get_read (before c).outboxes (length (before c).outboxes) (at c) c.index_mut.result.now refl (below c) c.index_mut.ensures.value)
    ∙ (sym c.replace.ensures.value ∙ sym c.into_vec-outbox.ensures))

-- what was said into a box
abbrev Said : After-drop-index_mut → List Wire → Type 0
Said c b =
    HasOneSaid c.args.app (before c).clock (place_of c.args.port) (before c).vlans (before c).streams b c.put_out-reply.result
    c.put_out-reply.new.mvrp.state c.put_out-reply.new.msrp.state c.put_out-reply.new.outbox.items

put : (c : After-drop-index_mut) → Said c (box_at (place_of c.args.port) (before c).outboxes)
put c = subst (Said c) (sym (here c)) c.put_out-reply.ensures.put

changed : (c : After-drop-index_mut) → after c ≡ with_both (before c) (place_of c.args.port) c.put_out-reply.new.mvrp.state c.put_out-reply.new.msrp.state c.put_out-reply.new.outbox.items
changed c =
    ap (λ (bs : List (List Wire)). record (before c) { vlans = c.put_out-reply.new.mvrp.state; streams = c.put_out-reply.new.msrp.state; outboxes = bs })
    (set_set (before c).outboxes (at c) c.replace.new.dest c.from_vec.result
    ∙ (ap (λ (b : List Wire). slice_set (before c).outboxes (at c) b) c.from_vec.ensures
    ∙ ap (λ (n : ℕ). slice_set (before c).outboxes (n - 1) c.put_out-reply.new.outbox.items) c.from-at.ensures))

pub returns-clause-ok : goal.returns-clause-ok
returns-clause-ok c =
    let P : NodeState → Type 0 = λ s. IfOk c.put_out-reply.result (λ reply. after_send c.args.app (place_of c.args.port) s ≡ (after c, reply)) in
    subst P (state_of c.self.view_is)
    (put_ok (before c) (after c) c.args.app (place_of c.args.port) c.put_out-reply.result c.put_out-reply.new.mvrp.state
    c.put_out-reply.new.msrp.state c.put_out-reply.new.outbox.items (put c) (changed c))

pub returns-clause-err : goal.returns-clause-err
returns-clause-err c =
    let P : NodeState → Type 0 = λ s. OnErr c.put_out-reply.result (after c ≡ s) in
    subst P (state_of c.self.view_is)
    (put_err (before c) (after c) c.args.app (place_of c.args.port) c.put_out-reply.result c.put_out-reply.new.mvrp.state
    c.put_out-reply.new.msrp.state c.put_out-reply.new.outbox.items (put c) (changed c))

pub invariant_of-self : goal.invariant_of-self
invariant_of-self c =
    made_or_not (after_send c.args.app (place_of c.args.port) (before c)) (before c) (after c) c.put_out-reply.result
    (put_ok (before c) (after c) c.args.app (place_of c.args.port) c.put_out-reply.result c.put_out-reply.new.mvrp.state
    c.put_out-reply.new.msrp.state c.put_out-reply.new.outbox.items (put c) (changed c))
    (put_err (before c) (after c) c.args.app (place_of c.args.port) c.put_out-reply.result c.put_out-reply.new.mvrp.state
    c.put_out-reply.new.msrp.state c.put_out-reply.new.outbox.items (put c) (changed c))
    c.self.invariant
    (port_kept c.every_step_keeps_a_node_proper.ensures c.args.port (Send c.args.app) (before c) c.args.self.now.state (state_of c.self.view_is) c.requires c.self.invariant)
