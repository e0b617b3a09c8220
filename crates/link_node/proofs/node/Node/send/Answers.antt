use Rattle.std.proofs.Common.{◌≡◌, ℕ, List, ap, subst, ◌∙◌}
use Rattle.std.specs.Prelude.{slice_set, IfOk, OnErr}
use Rattle.attribute_propagation.specs.Ports.{place_of}
use Rattle.link_app.specs.Wires.{NamedOctets}
use Rattle.link_node.specs.{Boxes.box_at, State.NodeState, State.state_of, Saying.IsSaying, Step.sent_octets}
use Rattle.link_node.proofs.{Saying.put_ok, Saying.put_err, Saying.refilled, node.Node.send.Given.Over}
use Rattle.link_node.proofs.node.Node.send.Goals as goal

-- the node as it was
abbrev before : (g : Over) (c : goal.After-fill_at g) → NodeState g.row.A.Denot g.row.A-Name.Denot
before g c = record { app = c.self.inside.app; inboxes = c.self.inside.inboxes.items; outboxes = c.self.inside.outboxes.items }

-- what was put into is the port's outbox
here : (g : Over) (c : goal.After-fill_at g) → c.into_vec-outbox.result.items ≡ box_at (place_of c.args.port) c.self.inside.outboxes.items
here g c =
    c.into_vec-outbox.ensures
    ∙ (c.empty_at.ensures.taken ∙ ap (λ (n : ℕ). box_at n c.self.inside.outboxes.items) c.place-at.ensures)

-- the outboxes afterwards
outs : (g : Over) (c : goal.After-fill_at g) → c.fill_at.new.outboxes.items ≡ slice_set c.self.inside.outboxes.items (place_of c.args.port) c.say-reply.new.outbox.items
outs g c =
    refilled c.self.inside.outboxes.items c.empty_at.new.outboxes.items c.fill_at.new.outboxes.items c.from_vec.result c.say-reply.new.outbox.items c.place-at.result (place_of c.args.port)
    c.place-at.ensures c.empty_at.ensures.after c.fill_at.ensures c.from_vec.ensures

said : (g : Over) (c : goal.After-fill_at g)
    → IsSaying c.args.app (g.A.LinkApp.words.octets_to_say c.args.app c.args.now (place_of c.args.port) (g.A.LinkApp.state c.self.inside.app)) (g.A.LinkApp.state c.self.inside.app)
    (g.A.LinkApp.words.after_sending c.args.app c.args.now (place_of c.args.port) (g.A.LinkApp.state c.self.inside.app)) (box_at (place_of c.args.port) c.self.inside.outboxes.items)
    c.say-reply.result (g.A.LinkApp.state c.say-reply.new.app) c.say-reply.new.outbox.items
said g c =
    subst (λ (box : List (NamedOctets g.row.A-Name.Denot)). IsSaying c.args.app (g.A.LinkApp.words.octets_to_say c.args.app c.args.now (place_of c.args.port) (g.A.LinkApp.state c.self.inside.app)) (g.A.LinkApp.state c.self.inside.app)
    (g.A.LinkApp.words.after_sending c.args.app c.args.now (place_of c.args.port) (g.A.LinkApp.state c.self.inside.app)) box
    c.say-reply.result (g.A.LinkApp.state c.say-reply.new.app) c.say-reply.new.outbox.items) (here g c) c.say-reply.ensures.said

pub returns-clause-ok : goal.returns-clause-ok
returns-clause-ok g c =
    subst (λ (s : NodeState g.row.A.Denot g.row.A-Name.Denot). IfOk c.say-reply.result (λ reply.
    sent_octets g.A.LinkApp.words c.args.app c.args.now (place_of c.args.port) (g.A.LinkApp.words.octets_to_say c.args.app c.args.now (place_of c.args.port) (g.A.LinkApp.state s.app)) (state_of g.A.LinkApp.state s)
    ≡ (state_of g.A.LinkApp.state (record { app = c.say-reply.new.app; inboxes = c.self.inside.inboxes.items; outboxes = c.fill_at.new.outboxes.items }), reply))) c.self.view_is
    (put_ok g.A.LinkApp.words c.args.app c.args.now (place_of c.args.port) (state_of g.A.LinkApp.state (before g c)) c.say-reply.result (g.A.LinkApp.state c.say-reply.new.app) c.say-reply.new.outbox.items c.fill_at.new.outboxes.items (said g c) (outs g c))

pub returns-clause-err : goal.returns-clause-err
returns-clause-err g c =
    subst (λ (s : NodeState g.row.A.Denot g.row.A-Name.Denot). OnErr c.say-reply.result
    (state_of g.A.LinkApp.state (record { app = c.say-reply.new.app; inboxes = c.self.inside.inboxes.items; outboxes = c.fill_at.new.outboxes.items }) ≡ state_of g.A.LinkApp.state s)) c.self.view_is
    (put_err g.A.LinkApp.words c.args.app c.args.now (place_of c.args.port) (state_of g.A.LinkApp.state (before g c)) c.say-reply.result (g.A.LinkApp.state c.say-reply.new.app) c.say-reply.new.outbox.items c.fill_at.new.outboxes.items (said g c) (outs g c))
