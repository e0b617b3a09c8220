use Rattle.std.proofs.Common.{sym, ap, ◌∙◌}
use Rattle.srp_base.proofs.Arithmetic.{if_ok}
use Rattle.node_core.specs.Holding.{states_in}
use Rattle.world_core.specs.{WorldEvent, Request, Carry, Clock, world_step}
use Rattle.world_core.proofs.Standing.{stands, peer_stands, each_node, can_as, asked_there, kept_either}
use Rattle.world_core.proofs.world.World.step.Goals as goal

pub make_step-requires-clause-some : goal.make_step-requires-clause-some
make_step-requires-clause-some c = (can_as c.args.event (Request c.in-Request.node c.in-Request.request) c.args.self.now
    (record { tree = c.self.inside.tree; nodes = states_in c.self.inside.nodes.items; marks = c.self.inside.marks }) c.in-Request.is (sym c.self.view_is) c.requires).0

pub make_step-requires-clause-few : goal.make_step-requires-clause-few
make_step-requires-clause-few c =
    asked_there c.in-Request.node c.in-Request.request (record { tree = c.self.inside.tree; nodes = states_in c.self.inside.nodes.items; marks = c.self.inside.marks })
    (can_as c.args.event (Request c.in-Request.node c.in-Request.request) c.args.self.now
    (record { tree = c.self.inside.tree; nodes = states_in c.self.inside.nodes.items; marks = c.self.inside.marks }) c.in-Request.is (sym c.self.view_is) c.requires)

pub carry-requires-clause-here : goal.carry-requires-clause-here
carry-requires-clause-here c = stands (record { tree = c.self-in-Carry.inside.tree; nodes = states_in c.self-in-Carry.inside.nodes.items; marks = c.self-in-Carry.inside.marks })
    c.self-in-Carry.invariant c.in-Carry.at (can_as c.args.event (Carry c.in-Carry.at) c.args.self.now
    (record { tree = c.self-in-Carry.inside.tree; nodes = states_in c.self-in-Carry.inside.nodes.items; marks = c.self-in-Carry.inside.marks }) c.in-Carry.is (sym c.self-in-Carry.view_is) c.requires)

pub carry-requires-clause-there : goal.carry-requires-clause-there
carry-requires-clause-there c = peer_stands (record { tree = c.self-in-Carry.inside.tree; nodes = states_in c.self-in-Carry.inside.nodes.items; marks = c.self-in-Carry.inside.marks }) c.self-in-Carry.invariant
    (c.ports.ensures c.self-in-Carry.inside.tree c.self-in-Carry.invariant.tree) c.in-Carry.at (can_as c.args.event (Carry c.in-Carry.at) c.args.self.now
    (record { tree = c.self-in-Carry.inside.tree; nodes = states_in c.self-in-Carry.inside.nodes.items; marks = c.self-in-Carry.inside.marks }) c.in-Carry.is (sym c.self-in-Carry.view_is) c.requires)

pub tick_all-requires : goal.tick_all-requires
tick_all-requires c = each_node _ (states_in c.self-in-Clock.inside.nodes.items) (can_as c.args.event (Clock) c.args.self.now
    (record { tree = c.self-in-Clock.inside.tree; nodes = states_in c.self-in-Clock.inside.nodes.items; marks = c.self-in-Clock.inside.marks }) c.in-Clock.is (sym c.self-in-Clock.view_is) c.requires)

pub invariant_of-self-in-Carry : goal.invariant_of-self-in-Carry
invariant_of-self-in-Carry c =
    kept_either c.carry.result (world_step (Carry c.in-Carry.at) (record { tree = c.self-in-Carry.inside.tree; nodes = states_in c.self-in-Carry.inside.nodes.items; marks = c.self-in-Carry.inside.marks }))
    c.self-in-Carry.inside.tree c.self-in-Carry.inside.marks (states_in c.self-in-Carry.inside.nodes.items) (states_in c.carry.new.nodes.items)
    (if_ok c.carry.result _ _ (λ reply h. h c.self-in-Carry.inside.marks) c.carry.ensures.ok) c.carry.ensures.err
    (c.every_event_keeps_it.ensures.event (Carry c.in-Carry.at) (record { tree = c.self-in-Carry.inside.tree; nodes = states_in c.self-in-Carry.inside.nodes.items; marks = c.self-in-Carry.inside.marks })
    (can_as c.args.event (Carry c.in-Carry.at) c.args.self.now
    (record { tree = c.self-in-Carry.inside.tree; nodes = states_in c.self-in-Carry.inside.nodes.items; marks = c.self-in-Carry.inside.marks }) c.in-Carry.is (sym c.self-in-Carry.view_is) c.requires) tt c.self-in-Carry.invariant)
    c.self-in-Carry.invariant

pub returns-in-Carry-clause-ok : goal.returns-in-Carry-clause-ok
returns-in-Carry-clause-ok c =
    if_ok c.carry.result _ _
    (λ reply h. ap (λ (e : WorldEvent). world_step e c.args.self.now) c.in-Carry.is ∙ (ap (world_step (Carry c.in-Carry.at)) (sym c.self-in-Carry.view_is) ∙ h c.self-in-Carry.inside.marks)) c.carry.ensures.ok

pub invariant_of-self-in-Clock : goal.invariant_of-self-in-Clock
invariant_of-self-in-Clock c =
    kept_either c.tick_all.result (world_step Clock (record { tree = c.self-in-Clock.inside.tree; nodes = states_in c.self-in-Clock.inside.nodes.items; marks = c.self-in-Clock.inside.marks }))
    c.self-in-Clock.inside.tree c.self-in-Clock.inside.marks (states_in c.self-in-Clock.inside.nodes.items) (states_in c.tick_all.new.nodes.items)
    (if_ok c.tick_all.result _ _ (λ reply h. h c.self-in-Clock.inside.tree c.self-in-Clock.inside.marks) c.tick_all.ensures.ok) c.tick_all.ensures.err
    (c.every_event_keeps_it.ensures.event Clock (record { tree = c.self-in-Clock.inside.tree; nodes = states_in c.self-in-Clock.inside.nodes.items; marks = c.self-in-Clock.inside.marks })
    (can_as c.args.event Clock c.args.self.now (record { tree = c.self-in-Clock.inside.tree; nodes = states_in c.self-in-Clock.inside.nodes.items; marks = c.self-in-Clock.inside.marks }) c.in-Clock.is
    (sym c.self-in-Clock.view_is) c.requires) tt c.self-in-Clock.invariant)
    c.self-in-Clock.invariant

pub returns-in-Clock-clause-ok : goal.returns-in-Clock-clause-ok
returns-in-Clock-clause-ok c =
    if_ok c.tick_all.result _ _
    (λ reply h. ap (λ (e : WorldEvent). world_step e c.args.self.now) c.in-Clock.is ∙ (ap (world_step Clock) (sym c.self-in-Clock.view_is) ∙ h c.self-in-Clock.inside.tree c.self-in-Clock.inside.marks)) c.tick_all.ensures.ok
