use Rattle.std.proofs.Common.{sym, subst}
use Rattle.tree_topology.specs.Topology.{HasPort}
use Rattle.node_core.specs.Holding.{states_in}
use Rattle.world_core.specs.{WorldState, Port, world_step}
use Rattle.world_core.proofs.Standing.{kept_stepped}
use Rattle.world_core.proofs.world.World.port_step.Goals as goal

pub invariant_of-self : goal.invariant_of-self
invariant_of-self c =
    let w : WorldState = record { tree = c.self.inside.tree; nodes = states_in c.self.inside.nodes.items; marks = c.self.inside.marks } in
    let e = Port c.args.node c.args.port c.args.step in
    kept_stepped c.marked_step.result (world_step e w) w.tree w.nodes (states_in c.marked_step.new.nodes.items) w.marks c.marked_step.new.marks
    c.marked_step.ensures.ok c.marked_step.ensures.err c.marked_step.ensures.err_marks
    (c.every_event_keeps_it.ensures.event e w (subst (λ (v : WorldState). HasPort v.tree (record { node = c.args.node; port = c.args.port })) (sym c.self.view_is) c.requires) tt c.self.invariant)
    c.self.invariant
