use Rattle.std.proofs.Common.{ap, ◌∙◌}
use Rattle.tree_topology.specs.{Topology.Topology, Ports.ends_of}
use Rattle.world_core.proofs.LinksCarried.{both_carried}
use Rattle.world_core.proofs.carry.carry_link.Goals as goal

pub returns : goal.returns
returns c =
    both_carried c.args.world.now.tree c.args.link.0 c.ends.result c.args.world.now c.step.new.self c.step-2.new.self c.in_ok-step.field-0 c.in_ok-step-2.field-0
    (c.ends.ensures ∙ ap (λ (t : Topology). ends_of t.links c.args.link.0) c.tree-2.ensures) c.in_ok-step.ensures.ok c.in_ok-step-2.ensures.ok
