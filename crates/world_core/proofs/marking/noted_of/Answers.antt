use Rattle.std.proofs.Common.{Bool, sym, ap, ◌∙◌}
use Rattle.node_core.specs.declared.types.PortStep.{PortStep}
use Rattle.node_core.specs.Holding.{states_in}
use Rattle.world_core.specs.{WorldState, marks_sending, marks_stepping}
use Rattle.world_core.proofs.Standing.{stands}
use Rattle.world_core.proofs.marking.noted_of.Goals as goal

pub leaves_next-requires : goal.leaves_next-requires
leaves_next-requires c = stands (record { tree = c.args.tree.now; nodes = states_in c.args.nodes.now.items; marks = c.args.marks.now }) c.requires.kept c.args.at c.requires.port

pub returns-in-Send-clause-noted : goal.returns-in-Send-clause-noted
returns-in-Send-clause-noted c = λ reply.
    let w : WorldState = record { tree = c.args.tree.now; nodes = states_in c.args.nodes.now.items; marks = c.args.marks.now } in
    ap (λ (l : Bool). marks_sending c.args.at c.in-Send.app l reply c.args.marks.now) (c.leaves_next.ensures c.args.tree.now c.args.marks.now)
    ∙ ap (λ (s : PortStep). marks_stepping c.args.at s reply w) (sym c.in-Send.is)
