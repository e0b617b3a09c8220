use Rattle.tree_topology.specs.Ports.{peer_of}
use Rattle.node_core.specs.Holding.{states_in}
use Rattle.world_core.proofs.Happenings.{not_reached, forge_is}
use Rattle.world_core.proofs.happen.forge.Goals as goal

pub returns-then-not-branch-clause-ok : goal.returns-then-not-branch-clause-ok
returns-then-not-branch-clause-ok c = λ marks.
    not_reached c.args.at c.args.index c.args.wire c.args.tree.now marks (states_in c.args.nodes.now.items) _ _
    c.in_ok-forge_at.field-0 c.if-not-branch.true (c.in_ok-forge_at.ensures.done c.args.tree.now marks)
    c.in_ok-forge_at.ensures.after

pub spoil_ends-requires-clause-there : goal.spoil_ends-requires-clause-there
spoil_ends-requires-clause-there c = c.in_ok-forge_at.ensures.stand (peer_of c.args.tree.now.links c.args.at) c.requires.there

pub returns-clause-ok : goal.returns-clause-ok
returns-clause-ok c = λ marks.
    forge_is c.args.at c.args.index c.args.wire c.args.tree.now marks (states_in c.args.nodes.now.items) _ _
    c.in_ok-forge_at.field-0 c.if-not-branch.false (c.in_ok-forge_at.ensures.done c.args.tree.now marks)
    c.in_ok-forge_at.ensures.after (c.spoil_ends.ensures marks)
