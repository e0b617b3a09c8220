use Rattle.std.proofs.Common.{◌∙◌}
use Rattle.scenario_generator.proofs.NetworkLemmas.{tree-ready, same-tree}
use Rattle.scenario_generator.proofs.scenario.make_tree.Goals as goal

pub accepted_tree-requires : goal.accepted_tree-requires
accepted_tree-requires c =
    let r = tree-ready c.args.draws.now c.args.nodes.now c.args.links.now c.as_slice.result.now c.as_slice-2.result.now c.requires.nodes c.requires.links
    (c.as_slice.ensures.value ∙ c.in_ok-kinds.ensures) (c.as_slice-2.ensures.value ∙ c.in_ok-ends.ensures) c.one_component.ensures.tree in
    record { accepted = r.0.0; few_nodes = r.0.1; few_links = r.0.2 }

pub returns : goal.returns
returns c =
    let r = tree-ready c.args.draws.now c.args.nodes.now c.args.links.now c.as_slice.result.now c.as_slice-2.result.now c.requires.nodes c.requires.links
    (c.as_slice.ensures.value ∙ c.in_ok-kinds.ensures) (c.as_slice-2.ensures.value ∙ c.in_ok-ends.ensures) c.one_component.ensures.tree in
    same-tree c.in_ok-tree.tree _ _ (c.in_ok-tree.ensures.kinds ∙ r.1) (c.in_ok-tree.ensures.links ∙ r.2)
