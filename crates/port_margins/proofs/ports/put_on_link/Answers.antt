use Rattle.std.proofs.Common.{◌≡◌, ℕ, List, [], ◌++◌, sym, ap, ◌∙◌, Option}
use Rattle.std.specs.Option.{option_map_or}
use Rattle.attribute_propagation.specs.Ports.{place_of}
use Rattle.tree_topology.specs.Topology.{Topology}
use Rattle.topology_file.specs.Plan.{Plan}
use Rattle.topology_file.specs.declared.entries.NodeEntry.{NodeEntry}
use Rattle.node_core.specs.State.{NodeState}
use Rattle.report_words.specs.Names.{port_name}
use Rattle.world_core.proofs.LinkPorts.{link-port}
use Rattle.port_margins.specs.{place_lines}
use Rattle.port_margins.proofs.ports.put_on_link.Goals as goal

pub put_place-requires-clause-port : goal.put_place-requires-clause-port
put_place-requires-clause-port c = link-port c.args.world.now c.keeps.ensures c.args.at c.requires.port c.node-node.result.now.state c.node-node.ensures

pub returns : goal.returns
returns c =
    let out = c.args.out.now.items in
    let plan = c.args.scenario.now in
    let w = c.args.world.now in
    let at = c.args.at in
    let link = c.args.link.now in
    let place = place_of at.port in
    let s = c.node-node.result.now.state in
    let nodes : c.as_slice-nodes.result.now ≡ plan.nodes = c.as_slice-nodes.ensures ∙ ap (λ (p : Plan). p.nodes) c.scenario.view_is in
    let name = c.in_ok-port.ensures
    ∙ (ap (λ (t : Topology). port_name c.as_slice-nodes.result.now t.links at) c.tree.ensures ∙ ap (λ (ns : List NodeEntry). port_name ns w.tree.links at) nodes) in
    c.in_ok-put_place.ensures
    ∙ (ap (λ (port : List ℕ). out ++ place_lines port link plan.streams place s)
    (c.as_slice.ensures.value ∙ name)
    ∙ ap (λ (o : Option NodeState). out ++ option_map_or (place_lines (port_name plan.nodes w.tree.links at) link plan.streams place) o []) (sym c.node-node.ensures))
