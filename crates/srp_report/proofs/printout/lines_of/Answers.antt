use Rattle.std.proofs.Common.{◌≡◌, List, ap, ◌∙◌}
use Rattle.topology_file.specs.Plan.{Plan}
use Rattle.topology_file.specs.declared.entries.NodeEntry.{NodeEntry}
use Rattle.report_words.specs.Names.{port_name}
use Rattle.srp_report.specs.{fates_lines, flow_part}
use Rattle.srp_report.proofs.PrintoutLemmas.{one_made}
use Rattle.srp_report.proofs.printout.lines_of.Goals as goal

pub loop-flow-preserved : goal.loop-flow-preserved
loop-flow-preserved c =
    let links = c.args.tree.now.links in
    let nodes : c.as_slice.result.now ≡ c.args.scenario.now.nodes = c.as_slice.ensures ∙ ap (λ (plan : Plan). plan.nodes) c.scenario.view_is in
    let port = c.in_ok-port.ensures ∙ ap (λ (ns : List NodeEntry). port_name ns links c.in-Some.flow.at) nodes in
    one_made (flow_part c.args.scenario.now links) c.loop-flow.ports.items c.push_back.new.self.items c.in-Some.flow c.loop-flow.rest.items c.pop_front.new.self.items
    _ _ c.in_ok-push_back.ensures.items (ap (λ name. fates_lines name c.in-Some.flow.fates) port) c.in-Some.ensures.items c.loop-flow.invariant
