use Rattle.std.proofs.Common.{◌≡◌, ◌-◌, ◌+◌, ◌<◌, ◌++◌, ℕ, List, length, ap, ◌∙◌, arith}
use Rattle.tree_topology.specs.declared.graph.Link.{Link}
use Rattle.topology_file.specs.Plan.{Plan}
use Rattle.topology_file.specs.declared.entries.NodeEntry.{NodeEntry}
use Rattle.tree_topology.specs.Ports.{neighbours}
use Rattle.frame_flow.specs.Copies.{port_of}
use Rattle.report_words.specs.Names.{port_name}
use Rattle.journal_audit.specs.{names_at}
use Rattle.journal_audit.proofs.ListLemmas.{one_more}
use Rattle.journal_audit.proofs.verdict.push_names.Goals as goal

pub loop-k-preserved : goal.loop-k-preserved
loop-k-preserved c =
    let plan = c.args.scenario.now in
    let n : ℕ = length (neighbours plan.tree.links c.args.node.0) in
    let count = c.ports-k-end.ensures in
    let test = c.loop-k-test.true in
    let same : length (neighbours c.scenario.inside.tree.links c.args.node.0) ≡ n = ap (λ (p : Plan). length (neighbours p.tree.links c.args.node.0)) c.scenario.view_is in
    let lt : c.loop-k.k < n = omega (arith, count, test, same) in
    let links : c.scenario.inside.tree.links ≡ plan.tree.links = ap (λ (p : Plan). p.tree.links) c.scenario.view_is in
    let nodes : c.as_slice.result.now ≡ plan.nodes = c.as_slice.ensures ∙ ap (λ (p : Plan). p.nodes) c.scenario.view_is in
    let name = c.in_ok-name.ensures
    ∙ (ap (λ (ns : List NodeEntry). port_name ns c.scenario.inside.tree.links (port_of c.args.node.0 (c.loop-k.k + 1))) nodes
    ∙ ap (λ (ls : List Link). port_name plan.nodes ls (port_of c.args.node.0 (c.loop-k.k + 1))) links) in
    one_more (λ (k : ℕ). port_name plan.nodes plan.tree.links (port_of c.args.node.0 k)) (c.loop-k.k + 1) (n - c.loop-k.k) (n - (c.loop-k.k + 1))
    c.loop-k.names.items c.push.new.self.items c.from_vec.result
    (c.args.names.now.items ++ names_at plan c.args.node.0) (omega (arith, lt)) (omega (arith, lt)) (c.from_vec.ensures ∙ name) c.in_ok-push.ensures.items c.loop-k.invariant
