use Rattle.std.proofs.Common.{◌≡◌, ◌+◌, suc, ℕ, List, length, sym, ap, subst, arith}
use Rattle.srp_base.proofs.Options.{opened as of_some}
use Rattle.topology_file.specs.Plan.{Plan}
use Rattle.tree_topology.specs.Topology.{HasNode}
use Rattle.world_core.specs.declared.journal.NodeSteps.{NodeSteps}
use Rattle.world_core.specs.OneByOne.{node_jobs}
use Rattle.journal_audit.specs.{IsStuck, FollowJobs, IsNodeRead, AreNodesRead}
use Rattle.journal_audit.proofs.{OptionLemmas.of_none, FollowLemmas.node, PartLemmas.nodes_more, PartLemmas.nodes_stuck}
use Rattle.journal_audit.proofs.steps.read_nodes.Goals as goal

pub returns-in_default-clause-stuck : goal.returns-in_default-clause-stuck
returns-in_default-clause-stuck c =
    let plan = c.args.scenario.now in
    let count = c.nodes-x-end.ensures in
    let test = c.loop-x-test.true in
    let same : length c.scenario.inside.tree.kinds ≡ length plan.tree.kinds = ap (λ (p : Plan). length p.tree.kinds) c.scenario.view_is in
    let known : HasNode plan.tree (c.loop-x.x + 1) = (omega arith, omega (arith, count, test, same)) in
    nodes_stuck plan c.laws_of_replay.ensures c.args.t (c.loop-x.x + 1) c.args.world.now c.loop-x.world c.args.lines.now c.loop-x.lines c.loop-x.steps.items c.read_node.new.lines known
    c.loop-x.invariant
    (of_none (IsStuck (FollowJobs plan c.args.t (c.loop-x.x + 1) (node_jobs (node (c.loop-x.x + 1)) c.loop-x.world) c.loop-x.world) c.loop-x.lines c.read_node.new.lines)
    c.in_ok-made.field-0 c.in_default.is c.in_ok-made.ensures.stuck)

pub loop-x-preserved : goal.loop-x-preserved
loop-x-preserved c =
    let plan = c.args.scenario.now in
    let x : ℕ = c.loop-x.x + 1 in
    let count = c.nodes-x-end.ensures in
    let test = c.loop-x-test.true in
    let same : length c.scenario.inside.tree.kinds ≡ length plan.tree.kinds = ap (λ (p : Plan). length p.tree.kinds) c.scenario.view_is in
    let known : HasNode plan.tree (c.loop-x.x + 1) = (omega arith, omega (arith, count, test, same)) in
    let made = c.in-Some.made in
    let one : IsNodeRead plan c.args.t (c.loop-x.x + 1) (node_jobs (node (c.loop-x.x + 1)) c.loop-x.world) c.loop-x.world c.loop-x.lines made.items c.read_node.new.world c.read_node.new.lines =
    of_some (λ m. IsNodeRead plan c.args.t (c.loop-x.x + 1) (node_jobs (node (c.loop-x.x + 1)) c.loop-x.world) c.loop-x.world c.loop-x.lines m.items c.read_node.new.world c.read_node.new.lines)
    c.in_ok-made.field-0 made c.in-Some.is c.in_ok-made.ensures.read
    in
    let later : suc (c.loop-x.x + 1) ≡ c.loop-x.x + 1 + 1 = omega arith in
    subst (λ (k : ℕ). AreNodesRead plan c.args.t k c.args.world.now c.args.lines.now c.push_steps.new.made.items c.read_node.new.world c.read_node.new.lines) later
    (subst (λ (steps : List NodeSteps). AreNodesRead plan c.args.t (suc (c.loop-x.x + 1)) c.args.world.now c.args.lines.now steps c.read_node.new.world c.read_node.new.lines)
    (sym {A = List NodeSteps} c.in_ok-push_steps.ensures)
    (nodes_more plan c.laws_of_replay.ensures c.args.t (c.loop-x.x + 1) c.args.world.now c.loop-x.world c.read_node.new.world c.args.lines.now c.loop-x.lines c.read_node.new.lines
    c.loop-x.steps.items made.items
    known c.loop-x.invariant one))
