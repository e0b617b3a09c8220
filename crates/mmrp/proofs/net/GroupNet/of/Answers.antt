use Rattle.std.proofs.Common.{◌≡◌, ℕ, List, map, sym, subst, rules}
use Rattle.tree_topology.specs.Topology.{Topology}
use Rattle.flat_side.specs.Holding.{SideHolding}
use Rattle.link_net.specs.Kept.{AreNew}
use Rattle.link_node.specs.State.{state_of}
use Rattle.mmrp.specs.{NodeGroups, group_meaning, nodes_from}
use Rattle.mmrp.proofs.net.GroupNet.of.Goals as goal

pub new-requires : goal.new-requires
new-requires c =
    let plan = c.args.scenario.now in
    let new = c.file_nodes_are_new.ensures plan.ticks plan.tree plan.leave_time plan.periodic plan.nodes plan.links c.keeps_rules.ensures.network in
    let made : List NodeGroups = map (state_of (λ (side : SideHolding ℕ). side.state)) c.in_ok-nodes.nodes.items in
    let tree : c.in_ok-tree.tree ≡ plan.tree = search rules in
    let nodes : made ≡ nodes_from plan.leave_time plan.periodic plan.links 1 plan.nodes = search rules in
    subst (λ (t : Topology). AreNew group_meaning t made) (sym tree) (subst (AreNew group_meaning plan.tree) (sym nodes) new)
