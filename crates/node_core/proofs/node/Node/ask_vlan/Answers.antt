use Rattle.std.proofs.Common.{◌≡◌, sym, subst}
use Rattle.tree_topology.specs.declared.graph.NodeKind.TheVariants.{Station}
use Rattle.node_core.specs.{NodeState}
use Rattle.node_core.proofs.Steps.{state_of, vlan_asked}
use Rattle.node_core.proofs.node.Node.ask_vlan.Goals as goal

pub invariant_of-self : goal.invariant_of-self
invariant_of-self c =
    vlan_asked c.every_step_keeps_a_node_proper.ensures _ (subst (λ (s : NodeState). s.kind ≡ Station) (sym (state_of c.self.view_is)) c.requires) c.self.invariant
    c.args.vid c.args.declared _ _ c.vid_in_range.ensures c.ask_vlan.ensures.ok c.ask_vlan.ensures.err
