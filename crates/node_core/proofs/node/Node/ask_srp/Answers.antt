use Rattle.std.proofs.Common.{◌≡◌, sym, subst}
use Rattle.tree_topology.specs.declared.graph.NodeKind.TheVariants.{Station}
use Rattle.node_core.specs.{NodeState}
use Rattle.node_core.proofs.Steps.{srp_asked, state_of}
use Rattle.node_core.proofs.node.Node.ask_srp.Goals as goal

pub invariant_of-self : goal.invariant_of-self
invariant_of-self c =
    srp_asked c.every_step_keeps_a_node_proper.ensures _ (subst (λ (s : NodeState). s.kind ≡ Station) (sym (state_of c.self.view_is)) c.requires) c.self.invariant
    c.args.request _ _ c.srp_in_range.ensures c.ask_srp.ensures.ok c.ask_srp.ensures.err
