use Rattle.node_core.proofs.Steps.{streams_spoilt, vlans_spoilt}
use Rattle.node_core.proofs.node.Node.spoil.Goals as goal

pub invariant_of-self : goal.invariant_of-self
invariant_of-self c = vlans_spoilt c.links_keep_a_node_proper.ensures.spoilt _ c.self.invariant _ _ c.spoil_vlans.ensures

pub invariant_of-self-in-Msrp : goal.invariant_of-self-in-Msrp
invariant_of-self-in-Msrp c = streams_spoilt c.links_keep_a_node_proper.ensures.spoilt _ c.self.invariant _ _ c.spoil_streams.ensures
