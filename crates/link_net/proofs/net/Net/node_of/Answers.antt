use Rattle.std.proofs.Common.{map, sym, subst}
use Rattle.tree_topology.specs.Topology.{HasPort}
use Rattle.link_net.specs.{NetState, net_with}
use Rattle.link_net.proofs.{Acting.port_there, Standing.stands}
use Rattle.link_net.proofs.net.Net.node_of.Goals as goal

pub returns-clause-port : goal.returns-clause-port
returns-clause-port g c =
    let w : NetState g.N.LinkNode.meaning.State = net_with c.self.inside.tree c.self.inside.clock (map g.N.LinkNode.state c.self.inside.nodes.items) in
    port_there g.N.LinkNode.meaning g.N.LinkNode.state c.args.at c.self.inside.nodes.items c.place.result c.index.result.now
    (stands g.N.LinkNode.meaning w c.self.invariant c.args.at (subst (λ (v : NetState g.row.N.Denot). HasPort v.tree c.args.at) (sym c.self.view_is) c.requires))
    c.place.ensures c.index.ensures
