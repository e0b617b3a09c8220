use Rattle.std.proofs.Common.{map, ap, ◌∙◌}
use Rattle.std.specs.Prelude.{nat_le}
use Rattle.link_net.proofs.Acting.{port_there, get_there, reaches_is}
use Rattle.link_net.proofs.happen.reaches.Goals as goal

pub pending-requires : goal.pending-requires
pending-requires g c = port_there g.N.LinkNode.meaning g.N.LinkNode.state c.args.at c.args.nodes.now.items c.place.result c.index.result.now c.requires c.place.ensures c.index.ensures

pub returns : goal.returns
returns g c = λ tree clock.
    ap (nat_le c.args.index) c.pending.ensures
    ∙ reaches_is g.N.LinkNode.meaning c.args.at c.args.index tree clock (map g.N.LinkNode.state c.args.nodes.now.items) (g.N.LinkNode.state c.index.result.now)
    (get_there g.N.LinkNode.meaning g.N.LinkNode.state c.args.at c.args.nodes.now.items c.place.result c.index.result.now c.requires c.place.ensures c.index.ensures)
