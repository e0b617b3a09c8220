use Rattle.std.proofs.Common.{map, ◌∙◌}
use Rattle.link_net.proofs.Acting.{port_there, get_there, name_is}
use Rattle.link_net.proofs.happen.name_in.Goals as goal

pub name_at-requires : goal.name_at-requires
name_at-requires g c = port_there g.N.LinkNode.meaning g.N.LinkNode.state c.args.at c.args.nodes.now.items c.place.result c.index.result.now c.requires c.place.ensures c.index.ensures

pub returns : goal.returns
returns g c = λ tree clock.
    c.name_at.ensures
    ∙ name_is g.N.LinkNode.meaning c.args.at c.args.index tree clock (map g.N.LinkNode.state c.args.nodes.now.items) (g.N.LinkNode.state c.index.result.now)
    (get_there g.N.LinkNode.meaning g.N.LinkNode.state c.args.at c.args.nodes.now.items c.place.result c.index.result.now c.requires c.place.ensures c.index.ensures)
