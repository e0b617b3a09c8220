use Rattle.std.proofs.Common.{refl}
use Rattle.network_laws.proofs.Paths.{found-ports}
use Rattle.wishes.proofs.way.way_from.Goals as goal

pub returns-clause-ports : goal.returns-clause-ports
returns-clause-ports c =
    let tree = c.args.world.now.tree in
    found-ports tree c.tree.result.now c.tree.ensures (c.ports.ensures tree c.keeps.ensures.tree)
    c.args.talker.0 c.args.station.0 c.in_ok-path.path c.in_ok-path.path c.in_ok-path.ensures.walk refl
