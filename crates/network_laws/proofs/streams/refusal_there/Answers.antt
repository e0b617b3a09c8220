use Rattle.network_laws.proofs.Paths.{found-ports}
use Rattle.network_laws.proofs.streams.refusal_there.Goals as goal

pub refusal_along-requires : goal.refusal_along-requires
refusal_along-requires c =
    let tree = c.args.world.now.tree in
    found-ports tree c.tree.result.now c.tree.ensures (c.ports.ensures tree c.keeps.ensures.tree)
    c.in-Some-talking_station.talker.0 c.args.listener.0 c.in_ok-path.path c.as_slice.result.now c.in_ok-path.ensures.walk c.as_slice.ensures
