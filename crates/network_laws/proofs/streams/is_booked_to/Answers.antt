use Rattle.network_laws.proofs.Paths.{found-ports}
use Rattle.network_laws.proofs.streams.is_booked_to.Goals as goal

pub are_booked-requires : goal.are_booked-requires
are_booked-requires c =
    let tree = c.args.world.now.tree in
    found-ports tree c.tree.result.now c.tree.ensures (c.ports.ensures tree c.keeps.ensures.tree)
    c.in-Some.talker.0 c.args.listener.0 c.in_ok-path.path c.as_slice.result.now c.in_ok-path.ensures.walk c.as_slice.ensures
