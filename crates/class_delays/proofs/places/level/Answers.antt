use Rattle.std.proofs.Common.{subst, sym}
use Rattle.srp_base.specs.declared.numbers.EgressPort.{EgressPort}
use Rattle.tree_topology.specs.Topology.{HasPort}
use Rattle.class_delays.proofs.places.level.Goals as goal

pub count_behind-requires : goal.count_behind-requires
count_behind-requires c =
    let P : EgressPort → Type 0 = λ t. HasPort c.args.tree.now t in
    subst P (sym c.peer.ensures) (c.keeps.ensures.ports.peer_port c.args.at c.requires)
