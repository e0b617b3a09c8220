use Rattle.network_laws.proofs.{StreamRest.are-still, StreamLaw.failed-there, StreamLaw.missed, FirstPorts.first-port}
use Rattle.network_laws.proofs.cause_laws.who_misses_a_stream_has_a_failure.Goals as goal

pub returns : goal.returns
returns c w stream l t kept rest once talker node listens mute off =
    let still = are-still w kept rest (c.ports.ensures w.tree kept.tree) c.a_still_marked_link_registers_what_is_declared.ensures.near in
    let d = missed w still stream c.decisions_stand.ensures.kept once l t node listens mute talker off in
    record {
      talker = d.0;
      failure = d.1;
      registered = failed-there w still stream c.decisions_stand.ensures.kept once l d.0 d.1 d.2
          (first-port w stream kept l node listens d.2.q d.2.port d.2.node_is);
    }
