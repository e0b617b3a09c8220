use Rattle.port_worker.proofs.tick.laws_of_steps.Goals as goal

pub returns : goal.returns
returns c =
    let apart = c.steps_made_apart_keep_it.ensures in
    record { ports = c.ports.ensures; event = c.every_event_keeps_it.ensures.event; one = apart.one; own = apart.own }
