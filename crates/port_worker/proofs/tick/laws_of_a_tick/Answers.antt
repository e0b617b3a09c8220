use Rattle.port_worker.proofs.tick.laws_of_a_tick.Goals as goal

pub returns : goal.returns
returns c =
    let laws = c.what_is_allowed_may_happen.ensures in
    record { all_stay = laws.all_stay; clock = laws.clock; scripted = laws.scripted; carried = laws.carried }
