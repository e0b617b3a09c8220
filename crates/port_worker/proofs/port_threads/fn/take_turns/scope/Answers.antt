use Rattle.port_worker.proofs.port_threads.fn.take_turns.scope.Goals as goal

pub returns : goal.returns
returns g c = c.in_ok-turns.ensures c.captures.hub.now c.captures.jobs.now c.in_ok-begun.ensures
