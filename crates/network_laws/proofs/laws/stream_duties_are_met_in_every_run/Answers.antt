use Rattle.network_laws.proofs.laws.stream_duties_are_met_in_every_run.Goals as goal

pub returns : goal.returns
returns c plan ticks end w rules legal moment = (c.every_moment_keeps_it.ensures plan ticks end w rules legal moment).streams
