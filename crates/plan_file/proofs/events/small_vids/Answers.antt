use Rattle.plan_file.proofs.EventLemmas.{vids-small}
use Rattle.plan_file.proofs.events.small_vids.Goals as goal

pub returns-clause-small : goal.returns-clause-small
returns-clause-small c = vids-small c.args.streams.now c.in_ok-vids.vids.items c.in_ok-vids.ensures
