use Rattle.wishes.proofs.RestLemmas.{still-silent}
use Rattle.wishes.proofs.moments.still_nodes_say_nothing.Goals as goal

pub returns : goal.returns
returns c = still-silent c.still_is_silent.ensures c.still_is_silent-2.ensures
