-- The sorted events ascend, so the given ones have one of each key.
use Rattle.std.proofs.Common.{subst}
use Rattle.mrp_participant.specs.Lookup.{Ascends}
use Rattle.link_replay.proofs.EventLists.{one-of-each}
use Rattle.link_replay.proofs.way.is_one_of_each.Goals as goal

pub returns : goal.returns
returns g c = λ is.
    one-of-each g.K.Ord.cmp g.met.K.Ord.total c.args.events.now _ _ c.in_ok-sorted.ensures.items c.sort_by_key.ensures.permutation
    (subst (Ascends g.K.Ord.cmp (λ e. e.1)) c.as_slice.ensures.value (c.keys_ascend.ensures is))
