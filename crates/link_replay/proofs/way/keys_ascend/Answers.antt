-- A key below the next is below each later one.
use Rattle.std.proofs.Common.{arith}
use Rattle.link_replay.proofs.EventLists.{ascending}
use Rattle.link_replay.proofs.way.keys_ascend.Goals as goal

pub returns : goal.returns
returns g c = λ _. ascending g.K.Ord.cmp g.met.K.Ord.total c.args.events.now (λ k d l. c.loop-i.invariant k d (omega (arith, l)))
