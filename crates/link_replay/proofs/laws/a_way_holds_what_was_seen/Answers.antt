use Rattle.std.proofs.Common.{refl}
use Rattle.link_replay.proofs.Ways.{comes, goes}
use Rattle.link_replay.proofs.laws.a_way_holds_what_was_seen.Goals as goal

pub returns-clause-comes : goal.returns-clause-comes
returns-clause-comes g c = λ way now m. comes g.A.Key.Ord.cmp way now m

pub returns-clause-goes : goal.returns-clause-goes
returns-clause-goes g c = λ way now m. goes g.A.Key.Ord.cmp way now m

pub returns-clause-passes : goal.returns-clause-passes
returns-clause-passes g c = λ way now. refl
