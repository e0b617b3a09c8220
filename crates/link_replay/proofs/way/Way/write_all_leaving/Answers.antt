use Rattle.link_replay.specs.{leaving_text}
use Rattle.link_replay.proofs.RowLines.{from_next}
use Rattle.link_replay.proofs.way.Way.write_all_leaving.Goals as goal

pub loop-i-preserved : goal.loop-i-preserved
loop-i-preserved g c =
    from_next (leaving_text g.A.WatchedApp.key_text c.args.at c.args.self.now) c.args.self.now.observer.rows c.loop-i.i _ _ _
    c.loop-i.invariant c.in_ok-write_leaving.ensures
