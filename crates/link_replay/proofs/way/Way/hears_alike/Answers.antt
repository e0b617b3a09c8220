use Rattle.std.proofs.Common.{subst}
use Rattle.mrp_participant.specs.State.{AreRows}
use Rattle.link_replay.specs.{WayState}
use Rattle.link_replay.proofs.EventLists.{at-once, apart, each-heard}
use Rattle.link_replay.proofs.way.Way.hears_alike.Goals as goal

pub returns-clause-way : goal.returns-clause-way
returns-clause-way g c = at-once g.A.Key.Ord.cmp c.args.at c.args.until c.args.events.now c.args.self.now c.requires.until

pub returns-clause-text : goal.returns-clause-text
returns-clause-text g c =
    let are : AreRows g.A.Key.Ord.cmp c.args.self.now.observer.rows
    = subst (λ (w : WayState g.row.A-Key.Denot g.row.A-Content.Denot). AreRows g.A.Key.Ord.cmp w.observer.rows) c.self.view_is c.keeps.ensures in
    each-heard g.A.Key.Ord.cmp g.met.A.Key.Ord.total g.A.Content.PartialEq.eq g.A.WatchedApp.key_text g.A.WatchedApp.content_text
    c.rows_stay_rows.ensures.receive c.each_key_after_receive.ensures c.args.at c.args.self.now c.args.events.now are
    (apart g.A.Key.Ord.cmp g.met.A.Key.Ord.total c.args.events.now c.requires.keys)
