use Rattle.link_replay.proofs.Watching.{after-all}
use Rattle.link_replay.proofs.laws.an_observer_holds_what_the_registrar_holds.Goals as goal

pub returns-clause-new : goal.returns-clause-new
returns-clause-new g c = λ near far. record {
  near_rows = (tt, tt);
  far_rows = (tt, tt);
  near = c.what_happens_at_an_end_is_seen.ensures.new near.0 near.1 near.2;
  far = c.what_happens_at_an_end_is_seen.ensures.new far.0 far.1 far.2;
}

pub returns-clause-events : goal.returns-clause-events
returns-clause-events g c = λ w events are.
    after-all g.A.MrpApp.base g.A.MrpApp.octets g.A.Key.Ord.cmp g.A.Content.PartialEq.eq
    c.what_happens_at_an_end_is_seen.ensures.event c.what_happens_at_an_end_is_seen.ensures.rows w events are
