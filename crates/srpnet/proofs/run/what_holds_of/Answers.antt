use Rattle.world_core.specs.Limits.{caps_at}
use Rattle.srpnet.proofs.run.what_holds_of.Goals as goal

pub returns : goal.returns
returns c = λ flows flow.
    let plan = c.args.scenario.now in
    let run = c.args.run.now in
    let legal = c.requires.legal in
    let timeline = c.requires.timeline in
    let rules = c.keeps_rules.ensures in
    let changes = run.timeline.changes in
    let rates = c.slopes_stay_within_limits.ensures.rates plan run.journal.ticks run.world changes rules legal timeline in
    let class_a = c.slopes_stay_within_limits.ensures.class_a plan run.journal.ticks run.world changes rules legal timeline in
    let both = c.slopes_stay_within_limits.ensures.both plan run.journal.ticks run.world changes rules legal timeline in
    record {
      moments = λ w moment. c.what_holds_of_every_run.ensures plan run.journal.ticks run.world w rules legal moment;
      windows = c.every_window_stays_within.ensures.caps plan changes (λ p. (caps_at plan p).class_a) flows rules timeline.are.ascend rates class_a flow;
      class_b = c.class_b_stays_within_at_every_port.ensures plan changes flows rules timeline.are.ascend rates
          (λ k d below. (class_a k d below, both k d below)) flow;
      service = c.each_class_gets_its_bandwidth_at_every_port.ensures plan changes flows rules timeline.are.ascend rates
          (λ k d below. (class_a k d below, both k d below)) flow;
    }
