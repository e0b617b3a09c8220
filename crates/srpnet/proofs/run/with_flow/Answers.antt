use Rattle.srpnet.proofs.run.with_flow.Goals as goal

pub flow_of-requires-clause-order : goal.flow_of-requires-clause-order
flow_of-requires-clause-order c = c.requires.timeline.are.ascend

pub flow_of-requires-clause-slopes : goal.flow_of-requires-clause-slopes
flow_of-requires-clause-slopes c =
    let run = c.args.run in
    c.slopes_stay_within_limits.ensures.rates c.args.scenario.now run.journal.ticks run.world run.timeline.changes c.keeps_rules.ensures
    c.requires.legal c.requires.timeline

pub returns-clause-holds : goal.returns-clause-holds
returns-clause-holds c = c.what_holds_of.ensures c.in_ok-flow.flow.ports c.in_ok-flow.ensures
