use Rattle.link_capture.proofs.laws.laws_of_ticks.Goals as goal

pub returns : goal.returns
returns c = c.laws_of_all_ticks.ensures c.args.scenario.now c.keeps_rules.ensures
