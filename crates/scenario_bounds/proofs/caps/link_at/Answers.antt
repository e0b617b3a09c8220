use Rattle.std.proofs.Common.{sym}
use Rattle.scenario_bounds.proofs.PlaceLemmas.{link_caps}
use Rattle.scenario_bounds.proofs.caps.link_at.Goals as goal

pub returns-clause-caps : goal.returns-clause-caps
returns-clause-caps c = link_caps c.args.scenario.now c.keeps_rules.ensures c.args.at c.link_of_port.result (sym c.link_of_port.ensures)
