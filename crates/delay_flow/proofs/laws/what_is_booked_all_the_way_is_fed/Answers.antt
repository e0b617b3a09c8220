use Rattle.delay_flow.proofs.WayLemmas.{fed-first, fed-on}
use Rattle.delay_flow.proofs.laws.what_is_booked_all_the_way_is_fed.Goals as goal

pub returns-clause-first : goal.returns-clause-first
returns-clause-first c s p x sound port node booked own = fed-first s (c.ports.ensures s.tree sound) p x port node booked own

pub returns-clause-on : goal.returns-clause-on
returns-clause-on c s p r x sound port other node booked fed = fed-on s (c.ports.ensures s.tree sound) p r x port other node booked fed
