use Rattle.credit_shaper.proofs.DepartureLemmas.{apart_at, started_at}
use Rattle.credit_shaper.proofs.laws.departures_follow_one_another.Goals as goal

pub returns-clause-apart : goal.returns-clause-apart
returns-clause-apart c input valid = (apart_at input input.end valid).apart

pub returns-clause-sized : goal.returns-clause-sized
returns-clause-sized c input valid = (apart_at input input.end valid).sized

pub returns-clause-in_time : goal.returns-clause-in_time
returns-clause-in_time c input = started_at input input.end
