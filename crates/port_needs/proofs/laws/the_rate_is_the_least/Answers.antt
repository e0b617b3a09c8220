use Rattle.stream_importance.specs.Bandwidth.{caps_of}
use Rattle.port_needs.specs.{is_enough}
use Rattle.port_needs.proofs.ShareLemmas.{rate_least, rate_none, rate_passes}
use Rattle.port_needs.proofs.laws.the_rate_is_the_least.Goals as goal

pub returns-clause-enough : goal.returns-clause-enough
returns-clause-enough c delta_a delta_b a both = rate_passes (λ r. is_enough (caps_of r delta_a delta_b) a both)

pub returns-clause-least : goal.returns-clause-least
returns-clause-least c delta_a delta_b a both other = rate_least (λ r. is_enough (caps_of r delta_a delta_b) a both) other

pub returns-clause-none : goal.returns-clause-none
returns-clause-none c delta_a delta_b a both other = rate_none (λ r. is_enough (caps_of r delta_a delta_b) a both) other
