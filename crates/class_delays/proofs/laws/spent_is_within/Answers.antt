use Rattle.class_delays.specs.{class_traffic, numbers_of}
use Rattle.class_delays.proofs.laws.spent_is_within.Goals as goal

pub returns : goal.returns
returns c a ports x p sound rules has node port fed =
    c.what_is_spent_is_within.ensures a.setting (class_traffic a.class) a.streams (numbers_of a ports) x p sound rules (λ q y port_q has_y is. is) has node port fed
