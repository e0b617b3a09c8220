use Rattle.std.proofs.Common.{arith}
use Rattle.srp_base.specs.Bandwidth.{bits_of}
use Rattle.class_service.specs.{high_of, low_of}
use Rattle.class_service.proofs.laws.a_class_is_served_by_its_frames_and_slopes.Goals as goal

pub returns-clause-takes : goal.returns-clause-takes
returns-clause-takes c input traffic least longest most_a most_b from to a b valid class since low up high =
    c.a_class_takes_no_more_in_a_window.ensures input traffic (low_of (bits_of input.rate) least longest) (high_of (bits_of input.rate) most_a most_b traffic) a b class up
    (c.credit_rises_no_higher.ensures input traffic most_a most_b from a valid since.room since.from_zero (λ t from_t to_t. since.at_most t from_t (omega (arith, to_t, up, high))) low)
    (c.credit_falls_no_lower.ensures input traffic least longest from b valid class since.frames since.from_zero (λ t from_t to_t. since.at_least t from_t (omega (arith, to_t, high)))
    (omega (arith, low, up)))

pub returns-clause-served : goal.returns-clause-served
returns-clause-served c input traffic least longest most_a most_b from to a b valid class since low up high busy =
    c.a_busy_class_gets_its_bandwidth.ensures.area input traffic (low_of (bits_of input.rate) least longest) (high_of (bits_of input.rate) most_a most_b traffic) a b class up busy
    (c.credit_falls_no_lower.ensures input traffic least longest from a valid class since.frames since.from_zero (λ t from_t to_t. since.at_least t from_t (omega (arith, to_t, up, high))) low)
    (c.credit_rises_no_higher.ensures input traffic most_a most_b from b valid since.room since.from_zero (λ t from_t to_t. since.at_most t from_t (omega (arith, to_t, high)))
    (omega (arith, low, up)))
