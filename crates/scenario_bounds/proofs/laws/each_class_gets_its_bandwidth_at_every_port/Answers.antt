use Rattle.std.proofs.Common.{ℕ, suc, get_or, arith}
use Rattle.class_b_bound.specs.Bound.{HasCaps}
use Rattle.credit_shaper.specs.Bounds.{IsStretch}
use Rattle.scenario_bounds.specs.{caps_at}
use Rattle.scenario_bounds.proofs.laws.each_class_gets_its_bandwidth_at_every_port.Goals as goal

pub returns : goal.returns
returns c plan changes flows rules order rates keeps is =
    let valid = c.every_input_keeps_its_caps.ensures.valid plan changes flows rules order rates is in
    let kept = c.every_input_keeps_its_caps.ensures.caps plan changes (λ p. (caps_at plan p).class_a) (λ p. (caps_at plan p).both) flows keeps is in
    let below = c.caps_are_below_the_rates.ensures plan changes flows rules is in
    λ k d few.
    let x = get_or flows k d in
    let a = (caps_at plan x.at).class_a in
    let ab = (caps_at plan x.at).both in
    let has : HasCaps x.input a ab = record { valid = valid k d few; caps = below k d few; slopes = kept k d few } in
    let all : (to : ℕ) → IsStretch x.input 0 a 0 (suc to) = λ to. record {
      some = omega arith;
      from_zero = c.credits_go_on.ensures.first_a x.input;
      slopes = λ t after before. (omega arith, (c.slopes_keep_the_caps_of_changes.ensures.caps x.input a ab t has.slopes).0);
    } in
    record {
      class_a = λ from to up busy. c.a_busy_class_gets_its_bandwidth.ensures.class_a x.input 0 a 0 (suc to) from to has.valid (all to) (omega arith) up (omega arith) busy;
      class_b = λ from to up busy. c.a_busy_class_gets_its_bandwidth.ensures.class_b x.input a ab from to has up busy;
    }
