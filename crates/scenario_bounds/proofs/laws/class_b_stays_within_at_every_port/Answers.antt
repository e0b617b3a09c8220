use Rattle.std.proofs.Common.{get_or}
use Rattle.class_b_bound.specs.{Bound.HasCaps, Waits.worst_wait_of}
use Rattle.scenario_bounds.specs.{caps_at}
use Rattle.scenario_bounds.proofs.laws.class_b_stays_within_at_every_port.Goals as goal

pub returns : goal.returns
returns c plan changes flows rules order rates keeps is =
    let valid = c.every_input_keeps_its_caps.ensures.valid plan changes flows rules order rates is in
    let kept = c.every_input_keeps_its_caps.ensures.caps plan changes (λ p. (caps_at plan p).class_a) (λ p. (caps_at plan p).both) flows keeps is in
    let below = c.caps_are_below_the_rates.ensures plan changes flows rules is in
    λ k d few.
    let x = get_or flows k d in
    let a = (caps_at plan x.at).class_a in
    let ab = (caps_at plan x.at).both in
    let has : HasCaps x.input a ab = record { valid = valid k d few; caps = below k d few; slopes = kept k d few } in
    let longest = c.an_input_has_one_worst_wait.ensures.some x.input in
    record {
      caps = has;
      windows = λ from to up. c.class_b_windows_stay_within.ensures.bound x.input a ab from to has up;
      longest = longest;
      frame = c.the_longest_wait_is_that_of_a_frame.ensures x.input has.valid;
      wait = c.class_b_waits_stay_within.ensures.bound x.input a ab (worst_wait_of x.input) has longest.there;
    }
