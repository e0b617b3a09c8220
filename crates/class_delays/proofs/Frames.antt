-- The rules don't speak of frames.
use Rattle.std.proofs.Common.{List, get_or}
use Rattle.srp_base.specs.declared.{numbers.EgressPort.EgressPort, bandwidth.Class.Class}
use Rattle.srp_base.specs.declared.bandwidth.Class.TheVariants.{A, B}
use Rattle.credit_shaper.specs.declared.shaper.Traffic.{Traffic}
use Rattle.class_service.specs.Class.{IsClass}
use Rattle.frame_flow.specs.declared.frame.Frame.{Frame}
use Rattle.frame_flow.specs.Flow.{Setting}
use Rattle.delay_bound.specs.declared.{bound.Bound.Bound, stream.ClassStream.ClassStream}
use Rattle.delay_flow.specs.Rules.{Numbers, IsBefore, IsFurther, KeepRules, KeepRulesAt}
use Rattle.class_delays.specs.{class_traffic, with_frames}

before-too : (s : Setting) (frames : List Frame) (p r : EgressPort) → IsBefore (with_frames frames s) p r → IsBefore s p r
before-too s frames p r h = record { port = h.port; node = h.node; other = h.other }

further-too : (s : Setting) (frames : List Frame) (traffic : Traffic) (streams : List ClassStream) (n : Numbers) (p r : EgressPort) (b : Bound) → IsFurther s traffic streams n p r b
    → IsFurther (with_frames frames s) traffic streams n p r b
further-too s frames traffic streams n p r b h = record { most = h.most; longest = h.longest; bound = h.bound }

rules-too : (s : Setting) (frames : List Frame) (traffic : Traffic) (streams : List ClassStream) (n : Numbers) (p : EgressPort) → KeepRulesAt s traffic streams n p
    → KeepRulesAt (with_frames frames s) traffic streams n p
rules-too s frames traffic streams n p h = record {
  fed_first = h.fed_first;
  fed_on = λ r x other. h.fed_on r x (before-too s frames p r other);
  late_first = h.late_first;
  late_on = λ r x other. h.late_on r x (before-too s frames p r other);
  more = λ r other k d below. further-too s frames traffic streams n p r (get_or (n.more p r) k d) (h.more r (before-too s frames p r other) k d below);
  slope = h.slope;
  peak = h.peak;
  wait = h.wait;
  spent_first = h.spent_first;
  spent_on = λ r x other. h.spent_on r x (before-too s frames p r other);
}

pub all-rules-too : (s : Setting) (frames : List Frame) (traffic : Traffic) (streams : List ClassStream) (n : Numbers) → KeepRules s traffic streams n
    → KeepRules (with_frames frames s) traffic streams n
all-rules-too s frames traffic streams n h = record { rates = h.rates; at = λ p port. rules-too s frames traffic streams n p (h.at p port) }

pub is-class : (class : Class) → IsClass (class_traffic class)
is-class A = tt
is-class B = tt
