use Rattle.std.proofs.Common.{arith}
use Rattle.std.specs.Prelude.{pos}
use Rattle.srp_base.specs.Bandwidth.{bits_of}
use Rattle.credit_shaper.specs.declared.shaper.Traffic.TheVariants.{A, B}
use Rattle.credit_shaper.specs.Bounds.{hi_credit, lo_credit}
use Rattle.class_b_bound.specs.Bound.{bound_of, tight_bound_of}
use Rattle.class_service.proofs.CreditLemmas.{busy_kept, busy_served}
use Rattle.class_service.proofs.laws.a_busy_class_gets_its_bandwidth.Goals as goal

pub returns-clause-credit : goal.returns-clause-credit
returns-clause-credit c = busy_kept c.credit_laws.ensures

pub returns-clause-area : goal.returns-clause-area
returns-clause-area c = busy_served c.credit_laws.ensures

pub returns-clause-class_a : goal.returns-clause-class_a
returns-clause-class_a c input least most from to a b valid stretch low up high busy =
    busy_served c.credit_laws.ensures input A (lo_credit (bits_of input.rate) least) (hi_credit most) a b tt up busy
    (c.class_a_credit_stays_within.ensures input least most from to a valid stretch low (omega (arith, up, high))).low
    (c.class_a_credit_stays_within.ensures input least most from to b valid stretch (omega (arith, low, up)) high).high

pub returns-clause-class_b : goal.returns-clause-class_b
returns-clause-class_b c input cap_a cap_ab a b has up busy =
    busy_served c.credit_laws.ensures input B (bound_of input.rate cap_a cap_ab).lo (pos (bound_of input.rate cap_a cap_ab).hi) a b tt up busy
    (c.class_b_credit_stays_within.ensures.bound input cap_a cap_ab a has).low (c.class_b_credit_stays_within.ensures.bound input cap_a cap_ab b has).high

pub returns-clause-class_b_tight : goal.returns-clause-class_b_tight
returns-clause-class_b_tight c input cap_a cap_ab a b has up busy =
    busy_served c.credit_laws.ensures input B (tight_bound_of input.rate cap_a cap_ab).lo (pos (tight_bound_of input.rate cap_a cap_ab).hi) a b tt up busy
    (c.class_b_credit_stays_within.ensures.tight input cap_a cap_ab a has).low (c.class_b_credit_stays_within.ensures.tight input cap_a cap_ab b has).high
