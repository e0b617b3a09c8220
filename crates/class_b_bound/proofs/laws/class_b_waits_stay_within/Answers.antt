use Rattle.std.proofs.Common.{arith}
use Rattle.class_b_bound.proofs.BoundLemmas.{wait_product, wait_tight, wait_wide}
use Rattle.class_b_bound.proofs.laws.class_b_waits_stay_within.Goals as goal

pub returns-clause-bound : goal.returns-clause-bound
returns-clause-bound c = wait_wide c.bit_laws.ensures

pub returns-clause-tight : goal.returns-clause-tight
returns-clause-tight c = wait_tight c.bit_laws.ensures

pub returns-clause-product : goal.returns-clause-product
returns-clause-product c input cap_a cap_ab bits has wait =
    let product = wait_product c.bit_laws.ensures input cap_a cap_ab bits has wait in
    omega (arith, product, has.caps.0, has.caps.1)
