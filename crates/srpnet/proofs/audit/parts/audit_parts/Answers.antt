use Rattle.std.proofs.Common.{arith}
use Rattle.srpnet.proofs.audit.parts.audit_parts.Goals as goal

pub invariant_of-result : goal.invariant_of-result
invariant_of-result c =
    let cut = c.in_ok-cut.ensures.few in
    let end = c.in_ok-end.ensures.few in
    let octets = c.type_inv.octets in
    omega (arith, cut, end, octets)
