use Rattle.std.proofs.Common.{◌≡◌, ◌≤◌, ◌+◌, ◌<◌, ℕ, Bool, true, false, cond, eqb, length, get_or, ap, ◌∙◌, arith}
use Rattle.srpnet.proofs.LineLemmas.{common_more, differ_from}
use Rattle.srpnet.proofs.audit.differ.common_front.Goals as goal

at_most_one : (b : Bool) → cond b 1 0 ≤ 1
at_most_one true = omega arith
at_most_one false = omega arith

pub loop-octets-preserved : goal.loop-octets-preserved
loop-octets-preserved c =
    let n = c.loop-octets.octets in
    let lines = c.loop-octets.lines in
    let in_one : n < length c.args.one.now = search in
    let in_other : n < length c.args.other.now = search in
    let more = common_more c.args.one.now c.args.other.now n lines in_one in_other c.loop-octets.invariant.2 c.loop-octets.invariant.3 c.if-one-octets.true in
    let few = c.loop-octets.invariant.4 in
    let ended = c.lines_ended-lines.ensures in
    let one_line = at_most_one (eqb (get_or c.args.one.now n 0) 10) in (
      omega (arith, in_one),
      omega (arith, in_other),
      more.0,
      ap (λ (k : ℕ). lines + k) ended ∙ more.1,
      omega (arith, few, ended, one_line),
    )
