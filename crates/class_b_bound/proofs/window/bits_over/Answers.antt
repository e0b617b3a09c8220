-- What the departures take is no more than the window.
use Rattle.std.proofs.Common.{arith}
use Rattle.class_b_bound.proofs.WindowLemmas.{bits_at_most}
use Rattle.class_b_bound.proofs.window.bits_over.Goals as goal

pub overflow_add-bits : goal.overflow_add-bits
overflow_add-bits c =
    let most = bits_at_most c.args.sent.now c.args.from c.args.to c.requires.order c.requires.apart in
    omega (arith, most, c.loop-d.invariant, c.overlap-bits.ensures, c.requires.short)
