-- The waits that the piece adds.
use Rattle.std.proofs.Common.{refl}
use Rattle.class_b_bound.proofs.PieceLemmas.{waits_after}
use Rattle.class_b_bound.proofs.waits.Waits.after.Goals as goal

pub returns-clause-waits : goal.returns-clause-waits
returns-clause-waits c input is waits =
    waits_after input c.args.piece.now c.args.self _ c.bits_without-without.result is waits c.requires.bit c.bits_without-without.ensures.kept
    refl c.now_after-now.ensures c.max.ensures
