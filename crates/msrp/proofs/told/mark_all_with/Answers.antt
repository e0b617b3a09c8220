use Rattle.std.proofs.Common.{refl, arith}
use Rattle.msrp.specs.{all_keys_with, keys_with}
use Rattle.msrp.proofs.Marking.{mark_more, two_less}
use Rattle.msrp.proofs.told.mark_all_with.Goals as goal

pub mark_with-requires : goal.mark_with-requires
mark_with-requires c = omega (arith, two_less c.args.keys.now c.loop-key.key-index c.loop-key-test.true, c.loop-key.invariant.room)

pub loop-key-preserved : goal.loop-key-preserved
loop-key-preserved c = record {
  marked = mark_more all_keys_with keys_with c.args.keys.now c.loop-key.key-index _ _ _ _ (λ k ks. refl) c.loop-key-test.true
      c.mark_with.ensures.keys c.loop-key.invariant.marked;
  room = omega (arith, two_less c.args.keys.now c.loop-key.key-index c.loop-key-test.true, c.mark_with.ensures.spare, c.loop-key.invariant.room);
}
