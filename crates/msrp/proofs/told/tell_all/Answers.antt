use Rattle.std.proofs.Common.{◌≡◌, ◌+◌, ℕ, [], length, drop, ap, refl, sym, ◌∙◌, arith}
use Rattle.srp_base.proofs.Lists.{drop_none}
use Rattle.attribute_propagation.specs.Ports.{keys_in, marked_everywhere}
use Rattle.msrp.specs.{key_cmp, all_keys_with, keys_with}
use Rattle.msrp.proofs.{InPlace.fewer, Marking.everywhere_more, Marking.none_marked, Marking.two_less}
use Rattle.msrp.proofs.told.tell_all.Goals as goal

pub loop-key-init : goal.loop-key-init
loop-key-init c = record { marked = refl; room = λ n room. room }

pub tell_with-requires : goal.tell_with-requires
tell_with-requires c =
    let less = two_less c.args.told.now c.loop-key.key-index c.loop-key-test.true in
    fewer 2 _ c.loop-key.sets.items (omega (arith, less))
    (c.loop-key.invariant.room 0 (fewer _ (length c.args.told.now + length c.args.told.now) c.args.sets.now.items (omega arith) c.requires))

pub loop-key-preserved : goal.loop-key-preserved
loop-key-preserved c =
    let less = two_less c.args.told.now c.loop-key.key-index c.loop-key-test.true in
    let left : ℕ = length (drop (c.loop-key.key-index + 1) c.args.told.now) in
    record {
      marked = everywhere_more all_keys_with keys_with c.args.told.now c.loop-key.key-index _ _ _ _ (λ k ks. refl) c.loop-key-test.true
          c.tell_with.ensures.keys c.loop-key.invariant.marked;
      room = λ n room. c.tell_with.ensures.room ((left + left) + n) (fewer _ _ c.loop-key.sets.items (omega (arith, less)) (c.loop-key.invariant.room n room));
    }

pub returns-clause-keys : goal.returns-clause-keys
returns-clause-keys c =
    let none : drop c.loop-key.key-index c.args.told.now ≡ [] = drop_none c.args.told.now c.loop-key.key-index c.loop-key-test.false in
    sym (none_marked (keys_in c.loop-key.sets.items))
    ∙ (ap (λ ks. marked_everywhere key_cmp (all_keys_with ks) (keys_in c.loop-key.sets.items)) (sym none) ∙ c.loop-key.invariant.marked)

pub returns-clause-room : goal.returns-clause-room
returns-clause-room c = λ n room. fewer n _ c.loop-key.sets.items (omega arith) (c.loop-key.invariant.room n room)
