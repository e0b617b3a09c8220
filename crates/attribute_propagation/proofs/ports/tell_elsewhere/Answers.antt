use Rattle.std.proofs.Common.{◌≡◌, ◌<◌, ◌≤◌, ◌+◌, ℕ, List, length, get_or, sym, ap, subst, ◌∙◌, arith}
use Rattle.attribute_propagation.specs.{KeySet}
use Rattle.attribute_propagation.proofs.InPlace.{IsTold, as_many, next, none_yet, one_more, told_elsewhere}
use Rattle.attribute_propagation.proofs.ports.tell_elsewhere.Goals as goal

pub loop-place-init : goal.loop-place-init
loop-place-init g c = none_yet (IsTold g.K.Ord.cmp c.args.at c.args.keys.now) 0 c.args.sets.now.items

pub mark_unless-requires : goal.mark_unless-requires
mark_unless-requires g c =
    let below : c.loop-place.place < length c.loop-place.sets.items =
    omega (arith, c.loop-place-test.true, c.len-place-end.ensures, as_many _ _ _ _ _ c.loop-place.invariant) in
    subst (λ (set : KeySet g.row.K.Denot). length c.args.keys.now ≤ set.spare) (sym c.index_mut.ensures.value)
    (next (λ (set : KeySet g.row.K.Denot). length c.args.keys.now ≤ set.spare) _ 0 c.loop-place.place _ _ c.index_mut.result.now c.loop-place.invariant c.requires below)

pub loop-place-preserved : goal.loop-place-preserved
loop-place-preserved g c =
    let below : c.loop-place.place < length c.loop-place.sets.items =
    omega (arith, c.loop-place-test.true, c.len-place-end.ensures, as_many _ _ _ _ _ c.loop-place.invariant) in
    one_more (IsTold g.K.Ord.cmp c.args.at c.args.keys.now) c.loop-place.place c.args.sets.now.items c.loop-place.sets.items c.index_mut.result.now c.mark_unless.new.set
    c.loop-place.invariant below
    (subst (λ (set : KeySet g.row.K.Denot). IsTold g.K.Ord.cmp c.args.at c.args.keys.now c.loop-place.place set c.mark_unless.new.set) c.index_mut.ensures.value c.mark_unless.ensures)

pub returns : goal.returns
returns g c =
    let end : length c.loop-place.sets.items ≤ c.loop-place.place =
    omega (arith, c.loop-place-test.false, c.len-place-end.ensures, as_many _ _ _ _ _ c.loop-place.invariant) in
    told_elsewhere g.K.Ord.cmp c.args.at c.args.keys.now 0 c.loop-place.place c.args.sets.now.items c.loop-place.sets.items c.loop-place.invariant end
