use Rattle.std.proofs.Common.{◌≡◌, ◌<◌, ◌≤◌, ◌+◌, ℕ, List, length, get_or, sym, ap, subst, ◌∙◌, arith, rules}
use Rattle.attribute_propagation.specs.{KeySet}
use Rattle.attribute_propagation.proofs.InPlace.{HasRoomNow, all_hold, as_many, ask_nothing, keys_stay, none_yet, one_more, same_keys}
use Rattle.attribute_propagation.proofs.ports.room_everywhere.Goals as goal

pub loop-place-init : goal.loop-place-init
loop-place-init g c = none_yet (HasRoomNow c.args.keys) 0 c.args.sets.now.items

pub returns-in_err-room-clause-keys : goal.returns-in_err-room-clause-keys
returns-in_err-room-clause-keys g c =
    let below : c.loop-place.place < length c.loop-place.sets.items =
    omega (arith, c.loop-place-test.true, c.len-place-end.ensures, as_many _ _ _ _ _ c.loop-place.invariant) in
    same_keys c.loop-place.sets.items c.loop-place.place c.index_mut.result.now c.room.new.self below
    (c.room.ensures.keys ∙ ap (λ (set : KeySet g.row.K.Denot). set.keys) c.index_mut.ensures.value)
    ∙ keys_stay _ _ _ _ _ c.loop-place.invariant (λ m x y same. same.0)

pub loop-place-preserved : goal.loop-place-preserved
loop-place-preserved g c =
    let below : c.loop-place.place < length c.loop-place.sets.items =
    omega (arith, c.loop-place-test.true, c.len-place-end.ensures, as_many _ _ _ _ _ c.loop-place.invariant) in
    one_more (HasRoomNow c.args.keys) c.loop-place.place c.args.sets.now.items c.loop-place.sets.items c.index_mut.result.now c.room.new.self
    c.loop-place.invariant below
    (c.room.ensures.keys ∙ ap (λ (set : KeySet g.row.K.Denot). set.keys) c.index_mut.ensures.value, search rules)

pub returns-clause-room : goal.returns-clause-room
returns-clause-room g c =
    let end : length c.loop-place.sets.items ≤ c.loop-place.place =
    omega (arith, c.loop-place-test.false, c.len-place-end.ensures, as_many _ _ _ _ _ c.loop-place.invariant) in
    all_hold _ (λ (set : KeySet g.row.K.Denot). c.args.keys ≤ set.spare) (HasRoomNow c.args.keys) 0 c.loop-place.place _ _ c.loop-place.invariant end
    (λ m x y now was. now.1) (ask_nothing c.args.sets.now.items)

pub returns-clause-keys : goal.returns-clause-keys
returns-clause-keys g c = keys_stay _ _ _ _ _ c.loop-place.invariant (λ m x y same. same.0)
