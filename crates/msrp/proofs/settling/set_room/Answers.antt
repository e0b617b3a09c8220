use Rattle.std.proofs.Common.{◌≤◌, arith}
use Rattle.srp_base.proofs.Lists.{each-get, each-set, map-set_same}
use Rattle.attribute_propagation.specs.Dirty.{KeySet}
use Rattle.msrp_codec.specs.declared.pdu.MsrpKey.{MsrpKey}
use Rattle.msrp.proofs.{Carried.set_holds, Carried.set_is, Places.on_ok}
use Rattle.msrp.proofs.settling.set_room.Goals as goal

pub returns-clause-keys : goal.returns-clause-keys
returns-clause-keys c =
    map-set_same (λ (set : KeySet MsrpKey). set.keys) c.args.sets.now.items c.args.at c.index_mut.result.now c.room.new.self
    (set_is c.args.sets.now.items c.args.at c.index_mut.result.now c.requires c.index_mut.ensures.value) c.room.ensures.keys

pub returns-clause-room : goal.returns-clause-room
returns-clause-room c =
    on_ok c.room.result c.room.ensures.ok (λ le. set_holds (λ (set : KeySet MsrpKey). c.args.keys ≤ set.spare) c.args.sets.now.items c.args.at c.room.new.self c.requires le)

pub returns-clause-others : goal.returns-clause-others
returns-clause-others c = λ n all.
    let was = each-get (λ (set : KeySet MsrpKey). n ≤ set.spare) c.args.sets.now.items c.args.at c.index_mut.result.now all
    (set_is c.args.sets.now.items c.args.at c.index_mut.result.now c.requires c.index_mut.ensures.value) in
    each-set (λ (set : KeySet MsrpKey). n ≤ set.spare) c.args.sets.now.items c.args.at c.room.new.self (omega (arith, was, c.room.ensures.spare)) all
