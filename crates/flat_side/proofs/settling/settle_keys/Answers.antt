use Rattle.std.proofs.Common.{◌≡◌, ◌≤◌, ◌<◌, ◌+◌, ◌∙◌, [], length, drop, List, ap, sym, refl, arith}
use Rattle.std.specs.Prelude.{slice_set}
use Rattle.std.proofs.Math.ListN.{length-set}
use Rattle.srp_base.proofs.Lists.{drop_none}
use Rattle.flat_side.specs.{parts_settled, rule_at, PartHolding, parts_in}
use Rattle.flat_side.proofs.Changing.{drop_more, holds_at, one_less, part_is, settle_more, settle_none, state_is, states-set}
use Rattle.flat_side.proofs.settling.settle_keys.Goals as goal

pub loop-key-init : goal.loop-key-init
loop-key-init g c = record { settled = refl; room = c.requires.room; many = refl }

pub settle_key-requires : goal.settle_key-requires
settle_key-requires g c =
    let below : c.args.at < length c.loop-key.parts.items = omega (arith, c.requires.place, c.loop-key.invariant.many) in
    let more = drop_more c.args.keys.now c.loop-key.key-index c.key-item.result c.loop-key-test.true c.key-item.is in
    let left : length (drop c.loop-key.key-index c.args.keys.now) ≤ c.index_mut.result.now.spare =
    holds_at (λ (p : PartHolding g.row.A-Key.Denot). length (drop c.loop-key.key-index c.args.keys.now) ≤ p.spare)
    c.loop-key.parts.items c.args.at c.index_mut.result.now below c.index_mut.ensures.value c.loop-key.invariant.room in
    omega (arith, left, ap (λ (keys : List g.row.A-Key.Denot). length keys) more)

pub loop-key-preserved : goal.loop-key-preserved
loop-key-preserved g c =
    let cmp = g.A.Key.Ord.cmp in
    let below : c.args.at < length c.loop-key.parts.items = omega (arith, c.requires.place, c.loop-key.invariant.many) in
    let more = drop_more c.args.keys.now c.loop-key.key-index c.key-item.result c.loop-key-test.true c.key-item.is in
    let rest : List g.row.A-Key.Denot = drop (c.loop-key.key-index + 1) c.args.keys.now in
    let here = state_is c.loop-key.parts.items c.args.at c.index_mut.result.now (part_is c.loop-key.parts.items c.args.at c.index_mut.result.now below c.index_mut.ensures.value) in
    let rule : c.is_flat_at-is_flat.result ≡ rule_at cmp c.args.at c.args.own.now.keys (parts_in c.loop-key.parts.items) c.key-item.result =
    c.is_flat_at-is_flat.ensures ∙ ap (λ parts. rule_at cmp c.args.at c.args.own.now.keys (parts_in parts) c.key-item.result) c.as_slice.ensures.value in
    record {
      settled =
          ap (parts_settled cmp c.args.at c.args.own.now.keys rest) (states-set c.loop-key.parts.items c.args.at c.settle_key.new.part
          ∙ ap (slice_set (parts_in c.loop-key.parts.items) c.args.at) c.settle_key.ensures.state)
          ∙ (settle_more cmp c.args.at c.args.own.now.keys (parts_in c.loop-key.parts.items) c.index_mut.result.now.state c.is_flat_at-is_flat.result c.key-item.result rest here rule
          ∙ (ap (λ keys. parts_settled cmp c.args.at c.args.own.now.keys keys (parts_in c.loop-key.parts.items)) (sym more) ∙ c.loop-key.invariant.settled));
      room = one_less c.loop-key.parts.items c.args.at (length (drop c.loop-key.key-index c.args.keys.now)) (length rest) c.index_mut.result.now c.settle_key.new.part below c.index_mut.ensures.value
          (ap (λ (keys : List g.row.A-Key.Denot). length keys) more) c.settle_key.ensures.spare c.loop-key.invariant.room;
      many = length-set c.loop-key.parts.items c.args.at c.settle_key.new.part ∙ c.loop-key.invariant.many;
    }

pub returns : goal.returns
returns g c =
    let none : drop c.loop-key.key-index c.args.keys.now ≡ [] = drop_none c.args.keys.now c.loop-key.key-index c.loop-key-test.false in
    sym (settle_none g.A.Key.Ord.cmp c.args.at c.args.own.now.keys (parts_in c.loop-key.parts.items))
    ∙ (ap (λ keys. parts_settled g.A.Key.Ord.cmp c.args.at c.args.own.now.keys keys (parts_in c.loop-key.parts.items)) (sym none) ∙ c.loop-key.invariant.settled)
