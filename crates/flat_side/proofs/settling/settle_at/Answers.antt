use Rattle.std.proofs.Common.{◌∙◌, ap, sym, List}
use Rattle.attribute_propagation.specs.{Dirty.KeySet, Ports.keys_at, Ports.keys_in, Ports.keys_or_none}
use Rattle.flat_side.specs.{flat_of}
use Rattle.flat_side.proofs.Changing.{some_state, settled_is}
use Rattle.flat_side.proofs.settling.settle_at.Goals as goal

pub returns-clause-after : goal.returns-clause-after
returns-clause-after g c =
    let all = c.as_slice-2.ensures ∙ sym (ap (λ (sets : List (KeySet g.row.A-Key.Denot)). keys_at c.args.at (keys_in sets)) (sym c.as_slice.ensures.value)
    ∙ ap (λ o. keys_or_none o) c.set_at-keys.ensures) in
    let here = some_state c.args.parts.now.items c.args.at c.requires.part in
    settled_is g.A.Key.Ord.cmp (flat_of c.args.parts.now.items c.args.sets.now.items c.args.own.now.keys)
    c.args.at c.as_slice-2.result.now _ _ here.0 here.1 all c.settle_keys.ensures c.empty_at.ensures
