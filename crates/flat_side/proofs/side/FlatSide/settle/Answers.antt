use Rattle.std.proofs.Common.{◌≡◌, ◌-◌, ◌∙◌, [], length, ap, sym}
use Rattle.std.proofs.lemmas.{Bool.eqb-true, List.nil_from_length}
use Rattle.attribute_propagation.specs.Ports.{keys_at, keys_in, keys_or_none, place_of}
use Rattle.flat_side.specs.{FlatState, awaiting_at, settled_flat, SideHolding, flat_of}
use Rattle.flat_side.proofs.Changing.{none_settled}
use Rattle.flat_side.proofs.side.FlatSide.settle.Goals as goal

pub returns-then-is_empty-clause-after : goal.returns-then-is_empty-clause-after
returns-then-is_empty-clause-after g c =
    let side : FlatState g.row.A-Key.Denot = flat_of c.self.inside.parts.items c.self.inside.awaiting.items c.self.inside.own.keys in
    let none : awaiting_at (place_of c.args.port) side ≡ [] =
    ap (λ xs. keys_at (place_of c.args.port) (keys_in xs)) (sym c.as_slice.ensures.value)
    ∙ (ap (λ n. keys_at (n - 1) (keys_in c.as_slice.result.now)) (sym c.from-at.ensures)
    ∙ (ap (λ o. keys_or_none o) c.set_at.ensures
    ∙ nil_from_length c.set_at.result.now.keys (eqb-true (length c.set_at.result.now.keys) 0 (sym c.is_empty.ensures ∙ c.if-is_empty.true)))) in
    sym (ap (λ (v : SideHolding g.row.A-Key.Denot). v.state) c.self.view_is)
    ∙ sym (none_settled g.A.Key.Ord.cmp side (place_of c.args.port) none)
    ∙ ap (λ (v : SideHolding g.row.A-Key.Denot). settled_flat g.A.Key.Ord.cmp (place_of c.args.port) v.state) c.self.view_is
