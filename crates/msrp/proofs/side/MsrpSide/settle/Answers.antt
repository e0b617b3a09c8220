use Rattle.std.proofs.Common.{◌≡◌, ◌-◌, ◌∙◌, [], length, ap, sym}
use Rattle.std.specs.Prelude.{slice_get, Some}
use Rattle.std.proofs.lemmas.{Bool.eqb-true, List.nil_from_length}
use Rattle.attribute_propagation.specs.Ports.{keys_in, place_of}
use Rattle.msrp.specs.{SideHolding}
use Rattle.msrp.proofs.Idle.{none-awaits}
use Rattle.msrp.proofs.side.MsrpSide.settle.Goals as goal

-- no key awaits at the port
pub returns-then-is_empty-clause-after : goal.returns-then-is_empty-clause-after
returns-then-is_empty-clause-after c =
    let none : c.set_at.result.now.keys ≡ [] = nil_from_length c.set_at.result.now.keys (eqb-true (length c.set_at.result.now.keys) 0 (sym c.is_empty.ensures ∙ c.if-is_empty.true)) in
    let set : slice_get c.args.self.now.state.awaiting (place_of c.args.port) ≡ Some [] =
    ap (λ (v : SideHolding). slice_get v.state.awaiting (place_of c.args.port)) (sym c.self.view_is)
    ∙ (ap (λ xs. slice_get (keys_in xs) (place_of c.args.port)) (sym c.as_slice.ensures.value)
    ∙ (ap (λ n. slice_get (keys_in c.as_slice.result.now) (n - 1)) (sym c.from-at.ensures) ∙ (c.set_at.ensures ∙ ap Some none))) in
    sym (none-awaits c.each_port_is_told.ensures c.nothing_changed_where_both_lists_are_empty.ensures.empty c.args.self.now.state c.keeps.ensures (place_of c.args.port) set)
