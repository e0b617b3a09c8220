use Rattle.std.proofs.Common.{◌≡◌, ◌-◌, ◌∙◌, false, ap, sym}
use Rattle.std.specs.Prelude.{slice_get, Some}
use Rattle.mrp_participant.specs.State.{is_any_due}
use Rattle.attribute_propagation.specs.Ports.{place_of}
use Rattle.flat_side.specs.{SideHolding, parts_in}
use Rattle.flat_side.proofs.Changing.{none_due}
use Rattle.flat_side.proofs.side.FlatSide.due.Goals as goal

pub returns-then-not-any_due-clause-after : goal.returns-then-not-any_due-clause-after
returns-then-not-any_due-clause-after g c =
    let here : slice_get c.args.self.now.state.parts (place_of c.args.port) ≡ Some c.part_at.result.now.state =
    ap (λ (v : SideHolding g.row.A-Key.Denot). slice_get v.state.parts (place_of c.args.port)) (sym c.self.view_is)
    ∙ (ap (λ xs. slice_get (parts_in xs) (place_of c.args.port)) (sym c.as_slice.ensures.value)
    ∙ (ap (λ n. slice_get (parts_in c.as_slice.result.now) (n - 1)) (sym c.from-at.ensures) ∙ c.part_at.ensures)) in
    let none : is_any_due c.args.now c.part_at.result.now.state ≡ false = sym c.any_due.ensures ∙ c.if-not-any_due.true in
    sym (none_due g.A.Key.Ord.cmp c.each_port_is_told.ensures c.args.self.now.state (place_of c.args.port) c.part_at.result.now.state here c.args.now
    (c.nothing_due_changes_nothing.ensures.state c.part_at.result.now.state c.args.now none) (c.nothing_due_changes_nothing.ensures.left c.part_at.result.now.state c.args.now none))
