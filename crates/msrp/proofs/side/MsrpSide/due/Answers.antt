use Rattle.std.proofs.Common.{◌≡◌, ◌-◌, ◌∙◌, false, ap, sym}
use Rattle.std.specs.Prelude.{slice_get, Some}
use Rattle.srp_base.proofs.Options.{some_is}
use Rattle.mrp_participant.specs.State.{due_count, is_any_due}
use Rattle.attribute_propagation.specs.Ports.{count_of, place_of}
use Rattle.msrp.specs.Part.{Part}
use Rattle.msrp.specs.{SideHolding, ports_in}
use Rattle.msrp.proofs.{Idle.none-due, InPlace.state_is}
use Rattle.msrp.proofs.side.MsrpSide.due.Goals as goal

pub returns-then-not-any_due-clause-after : goal.returns-then-not-any_due-clause-after
returns-then-not-any_due-clause-after c =
    let here : slice_get c.args.self.now.state.ports (place_of c.args.port) ≡ Some c.port_at.result.now.state =
    ap (λ (v : SideHolding). slice_get v.state.ports (place_of c.args.port)) (sym c.self.view_is)
    ∙ (ap (λ xs. slice_get (ports_in xs) (place_of c.args.port)) (sym c.as_slice.ensures.value)
    ∙ (ap (λ n. slice_get (ports_in c.as_slice.result.now) (n - 1)) (sym c.from-at.ensures) ∙ state_is c.as_slice.result.now (c.from-at.result - 1) c.port_at.result.now c.port_at.ensures)) in
    let none : is_any_due c.args.now c.port_at.result.now.state.part ≡ false = ap (λ (s : Part). is_any_due c.args.now s) (sym c.part.ensures) ∙ (sym c.any_due.ensures ∙ c.if-not-any_due.true) in
    sym (none-due c.each_port_is_told.ensures c.args.self.now.state (place_of c.args.port) c.port_at.result.now.state here c.args.now
    (c.nothing_due_changes_nothing.ensures.state c.port_at.result.now.state.part c.args.now none) (c.nothing_due_changes_nothing.ensures.left c.port_at.result.now.state.part c.args.now none))

pub returns-then-not-any_due-clause-count : goal.returns-then-not-any_due-clause-count
returns-then-not-any_due-clause-count c =
    let here : slice_get c.args.self.now.state.ports (place_of c.args.port) ≡ Some c.port_at.result.now.state =
    ap (λ (v : SideHolding). slice_get v.state.ports (place_of c.args.port)) (sym c.self.view_is)
    ∙ (ap (λ xs. slice_get (ports_in xs) (place_of c.args.port)) (sym c.as_slice.ensures.value)
    ∙ (ap (λ n. slice_get (ports_in c.as_slice.result.now) (n - 1)) (sym c.from-at.ensures) ∙ state_is c.as_slice.result.now (c.from-at.result - 1) c.port_at.result.now c.port_at.ensures)) in
    let none : is_any_due c.args.now c.port_at.result.now.state.part ≡ false = ap (λ (s : Part). is_any_due c.args.now s) (sym c.part.ensures) ∙ (sym c.any_due.ensures ∙ c.if-not-any_due.true) in
    some_is (λ p. 0 ≡ count_of (due_count c.args.now p.part)) _ c.port_at.result.now.state here
    (ap count_of (sym (c.nothing_due_changes_nothing.ensures.count c.port_at.result.now.state.part c.args.now none)))
