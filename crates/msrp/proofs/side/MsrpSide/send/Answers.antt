use Rattle.std.proofs.Common.{◌≡◌, ◌-◌, ◌∙◌, ap, sym, subst}
use Rattle.std.specs.Prelude.{slice_get, Some}
use Rattle.mrp_participant.specs.State.{AreRows}
use Rattle.attribute_propagation.specs.Ports.{place_of}
use Rattle.msrp.specs.{HasOwnContents, key_cmp, IsKept, Streams, SideHolding, ports_in, streams_of}
use Rattle.msrp.specs.Part.{Part}
use Rattle.msrp.proofs.{InPlace.state_is, Keeping.port_kept}
use Rattle.msrp.proofs.side.MsrpSide.send.Goals as goal

pub said_by-requires-clause-rows : goal.said_by-requires-clause-rows
said_by-requires-clause-rows c =
    let here : slice_get c.args.self.now.state.ports (place_of c.args.port) ≡ Some c.port_at.result.now.state =
    ap (λ (v : SideHolding). slice_get v.state.ports (place_of c.args.port)) (sym c.self.view_is)
    ∙ (ap (λ xs. slice_get (ports_in xs) (place_of c.args.port)) (sym c.as_slice.ensures.value)
    ∙ (ap (λ n. slice_get (ports_in c.as_slice.result.now) (n - 1)) (sym c.from-at.ensures) ∙ state_is c.as_slice.result.now (c.from-at.result - 1) c.port_at.result.now c.port_at.ensures)) in
    let P : Part → Type 0 = λ s. AreRows key_cmp s.rows in
    subst P (sym c.part.ensures) (port_kept c.args.self.now.state c.keeps.ensures (place_of c.args.port) c.port_at.result.now.state here).rows

pub said_by-requires-clause-contents : goal.said_by-requires-clause-contents
said_by-requires-clause-contents c =
    let here : slice_get c.args.self.now.state.ports (place_of c.args.port) ≡ Some c.port_at.result.now.state =
    ap (λ (v : SideHolding). slice_get v.state.ports (place_of c.args.port)) (sym c.self.view_is)
    ∙ (ap (λ xs. slice_get (ports_in xs) (place_of c.args.port)) (sym c.as_slice.ensures.value)
    ∙ (ap (λ n. slice_get (ports_in c.as_slice.result.now) (n - 1)) (sym c.from-at.ensures) ∙ state_is c.as_slice.result.now (c.from-at.result - 1) c.port_at.result.now c.port_at.ensures)) in
    let P : Part → Type 0 = λ s. HasOwnContents s in
    subst P (sym c.part.ensures) (port_kept c.args.self.now.state c.keeps.ensures (place_of c.args.port) c.port_at.result.now.state here).contents

pub invariant_of-self : goal.invariant_of-self
invariant_of-self c =
    let before : Streams = streams_of c.self.inside.ports.items c.self.inside.awaiting.items c.self.inside.talks.items c.self.inside.listens.items c.self.inside.moment.0 in (
      subst IsKept (sym (c.sent_at.ensures c.self.inside.awaiting.items c.self.inside.talks.items c.self.inside.listens.items c.self.inside.moment.0))
          (c.every_call_keeps_a_side.ensures.send c.args.now (c.from-at.result - 1) before c.self.invariant.0),
      tt,
    )
