use Rattle.std.proofs.Common.{◌≡◌, ◌-◌, ◌∙◌, length, ap, sym}
use Rattle.std.specs.Prelude.{slice_get, option_map, Some}
use Rattle.std.proofs.lemmas.Option.{slice_get-map}
use Rattle.attribute_propagation.specs.Ports.{keys_in, place_of}
use Rattle.msrp.specs.{SideHolding}
use Rattle.msrp.proofs.side.MsrpSide.awaiting.Goals as goal

pub returns : goal.returns
returns c =
    let here : slice_get c.args.self.now.state.awaiting (place_of c.args.port) ≡ Some c.set_at.result.now.keys =
    ap (λ (v : SideHolding). slice_get v.state.awaiting (place_of c.args.port)) (sym c.self.view_is)
    ∙ (ap (λ xs. slice_get (keys_in xs) (place_of c.args.port)) (sym c.as_slice.ensures.value)
    ∙ (ap (λ n. slice_get (keys_in c.as_slice.result.now) (n - 1)) (sym c.from.ensures) ∙ c.set_at.ensures)) in
    slice_get-map length c.args.self.now.state.awaiting (place_of c.args.port) ∙ (ap (option_map length) here ∙ ap Some (sym c.len.ensures))
