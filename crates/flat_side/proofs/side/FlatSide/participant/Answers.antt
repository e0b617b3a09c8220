use Rattle.std.proofs.Common.{◌-◌, ◌∙◌, ap, sym}
use Rattle.std.specs.Prelude.{slice_get}
use Rattle.attribute_propagation.specs.Ports.{place_of}
use Rattle.flat_side.specs.{SideHolding, parts_in}
use Rattle.flat_side.proofs.side.FlatSide.participant.Goals as goal

pub returns : goal.returns
returns g c =
    ap (λ (v : SideHolding g.row.A-Key.Denot). slice_get v.state.parts (place_of c.args.port)) (sym c.self.view_is)
    ∙ (ap (λ xs. slice_get (parts_in xs) (place_of c.args.port)) (sym c.as_slice.ensures.value)
    ∙ (ap (λ n. slice_get (parts_in c.as_slice.result.now) (n - 1)) (sym c.from.ensures) ∙ c.part_at.ensures))
