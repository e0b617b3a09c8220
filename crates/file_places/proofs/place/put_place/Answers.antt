use Rattle.std.proofs.Common.{◌++◌, List, ℕ, ap, ◌∙◌}
use Rattle.std.specs.Prelude.{codes}
use Rattle.srp_base.proofs.Lists.{three_pieces}
use Rattle.file_places.specs.{spot_words}
use Rattle.file_places.proofs.place.put_place.Goals as goal

pub returns : goal.returns
returns c =
    let out = c.args.out.now.items in
    let spot = spot_words c.args.place.now.spot in
    three_pieces out _ _ _ spot _ _ c.in_ok-put_spot.ensures c.in_ok-put_octets.ensures c.in_ok-put.ensures
    ∙ ap (λ (message : List ℕ). out ++ (spot ++ (message ++ codes "\n"))) c.as_slice.ensures
