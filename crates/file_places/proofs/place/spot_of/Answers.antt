use Rattle.std.proofs.Common.{◌<◌, length, take, get_or, sym, ap, ◌∙◌, arith}
use Rattle.std.proofs.lemmas.List.{take_more}
use Rattle.file_places.specs.declared.place.Spot.{Spot}
use Rattle.file_places.specs.{spot_behind, spot_of}
use Rattle.file_places.proofs.SpotLemmas.{spot_push}
use Rattle.file_places.proofs.place.spot_of.Goals as goal

pub loop-i-preserved : goal.loop-i-preserved
loop-i-preserved c =
    let xs = c.args.octets.now in
    let i = c.loop-i.i in
    let octet = get_or xs i 0 in
    let short : i < length xs = omega arith in (
      c.spot_behind-spot.ensures.spot
          ∙ (ap (λ (s : Spot). spot_behind s octet) c.loop-i.invariant.0
          ∙ (sym (spot_push (take i xs) octet) ∙ ap spot_of (sym (take_more xs i 0 short)))),
      omega (arith, c.spot_behind-spot.ensures.line, c.loop-i.invariant.1),
      omega (arith, c.spot_behind-spot.ensures.column, c.loop-i.invariant.2),
    )
