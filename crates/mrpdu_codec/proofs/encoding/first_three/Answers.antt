use Rattle.std.proofs.Common.{length, min, ap, arith}
use Rattle.std.proofs.lemmas.List.{length-drop}
use Rattle.mrpdu_codec.proofs.Packed.{first-events, rest-after}
use Rattle.mrpdu_codec.proofs.encoding.first_three.Goals as goal

pub returns-clause-packed : goal.returns-clause-packed
returns-clause-packed c =
    first-events c.args.events.now _ _ _ _ _ c.requires c.event_at.ensures c.event_at-2.ensures c.event_at-3.ensures c.three-octet.ensures c.min.ensures

pub returns-clause-fewer : goal.returns-clause-fewer
returns-clause-fewer c =
    let es = c.args.events.now in
    let some = c.requires in
    omega (arith, ap length (rest-after es 3 _ c.min.ensures), length-drop (min (length es) 3) es)
