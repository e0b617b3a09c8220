use Rattle.std.proofs.Common.{◌∙◌, arith, length, sym}
use Rattle.std.proofs.lemmas.List.{length-drop}
use Rattle.mrp_frames.proofs.Framed.{framed_within, led_within}
use Rattle.mrp_frames.proofs.frame.frame_of.Goals as goal

pub returns-clause-within : goal.returns-clause-within
returns-clause-within c =
    let octets = c.args.record.now.octets.now in
    framed_within c.framed.result _ _ (length octets) c.framed.ensures
    (λ x e.
    let within = led_within c.first_two-number.result c.behind-3.result.now x (sym c.pdu_behind.ensures ∙ e) in
    let size = length-drop c.head_size-size.result octets in
    let rest = c.behind-3.ensures in
    search (arith, within, size, rest))
