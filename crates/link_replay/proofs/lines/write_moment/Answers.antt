use Rattle.std.proofs.Common.{◌≡◌, ◌%◌, ap, ◌∙◌, arith}
use Rattle.std.proofs.lemmas.Grind.{common_steps}
use Rattle.std.specs.Fmt.{styled_decimal}
use Rattle.link_replay.specs.{two_digits}
use Rattle.link_replay.proofs.MomentLemmas.{styled_two}
use Rattle.link_replay.proofs.lines.write_moment.Goals as goal

pub returns : goal.returns
returns c =
    let cs = c.args.at.0 % 100 in
    let padded : styled_decimal c.laid_out.result cs ≡ two_digits cs = ap (λ s. styled_decimal s cs) c.laid_out.ensures ∙ styled_two cs in
    let written = c.write.ensures.bytes in
    grind (arith, common_steps, padded, written)
