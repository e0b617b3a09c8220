use Rattle.std.proofs.Common.{◌≡◌, ◌%◌, ap, ◌∙◌, arith}
use Rattle.std.proofs.lemmas.Grind.{common_steps}
use Rattle.std.specs.Fmt.{styled_decimal}
use Rattle.pdu_words.specs.{nine_digits}
use Rattle.pdu_words.proofs.MomentLemmas.{styled_nine}
use Rattle.pdu_words.proofs.frames.write_moment.Goals as goal

pub returns : goal.returns
returns c =
    let ns = c.args.at_ns % 1000000000 in
    let padded : styled_decimal c.laid_out.result ns ≡ nine_digits ns = ap (λ s. styled_decimal s ns) c.laid_out.ensures ∙ styled_nine ns in
    let written = c.write.ensures.bytes in
    grind (arith, common_steps, padded, written)
