use Rattle.std.proofs.Common.{arith}
use Rattle.pdu_words.proofs.text.write_lines.Goals as goal

pub take_line-requires : goal.take_line-requires
take_line-requires c =
    let short = c.loop-rest.invariant.short in
    let within = c.first_line.ensures.within in
    let all = c.requires in
    omega (arith, short, within, all)
