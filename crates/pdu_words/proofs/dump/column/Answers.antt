use Rattle.std.proofs.Common.{◌+◌, ◌-◌, ◌<◌, length, take, drop, sym, ◌∙◌, arith}
use Rattle.pdu_words.proofs.{CaptureLemmas.rest_is, DumpLemmas.more_stands, DumpLemmas.column_goes_on}
use Rattle.pdu_words.proofs.dump.column.Goals as goal

pub loop-size-preserved : goal.loop-size-preserved
loop-size-preserved c =
    let text = c.args.text.now in
    let size = c.loop-size.size in
    let more : size + 1 < length text = more_stands text size c.in-len2-up.len_at_least in
    let rest = take (length text - size) (drop size text) in
    let other = sym c.are_blank.ensures ∙ c.if-are_blank.false in
    record {
      front = column_goes_on text size more rest (rest_is text size) other ∙ c.loop-size.invariant.front;
      within = omega (arith, more);
    }
