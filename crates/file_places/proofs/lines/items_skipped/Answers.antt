use Rattle.std.proofs.Common.{ℕ, Bool, cond, drop, sym, ap, ◌∙◌, arith}
use Rattle.file_places.specs.{Item, Opening, first_line, lines_of}
use Rattle.file_places.proofs.KindLemmas.{OpensBehind, kind_is, lines_at, opens_behind, opens_here, skipped_here}
use Rattle.file_places.proofs.lines.items_skipped.Goals as goal

pub returns-then-is_of_kind : goal.returns-then-is_of_kind
returns-then-is_of_kind c =
    let xs = c.args.octets.now in
    let array = c.args.array.now in
    let at = c.loop-start.start in
    let whole = lines_at xs at c.line_end-end.result c.loop-start-test.true c.line_end-end.ensures.end in
    let is = kind_is Opening array xs at c.line_end-end.result c.is_of_kind.result c.line_end-end.ensures.end c.is_of_kind.ensures in
    skipped_here array xs (lines_of (drop at xs)) c.loop-start.found (opens_here array _ _ _ whole (sym is ∙ c.if-is_of_kind.true))
    c.loop-start.invariant.opens c.loop-start.invariant.items

pub loop-start-preserved : goal.loop-start-preserved
loop-start-preserved c =
    let xs = c.args.octets.now in
    let array = c.args.array.now in
    let at = c.loop-start.start in
    let end = c.line_end-end.result in
    let h = c.loop-start.invariant in
    let to = c.line_end-end.ensures.end in
    let line = first_line (drop at xs) in
    let whole = lines_at xs at end c.loop-start-test.true to in
    let is = kind_is Opening array xs at end c.is_of_kind.result to c.is_of_kind.ensures in
    let item = kind_is Item array xs at end c.is_of_kind-in-loop-start.result to c.is_of_kind-in-loop-start.ensures in
    let f : OpensBehind array line (lines_of (drop at xs)) (lines_of (drop end xs)) =
    opens_behind array line _ _ whole (sym is ∙ c.if-is_of_kind.false) in
    let one = ap (λ (b : Bool). let k : ℕ = cond b 1 0 in k) item in
    record {
      few = omega (arith, c.counted-found.ensures.most, c.line_end-end.ensures.further, h.few);
      opens = sym f.opens ∙ h.opens;
      items = omega (arith, c.counted-found.ensures.count, one, f.items, h.items);
    }
