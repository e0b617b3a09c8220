use Rattle.std.proofs.Common.{ℕ, ◌+◌, ◌-◌, cond, List, [], drop, take, sym, ap, ◌∙◌, arith}
use Rattle.srp_base.proofs.FirstLemmas.{where-here, where-later}
use Rattle.file_places.specs.{first_line, is_begin, is_of_kind, lines_of}
use Rattle.file_places.proofs.LineLemmas.{next_end}
use Rattle.file_places.proofs.KindLemmas.{IsFrom, begin_told, kind_is, kind_more, line_from}
use Rattle.file_places.proofs.entries.begin_line.Goals as goal

pub is_begin-requires-clause-end : goal.is_begin-requires-clause-end
is_begin-requires-clause-end c =
    next_end c.loop-start.lines c.loop-start.start c.line_end-end.result c.args.octets.now c.loop-start.invariant.size c.line_end-end.ensures.end

pub returns-then-branch : goal.returns-then-branch
returns-then-branch c =
    let xs = c.args.octets.now in
    let word = c.args.word.now in
    let n = c.loop-start.lines in
    let at = c.loop-start.start in
    let end = c.line_end-end.result in
    let h = c.loop-start.invariant in
    let f : IsFrom (lines_of xs) n (first_line (drop at xs)) (lines_of (drop end xs)) =
    line_from xs n at end c.loop-start-test.true h.rest c.line_end-end.ensures.end in
    let is = c.is_of_kind-is.ensures ∙ ap (λ (w : List ℕ). is_of_kind c.args.kind w (take (end - at) (drop at xs))) c.as_bytes.ensures.value in
    let told = begin_told c.args.kind c.args.sought word c.args.skipped c.first_tried-number.result xs n c.loop-start.found at end c.is_of_kind-is.result c.is_tried-tried.result c.in_ok-is_begin.field-0
    c.first_tried-number.ensures c.loop-start-test.true h.rest c.line_end-end.ensures.end h.found is c.is_tried-tried.ensures c.in_ok-is_begin.ensures [] in
    sym (where-here (is_begin c.args.kind c.args.sought word c.args.skipped xs) (lines_of xs) n [] f.inside (told ∙ c.if-branch.true)) ∙ h.none

pub loop-start-preserved : goal.loop-start-preserved
loop-start-preserved c =
    let xs = c.args.octets.now in
    let word = c.args.word.now in
    let n = c.loop-start.lines in
    let at = c.loop-start.start in
    let end = c.line_end-end.result in
    let h = c.loop-start.invariant in
    let to = c.line_end-end.ensures.end in
    let f : IsFrom (lines_of xs) n (first_line (drop at xs)) (lines_of (drop end xs)) =
    line_from xs n at end c.loop-start-test.true h.rest to in
    let is = c.is_of_kind-is.ensures ∙ ap (λ (w : List ℕ). is_of_kind c.args.kind w (take (end - at) (drop at xs))) c.as_bytes.ensures.value in
    let told = begin_told c.args.kind c.args.sought word c.args.skipped c.first_tried-number.result xs n c.loop-start.found at end c.is_of_kind-is.result c.is_tried-tried.result c.in_ok-is_begin.field-0
    c.first_tried-number.ensures c.loop-start-test.true h.rest to h.found is c.is_tried-tried.ensures c.in_ok-is_begin.ensures [] in
    record {
      size = next_end n at end xs h.size to;
      few = omega (arith, c.line_end-end.ensures.further, h.few);
      found = c.counted-found.ensures.count ∙ (ap (λ (k : ℕ). k + cond c.is_of_kind-is.result 1 0) h.found
          ∙ sym (kind_more c.args.kind word (lines_of xs) n (first_line (drop at xs)) c.is_of_kind-is.result f.inside
          (f.here (first_line (drop at xs))) (kind_is c.args.kind word xs at end c.is_of_kind-is.result to is)));
      some = omega (arith, c.counted-found.ensures.most, h.some);
      rest = f.rest;
      none = sym (where-later (is_begin c.args.kind c.args.sought word c.args.skipped xs) (lines_of xs) n [] f.inside (told ∙ c.if-branch.false)) ∙ h.none;
    }
