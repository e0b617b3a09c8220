use Rattle.std.proofs.Common.{◌≡◌, ◌+◌, ◌==◌, ◌∙◌, ap, sym, rules, arith}
use Rattle.std.specs.Prelude.{find}
use Rattle.delay_report.proofs.NumberLemmas.{at_number, got, none_before}
use Rattle.delay_report.proofs.seen.frame_of.Goals as goal

pub returns-in_err-place : goal.returns-in_err-place
returns-in_err-place c = grind (arith, none_before c.args.frames.now 1 c.args.number c.requires)

pub returns : goal.returns
returns c =
    let frames = c.args.frames.now in
    let place = c.in_ok-place.place in
    let is : 1 + place ≡ c.args.number = grind (arith, c.in_ok-place.ensures) in
    got c.get.result frames place c.get.ensures.lookup.0 c.get.ensures.lookup.1 ∙ (sym (at_number frames 1 place c.requires) ∙ ap (λ n. find (λ f. f.number == n) frames) is)
