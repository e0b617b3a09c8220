use Rattle.std.proofs.Common.{◌≡◌, ◌∙◌, ℕ, ◌<◌, true, length, drop, ap, sym, arith}
use Rattle.replay_words.specs.{begins_with_cut}
use Rattle.replay_words.proofs.CutLemmas.{found_at}
use Rattle.replay_words.proofs.cut.cut_place.Goals as goal

pub returns-then-begins_with_cut-clause-place : goal.returns-then-begins_with_cut-clause-place
returns-then-begins_with_cut-clause-place c =
    let i = c.loop-octet.octet-index in
    let within : i < length c.args.octets.now = omega arith in
    let here : begins_with_cut (drop i c.args.octets.now) ≡ true =
    ap (λ (n : ℕ). begins_with_cut (drop n c.args.octets.now)) (sym c.loop-octet.invariant.same)
    ∙ ap begins_with_cut (sym c.behind.ensures.value)
    ∙ sym c.begins_with_cut.ensures
    ∙ c.if-begins_with_cut.true in
    sym (found_at c.loop-octet.place i c.loop-octet.begins c.args.octets.now within c.if-begins.true here) ∙ c.loop-octet.invariant.place
