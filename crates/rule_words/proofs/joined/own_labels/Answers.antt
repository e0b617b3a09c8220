use Rattle.std.proofs.Common.{◌∙◌, ◌++◌, ◌∷◌, [], List, ℕ, sym, ap, arith}
use Rattle.rule_words.proofs.JoinedLemmas.{range-next}
use Rattle.rule_words.proofs.joined.own_labels.Goals as goal

pub loop-i-preserved : goal.loop-i-preserved
loop-i-preserved c =
    c.in_ok-push.ensures.items ∙ (ap (λ (t : List ℕ). t ++ c.loop-i.i ∷ []) c.loop-i.invariant ∙ sym (range-next 0 c.loop-i.i c.loop-i.i (omega arith)))
