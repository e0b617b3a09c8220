use Rattle.std.proofs.Common.{◌≡◌, ℕ, ◌∙◌, List, length, sym, ap, subst}
use Rattle.std.specs.List.{AllByRecursion, range_with_len}
use Rattle.std.proofs.lemmas.List.FromFn.{length-range_with_len}
use Rattle.rule_words.specs.{IsWithin}
use Rattle.rule_words.proofs.joined.are_joined.Goals as goal

-- the labels of so many nodes
long : (labels : List ℕ) (n : ℕ) → labels ≡ range_with_len 0 n → n ≡ length labels
long labels n is = sym (ap (λ (t : List ℕ). length t) is ∙ length-range_with_len 0 n)

pub are_joined_from-requires-clause-own : goal.are_joined_from-requires-clause-own
are_joined_from-requires-clause-own c =
    let is : c.deref_mut.result.now ≡ range_with_len 0 c.args.count = c.deref_mut.ensures.value ∙ c.in_ok-labels.ensures in
    is ∙ ap (range_with_len 0) (long c.deref_mut.result.now c.args.count is)

pub are_joined_from-requires-clause-front : goal.are_joined_from-requires-clause-front
are_joined_from-requires-clause-front c =
    subst (λ (n : ℕ). AllByRecursion (IsWithin n) c.args.front.now)
    (long c.deref_mut.result.now c.args.count (c.deref_mut.ensures.value ∙ c.in_ok-labels.ensures)) c.requires.front

pub are_joined_from-requires-clause-back : goal.are_joined_from-requires-clause-back
are_joined_from-requires-clause-back c =
    subst (λ (n : ℕ). AllByRecursion (IsWithin n) c.args.back.now)
    (long c.deref_mut.result.now c.args.count (c.deref_mut.ensures.value ∙ c.in_ok-labels.ensures)) c.requires.back

pub are_joined_from-requires-clause-ends : goal.are_joined_from-requires-clause-ends
are_joined_from-requires-clause-ends c =
    subst (λ (n : ℕ). IsWithin n c.args.ends)
    (long c.deref_mut.result.now c.args.count (c.deref_mut.ensures.value ∙ c.in_ok-labels.ensures)) c.requires.ends
