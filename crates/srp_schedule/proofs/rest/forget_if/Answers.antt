use Rattle.std.proofs.Common.{◌≡◌, List, sym, subst, ◌∙◌, length, vec_len, rules}
use Rattle.srp_schedule.specs.declared.rest.Rest.{Rest}
use Rattle.srp_schedule.specs.{AreRests}
use Rattle.srp_schedule.proofs.RestLemmas.{all_alike}
use Rattle.srp_schedule.proofs.rest.forget_if.Goals as goal

pub returns-then-has_happened : goal.returns-then-has_happened
returns-then-has_happened c = λ w count keep.
    let many : vec_len c.args.rests.now ≡ length c.args.rests.now.items = search rules in
    subst (λ (rs : List Rest). AreRests w rs) (sym (c.fill.ensures.items (λ y e. e))) (all_alike w c.args.rest _ c.requires (many ∙ count))

pub returns-else-has_happened : goal.returns-else-has_happened
returns-else-has_happened c = λ w count keep. keep c.if-has_happened.false
