-- The change in force is the last of those that have come.
use Rattle.std.proofs.Common.{◌≡◌, ℕ, suc, ◌-◌, ◌<◌, take, length, sym, ◌∙◌, ap, arith}
use Rattle.credit_shaper.specs.{no_slopes, newest}
use Rattle.credit_shaper.proofs.MomentLemmas.{newest-take}
use Rattle.credit_shaper.proofs.moments.newest.Goals as goal

pub returns-else-changed-eq0 : goal.returns-else-changed-eq0
returns-else-changed-eq0 c =
    let n : ℕ = c.args.changed - 1 in
    let some : suc n ≡ c.args.changed = omega arith in
    let here : n < length c.args.changes.now = omega arith in
    sym (newest-take c.args.changes.now n no_slopes no_slopes here) ∙ ap (λ k. newest no_slopes (take k c.args.changes.now)) some
