use Rattle.std.proofs.Common.{◌≡◌, sum_by, rules, ◌∙◌}
use Rattle.port_needs.specs.{slope_in_a}
use Rattle.port_needs.proofs.SumLemmas.{summed_a}
use Rattle.port_needs.proofs.shares.slope_of_a.Goals as goal

pub returns : goal.returns
returns c =
    let one : c.sum.result ≡ sum_by slope_in_a c.args.wants.now = search rules in
    one ∙ summed_a c.args.wants.now
