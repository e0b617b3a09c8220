use Rattle.std.proofs.Common.{◌≡◌, sum_by, rules, ◌∙◌}
use Rattle.port_ledger.specs.{normal_slope_before}
use Rattle.port_ledger.proofs.Fitting.{normal-summed}
use Rattle.port_ledger.proofs.fit.above_of_rank_1.Goals as goal

pub returns : goal.returns
returns c =
    let one : c.sum.result ≡ sum_by (normal_slope_before c.args.now.0 c.args.x.now) c.args.entries.now = search rules in
    one ∙ normal-summed c.args.now.0 c.args.x.now c.args.entries.now
