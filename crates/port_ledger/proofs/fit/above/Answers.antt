use Rattle.std.proofs.Common.{◌≡◌, sum_by, rules, ◌∙◌}
use Rattle.port_ledger.specs.{slope_before}
use Rattle.port_ledger.proofs.Fitting.{above-summed}
use Rattle.port_ledger.proofs.fit.above.Goals as goal

pub returns : goal.returns
returns c =
    let one : c.sum.result ≡ sum_by (slope_before c.args.now.0 c.args.x.now) c.args.entries.now = search rules in
    one ∙ above-summed c.args.now.0 c.args.x.now c.args.entries.now
