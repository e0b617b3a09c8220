use Rattle.std.proofs.Common.{◌-◌, length, arith}
use Rattle.world_core.proofs.Histories.{last_in_force}
use Rattle.world_core.proofs.history.last_of.Goals as goal

pub returns : goal.returns
returns c =
    λ tick upto. last_in_force tick c.args.changes.now (length c.args.changes.now - 1) c.index-changes-count.result (omega (arith, c.if-count-eq0.false)) c.index-changes-count.is upto
