use Rattle.std.proofs.Common.{◌+◌, arith}
use Rattle.credit_shaper.specs.{greatest_slope_a}
use Rattle.credit_shaper.proofs.{BoundLemmas.credit_within, WindowLemmas.window_within, WindowLemmas.whole_run}
use Rattle.credit_shaper.proofs.laws.class_a_stays_within_in_every_run.Goals as goal

pub returns-clause-credit : goal.returns-clause-credit
returns-clause-credit c input t valid =
    credit_within input 0 (greatest_slope_a input.slopes) 0 (t + 1) t valid (whole_run input (t + 1) (omega arith)) (omega arith) (omega arith)

pub returns-clause-window : goal.returns-clause-window
returns-clause-window c input a b valid up =
    window_within input 0 (greatest_slope_a input.slopes) 0 (b + 1) a b valid (whole_run input (b + 1) (omega arith)) (omega arith) up (omega arith)
