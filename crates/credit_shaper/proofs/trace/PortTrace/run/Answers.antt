-- A whole run is a stretch for the slopes that it has.
use Rattle.std.proofs.Common.{◌+◌, arith}
use Rattle.credit_shaper.specs.{greatest_slope_a}
use Rattle.credit_shaper.proofs.{BoundLemmas.credit_within, WindowLemmas.window_within, WindowLemmas.whole_run}
use Rattle.credit_shaper.proofs.trace.PortTrace.run.Goals as goal

pub returns-clause-credit : goal.returns-clause-credit
returns-clause-credit c t =
    credit_within c.args.input.now 0 (greatest_slope_a c.args.input.now.slopes) 0 (t + 1) t c.requires (whole_run c.args.input.now (t + 1) (omega arith)) (omega arith) (omega arith)

pub returns-clause-credit_in_stretch : goal.returns-clause-credit_in_stretch
returns-clause-credit_in_stretch c slope from to t s = credit_within c.args.input.now slope slope from to t c.requires s

pub returns-clause-window : goal.returns-clause-window
returns-clause-window c a b up =
    window_within c.args.input.now 0 (greatest_slope_a c.args.input.now.slopes) 0 (b + 1) a b c.requires (whole_run c.args.input.now (b + 1) (omega arith)) (omega arith) up (omega arith)

pub returns-clause-window_in_stretch : goal.returns-clause-window_in_stretch
returns-clause-window_in_stretch c slope from to a b s = window_within c.args.input.now slope slope from to a b c.requires s
