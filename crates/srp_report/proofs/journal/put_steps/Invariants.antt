use Rattle.std.proofs.Common.{◌≡◌, ◌++◌, drop}
use Rattle.std.specs.Prelude.{flat_map}
use Rattle.journal_lines.specs.Lines.{line_at}
use Rattle.srp_report.proofs.journal.put_steps.Given as goal

-- the text so far with the lines of the steps that are left is the whole
abbrev pub invariant-loop-step : goal.invariant-loop-step
invariant-loop-step l =
    l.out.items ++ flat_map (line_at l.scenario l.t l.node) (drop l.step-index l.steps)
    ≡ l.fn.out.items ++ flat_map (line_at l.scenario l.t l.node) l.steps
