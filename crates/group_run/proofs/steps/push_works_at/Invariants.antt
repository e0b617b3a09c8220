use Rattle.std.proofs.Common.{◌≡◌, ◌++◌}
use Rattle.std.specs.Prelude.{replicate}
use Rattle.mmrp.specs.declared.{events.GroupEvent.TheVariants.Port, events.GroupStep.TheVariants.Work}
use Rattle.group_run.proofs.steps.push_works_at.Given as goal

-- one for each PDU so far
abbrev pub invariant-loop : goal.invariant-loop
invariant-loop l = l.steps.items ≡ l.initial.steps.items ++ replicate l.counter (Port l.at Work)
