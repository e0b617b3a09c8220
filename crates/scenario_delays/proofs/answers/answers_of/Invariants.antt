use Rattle.std.proofs.Common.{take, filter}
use Rattle.std.specs.List.{AllZip}
use Rattle.scenario_delays.specs.Answers.{IsAnswer, is_reserved_entry}
use Rattle.scenario_delays.proofs.answers.answers_of.Given as goal

-- the answers so far are those of the entries so far
abbrev pub invariant-loop-entry : goal.invariant-loop-entry
invariant-loop-entry l =
    AllZip (IsAnswer l.frames) (filter is_reserved_entry (take l.entry-index l.scenario.streams)) l.answers.items
