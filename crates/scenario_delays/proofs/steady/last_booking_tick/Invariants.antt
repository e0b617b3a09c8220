use Rattle.std.proofs.Common.{◌≡◌, None, option_map, max, drop}
use Rattle.scenario_delays.specs.Steady.{last_booking_tick}
use Rattle.scenario_delays.proofs.steady.last_booking_tick.Given as goal

-- the last so far and that of the rest are that of all
abbrev pub invariant-loop-change : goal.invariant-loop-change
invariant-loop-change l =
    max l.last (last_booking_tick (option_map (λ b. b.now) l.before) (drop l.change-index l.changes)) ≡ last_booking_tick None l.changes
