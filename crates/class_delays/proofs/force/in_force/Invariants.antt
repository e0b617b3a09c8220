-- The changes so far and the rest give what all do.
use Rattle.std.proofs.Common.{◌≡◌, drop}
use Rattle.std.specs.Prelude.{filter, option_map}
use Rattle.frame_flow.specs.Force.{is_port, last_upto, in_force, changes_at}
use Rattle.class_delays.proofs.force.in_force.Given as goal

abbrev pub invariant-loop-c : goal.invariant-loop-c
invariant-loop-c l =
    last_upto l.tick (option_map (λ c. c.now) l.newest) (filter (λ c. is_port c.at l.at) (drop l.c-index l.changes)) ≡ in_force l.tick (changes_at l.changes l.at)
