use Rattle.std.proofs.Common.{◌≡◌, ◌++◌, map, drop}
use Rattle.mrp_participant.specs.State.{new_state}
use Rattle.flat_side.specs.{parts_in}
use Rattle.flat_side.proofs.side.new_parts.Given as goal

-- the participants so far and those that are left are all
abbrev pub invariant-loop-port : goal.invariant-loop-port
invariant-loop-port g l =
    parts_in l.parts.items ++ map (λ p. new_state p.period l.leave_time l.periodic) (drop l.port-index l.ports)
    ≡ map (λ p. new_state p.period l.leave_time l.periodic) l.ports
