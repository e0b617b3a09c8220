-- The jobs of a node's ports, turn by turn.
use Rattle.std.specs.Prelude.{ℕ, ◌+◌, Bool, List, [], ◌∷◌, ◌++◌, map, filter}
use Rattle.srp_base.specs.declared.numbers.PortNo.{PortNo}
use Rattle.node_core.specs.declared.types.PortStep.{PortStep}
use Rattle.world_core.specs.Ticks.{is_work, is_due, is_settle, is_send}
use Rattle.srp_schedule.specs.declared.order.Turn.{Turn}
use Rattle.srp_schedule.specs.declared.order.Turn.TheVariants.{Works, Dues, Settles, Sends}

-- whether a step is made in a turn
abbrev pub is_in_turn : Turn → PortStep → Bool
is_in_turn Works step = is_work step
is_in_turn Dues step = is_due step
is_in_turn Settles step = is_settle step
is_in_turn Sends step = is_send step

-- one turn of ports with these jobs, of which the first has number k
abbrev pub turn_from : Turn → ℕ → List (List PortStep) → List (PortNo × PortStep)
turn_from turn k [] = []
turn_from turn k (steps ∷ jobs) =
    map (λ step. (record { 0 = k }, step)) (filter (is_in_turn turn) steps) ++ turn_from turn (k + 1) jobs

-- all turns of a node's ports, which have these jobs
abbrev pub order_of : List (List PortStep) → List (PortNo × PortStep)
order_of jobs = turn_from Works 1 jobs ++ turn_from Dues 1 jobs ++ turn_from Settles 1 jobs ++ turn_from Sends 1 jobs
