use Rattle.std.proofs.Common.{◌≡◌, ◌++◌, ◌∷◌, ◌+◌, ◌-◌, []}
use Rattle.std.specs.Prelude.{replicate}
use Rattle.srp_base.specs.declared.mrp.App.TheVariants.{Mvrp, Msrp}
use Rattle.node_core.specs.declared.types.PortStep.TheVariants.{Send}
use Rattle.srp_schedule.specs.{Sends, turn_from}
use Rattle.srp_schedule.proofs.order.sends.Given as goal

-- the Sends so far and those of the ports that are left are all
abbrev pub invariant-loop-at : goal.invariant-loop-at
invariant-loop-at l =
    l.order.items ++ turn_from Sends (l.at + 1) (replicate (l.ports - l.at) (Send Mvrp ∷ Send Msrp ∷ []))
    ≡ turn_from Sends 1 (replicate l.ports (Send Mvrp ∷ Send Msrp ∷ []))
