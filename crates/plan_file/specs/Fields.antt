-- A plan's fields as contracts see them.
use Rattle.plan_file.specs.declared.plan.Plan.TheInside.{Inside}
use Rattle.plan_file.specs.Plan.{NetworkPlan}

-- what the fields of a plan hold
abbrev pub plan_of_fields : Inside → NetworkPlan
plan_of_fields p = record { network = p.network; streams = p.streams }
