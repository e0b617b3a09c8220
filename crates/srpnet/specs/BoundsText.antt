-- What `srpnet run bounds` prints behind the report: how long class B waits at each port, at most
-- and at worst.
use Rattle.std.specs.Prelude.{ℕ, ◌==◌, if◌then◌else◌, List, [], ◌∷◌, codes, length, flat_map}
use Rattle.std.specs.Fmt.{decimal}
use Rattle.srp_base.specs.Text.{whole_of}
use Rattle.class_b_bound.specs.Waits.{worst_wait_of}
use Rattle.frame_flow.specs.declared.result.PortFlow.{PortFlow}
use Rattle.topology_file.specs.Plan.{Plan}
use Rattle.scenario_bounds.specs.PortBounds.{bound_at}
use Rattle.report_words.specs.Names.{port_name}

-- `bound P wait W worst N`, in bit times of the port
abbrev pub wait_line : List ℕ → ℕ → ℕ → List ℕ
wait_line port wait worst = whole_of (
    codes "bound " ∷ port ∷ codes " wait " ∷ decimal wait ∷ codes " worst " ∷ decimal worst ∷ codes "\n" ∷ [])

-- the line of a port
abbrev pub bound_line : Plan → PortFlow → List ℕ
bound_line plan x = wait_line (port_name plan.nodes plan.tree.links x.at) (bound_at plan x).wait (worst_wait_of x.input)

-- those of all ports, in the order of their flows, where the scenario has frames
abbrev pub bound_lines : Plan → List PortFlow → List ℕ
bound_lines plan flows = if length plan.frames == 0 then [] else flat_map (bound_line plan) flows
