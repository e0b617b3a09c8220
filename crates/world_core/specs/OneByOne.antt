-- The steps of a tick one by one: whichever of a node's ports makes the next step, it is the next
-- of the jobs that this port has left; and one node makes its steps after the other.
use Rattle.std.specs.Prelude.{◌≡◌, ◌≤◌, ℕ, zero, suc, List, [], ◌∷◌, length, map, Some, slice_get, slice_set}
use Rattle.std.specs.{Option.option_map_or, List.range_with_len, List.AllByRecursion}
use Rattle.srp_base.specs.declared.numbers.NodeNo.{NodeNo}
use Rattle.attribute_propagation.specs.Ports.{place_of}
use Rattle.topology_file.specs.Plan.{Plan}
use Rattle.node_core.specs.declared.{types.NodeStep.NodeStep, types.PortStep.PortStep}
use Rattle.node_core.specs.State.{job_list, ports_of}
use Rattle.world_core.specs.declared.{events.WorldEvent.TheVariants.Port, events.WorldReply.TheVariants.Step, journal.NodeSteps.NodeSteps, journal.Tick.Tick}
use Rattle.world_core.specs.{World.WorldState, World.node_at, World.world_step, World.world_after, World.replies_to, Apart.events_of, Ticks.script_at, Ticks.after_script}

-- ---- one node

-- the jobs of each of a node's ports, ports ascending
abbrev pub node_jobs : NodeNo → WorldState → List (List PortStep)
node_jobs n w = option_map_or (λ s. map (λ at. job_list at s) (range_with_len 0 (ports_of s))) (node_at n w) []

-- a step of a port of a node is the first of the jobs that the port has left, and has the network's
-- answer; behind it the port has the rest left
pub record IsNextJob (n : NodeNo) (left : List (List PortStep)) (w : WorldState) (st : NodeStep) (rest : List PortStep) : Type 0 where
  pub port : 1 ≤ st.port.0
  pub job : slice_get left (place_of st.port) ≡ Some (st.step ∷ rest)
  pub reply : (world_step (Port n st.port st.step) w).1 ≡ Step st.reply

-- the ports of a node make, in some order, all the jobs that they have left
abbrev pub MakeLeft : NodeNo → List (List PortStep) → WorldState → List NodeStep → Type 0
MakeLeft n left w [] = AllByRecursion (λ jobs. jobs ≡ []) left
MakeLeft n left w (st ∷ made) =
    (rest : List PortStep) × IsNextJob n left w st rest
    × MakeLeft n (slice_set left (place_of st.port) rest) (world_step (Port n st.port st.step) w).0 made

-- ---- all nodes

-- the steps of a node before those of later nodes; a node that has made none isn't named
abbrev pub steps_before : NodeNo → List NodeStep → List NodeSteps → List NodeSteps
steps_before n [] later = later
steps_before n (st ∷ made) later = record { node = n; steps = st ∷ made } ∷ later

-- so many nodes, of which the first has number x, make all jobs of their ports, one node after the
-- other
abbrev pub MakeAll : ℕ → ℕ → WorldState → List NodeSteps → Type 0
MakeAll x zero w steps = steps ≡ []
MakeAll x (suc count) w steps =
    (made : List NodeStep) × ((later : List NodeSteps) × (steps ≡ steps_before (record { 0 = x }) made later)
    × MakeLeft (record { 0 = x }) (node_jobs (record { 0 = x }) w) w made
    × MakeAll (suc x) count (world_after (events_of (record { 0 = x }) made) w) later)

-- A tick whose events are those of the scenario with their answers, and in which each node makes
-- the jobs of its ports one by one, nodes ascending.
pub record IsOneByOne (plan : Plan) (t : ℕ) (w : WorldState) (tick : Tick) : Type 0 where
  pub numbers : map (λ e. e.0) tick.events ≡ map (λ e. e.0) (script_at plan t)
  pub answers : map (λ e. e.1) tick.events ≡ replies_to (map (λ e. e.1) (script_at plan t)) w
  pub steps : MakeAll 1 (length plan.tree.kinds) (after_script plan t w) tick.steps
