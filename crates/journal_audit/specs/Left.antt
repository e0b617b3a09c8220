-- What the ports of a node have left of their jobs in a tick, each with the words by which the
-- lines of its steps begin.
use Rattle.std.specs.Prelude.{◌≡◌, ◌≤◌, ◌⊎◌, ◌+◌, ℕ, Bool, nat_lt, List, ◌++◌, length, map, Some, slice_get}
use Rattle.std.specs.List.{range_with_len, list_any}
use Rattle.srp_base.specs.declared.numbers.NodeNo.{NodeNo}
use Rattle.tree_topology.specs.Ports.{neighbours}
use Rattle.topology_file.specs.Plan.{Plan}
use Rattle.node_core.specs.declared.types.PortStep.{PortStep}
use Rattle.node_core.specs.State.{NodeState, ports_of, job_list}
use Rattle.report_words.specs.Names.{port_name}
use Rattle.journal_lines.specs.Lines.{place_text}
use Rattle.journal_audit.specs.Reading.{Reading}

-- a port: how the lines of its steps begin, and the jobs that it has left
pub record LeftState : Type 0 where
  pub place : List ℕ
  pub jobs : List PortStep

-- the jobs of ports
abbrev pub jobs_left : List LeftState → List (List PortStep)
jobs_left ports = map (λ p. p.jobs) ports

-- how the lines of the port at a place begin
abbrev pub place_at : Plan → ℕ → NodeNo → ℕ → List ℕ
place_at plan t n at = place_text t (port_name plan.nodes plan.tree.links (record { node = n; port = record { 0 = at + 1 } }))

-- each port has the words of its place
abbrev pub ArePlaces : Plan → ℕ → NodeNo → List LeftState → Type 0
ArePlaces plan t n ports = (at : ℕ) (p : LeftState) → slice_get ports at ≡ Some p → p.place ≡ place_at plan t n at

-- these are the ports of a node, and each has the words of its place
pub record ArePortsLeft (plan : Plan) (t : ℕ) (n : NodeNo) (ports : List LeftState) : Type 0 where
  pub few : length ports ≤ 255
  pub long : length (jobs_left ports) ≡ length (neighbours plan.tree.links n.0)
  pub places : ArePlaces plan t n ports

-- the port at a place of a node with all its jobs, and all ports
abbrev pub left_at : Plan → ℕ → NodeNo → NodeState → ℕ → LeftState
left_at plan t n s at = record { place = place_at plan t n at; jobs = job_list at s }

abbrev pub left_of : Plan → ℕ → NodeNo → NodeState → List LeftState
left_of plan t n s = map (left_at plan t n s) (range_with_len 0 (ports_of s))

-- the next line may be of a step of this port: it has a job left, and the line begins with its
-- words
pub record MayBeNext (r : Reading) (p : LeftState) : Type 0 where
  pub some : 1 ≤ length p.jobs
  pub rest : List ℕ
  pub begins : r.rest ≡ p.place ++ rest

-- the next line may be of a step of no port
abbrev pub IsOfNone : Reading → List LeftState → Type 0
IsOfNone r ports = (at : ℕ) (p : LeftState) → slice_get ports at ≡ Some p → MayBeNext r p → ⊥

-- the port at this place has a job left, and the next line may be of it, or of none
pub record IsNextPort (r : Reading) (ports : List LeftState) (at : ℕ) : Type 0 where
  pub port : LeftState
  pub is : slice_get ports at ≡ Some port
  pub some : 1 ≤ length port.jobs
  pub named : MayBeNext r port ⊎ IsOfNone r ports

-- whether a job is left at some port
abbrev pub is_any_left : List LeftState → Bool
is_any_left ports = list_any (λ p. nat_lt 0 (length p.jobs)) ports
