-- The steps that nodes have made in a tick.
use Rattle.std.specs.Prelude.{◌≡◌, ◌≢◌, ◌≤◌, ℕ, List, [], ◌∷◌, ◌++◌, map}
use Rattle.std.specs.List.{AllByRecursion}
use Rattle.srp_base.specs.declared.{numbers.NodeNo.NodeNo, numbers.PortNo.PortNo, numbers.EgressPort.EgressPort}
use Rattle.tree_topology.specs.Topology.{Topology, HasPort}
use Rattle.node_core.specs.declared.{types.NodeStep.NodeStep, types.PortStep.PortStep}
use Rattle.world_core.specs.declared.{events.WorldEvent.WorldEvent, events.WorldEvent.TheVariants.Port, events.WorldReply.WorldReply, journal.NodeSteps.NodeSteps}
use Rattle.world_core.specs.declared.events.WorldReply.TheVariants.{Step, Done, Missed}
use Rattle.world_core.specs.{World.WorldState, World.world_step, World.world_after, World.replies_to, Ticks.step_events, Ticks.step_replies, Ticks.steps_of, Ticks.jobs_of, Ticks.canonical_order, Ticks.AscendByNode, Apart.events_of, Apart.replies_of, Apart.HavePorts}

-- the jobs that a node's steps were, each with its port
abbrev pub jobs_done : List NodeStep → List (PortNo × PortStep)
jobs_done made = map (λ st. (st.port, st.step)) made

-- the tree has the ports of a node's jobs
abbrev pub HaveJobPorts : Topology → NodeNo → List (PortNo × PortStep) → Type 0
HaveJobPorts tree n jobs = AllByRecursion (λ job. HasPort tree (record { node = n; port = job.0 })) jobs

-- a step of a port makes of one network another, and answers this
abbrev pub IsDone : NodeNo → WorldState → WorldState → NodeStep → Type 0
IsDone n w v st = world_step (Port n st.port st.step) w ≡ (v, Step st.reply)

-- a node has made its jobs of a tick in the canonical order, and nothing else has happened
pub record IsNodeMade (n : NodeNo) (w v : WorldState) (made : List NodeStep) : Type 0 where
  pub order : jobs_done made ≡ canonical_order n w
  pub known : HavePorts w.tree n made
  pub replies : replies_of made ≡ replies_to (events_of n made) w
  pub after : v ≡ world_after (events_of n made) w
  pub tree : v.tree ≡ w.tree

-- The nodes up to number x have made their jobs of a tick, each in the canonical order: with their
-- answers, nodes ascending, and no more than that.
pub record AreSteps (x : ℕ) (w : WorldState) (made : List NodeSteps) : Type 0 where
  pub within : AllByRecursion (λ ns. ns.node.0 ≤ x) made
  pub nodes : AscendByNode made
  pub some : AllByRecursion (λ ns. ns.steps ≢ []) made
  pub known : AllByRecursion (λ ns. HavePorts w.tree ns.node ns.steps) made
  pub jobs : (p : EgressPort) → HasPort w.tree p → p.node.0 ≤ x → steps_of p made ≡ jobs_of p w
  pub replies : step_replies made ≡ replies_to (step_events made) w
  pub canonical : AllByRecursion (λ ns. jobs_done ns.steps ≡ canonical_order ns.node w) made
