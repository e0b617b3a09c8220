-- Which lines may follow at a place of a legal run: from the beginning of a tick, from the turn of
-- a node, from what a node's ports have left of their jobs, and from the events of a tick on.
use Rattle.std.specs.Prelude.{◌≡◌, ℕ, suc, ◌-◌, List, ◌++◌, length}
use Rattle.topology_file.specs.Plan.{Plan}
use Rattle.node_core.specs.declared.{types.NodeStep.NodeStep, types.PortStep.PortStep}
use Rattle.world_core.specs.declared.{events.WorldReply.WorldReply, journal.NodeSteps.NodeSteps, journal.Tick.Tick}
use Rattle.world_core.specs.{World.WorldState, World.world_after, Apart.events_of, Ticks.step_events, Ticks.closing_events, Ticks.IsLegalTick, Ticks.LeadTo, OneByOne.MakeLeft, OneByOne.MakeAll}
use Rattle.journal_audit.specs.Journal.{answer_lines, made_lines, steps_lines, ticks_lines}

-- those of legal ticks from tick t on, up to the scenario's end
pub record FollowTicks (plan : Plan) (t : ℕ) (w : WorldState) (lines : List (List ℕ)) : Type 0 where
  pub ticks : List Tick
  pub end : WorldState
  pub lead : LeadTo (IsLegalTick plan) plan t w ticks plan.ticks end
  pub are : lines ≡ ticks_lines plan t ticks

-- how many nodes there are from number x on
abbrev pub nodes_from : Plan → ℕ → ℕ
nodes_from plan x = suc (length plan.tree.kinds) - x

-- those of the steps of all nodes from number x on in tick t, and of the ticks behind it
pub record FollowNodes (plan : Plan) (t x : ℕ) (w : WorldState) (lines : List (List ℕ)) : Type 0 where
  pub steps : List NodeSteps
  pub rest : List (List ℕ)
  pub made : MakeAll x (nodes_from plan x) w steps
  pub then : FollowTicks plan (suc t) (world_after (closing_events plan.tree) (world_after (step_events steps) w)) rest
  pub are : lines ≡ steps_lines plan t steps ++ rest

-- those of what the ports of node x have left of their jobs, and of the nodes behind it
pub record FollowJobs (plan : Plan) (t x : ℕ) (left : List (List PortStep)) (w : WorldState) (lines : List (List ℕ)) : Type 0 where
  pub made : List NodeStep
  pub rest : List (List ℕ)
  pub jobs : MakeLeft (record { 0 = x }) left w made
  pub then : FollowNodes plan t (suc x) (world_after (events_of (record { 0 = x }) made) w) rest
  pub are : lines ≡ made_lines plan t (record { 0 = x }) made ++ rest

-- those of answers of scripted events, which have led to a network, and of the steps behind them
pub record FollowAnswers (plan : Plan) (t : ℕ) (answers : List (ℕ × WorldReply)) (w : WorldState) (lines : List (List ℕ)) : Type 0 where
  pub rest : List (List ℕ)
  pub then : FollowNodes plan t 1 w rest
  pub are : lines ≡ answer_lines t answers ++ rest
