-- The replay of a journal, part by part: what has been read, and where it is stuck.
use Rattle.std.specs.Prelude.{◌≡◌, ◌≢◌, ◌<◌, ◌≤◌, ◌^◌, ℕ, suc, ◌+◌, Bool, List, [], ◌∷◌, ◌++◌, length, map, slice_set, Some}
use Rattle.std.specs.List.{AllByRecursion}
use Rattle.srp_base.specs.declared.{numbers.NodeNo.NodeNo, numbers.EgressPort.EgressPort}
use Rattle.tree_topology.specs.{Topology.HasNode, Topology.HasPort, Topology.link_ports, Ports.neighbours}
use Rattle.attribute_propagation.specs.Ports.{place_of}
use Rattle.topology_file.specs.{Plan.Plan, Scenario.KeepsRules}
use Rattle.node_core.specs.declared.{types.NodeStep.NodeStep, types.PortStep.PortStep}
use Rattle.world_core.specs.declared.{events.WorldEvent.WorldEvent, events.WorldReply.WorldReply, journal.NodeSteps.NodeSteps, journal.Run.Run, journal.Tick.Tick}
use Rattle.world_core.specs.declared.events.WorldEvent.TheVariants.{Port, Carry, Clock}
use Rattle.world_core.specs.declared.events.WorldReply.TheVariants.{Step, Done, Missed}
use Rattle.world_core.specs.{World.WorldState, World.CanHappen, World.world_step, World.world_after, Apart.events_of, Ticks.script_at, Ticks.step_events, Ticks.closing_events, Ticks.tick_events, Ticks.after_steps, Ticks.IsLegalTick, Ticks.LeadTo, Start.world_of, Carrying.NothingWaits, History.HistoryState, NotedRuns.IsNotedRun, During.IsDuring, During.IsAllowed, OneByOne.node_jobs, OneByOne.IsNextJob, OneByOne.MakeLeft, OneByOne.MakeAll, OneByOne.IsOneByOne}
use Rattle.report_words.specs.Names.{port_name}
use Rattle.journal_lines.specs.Lines.{place_text, event_line, line_at, IsLine}
use Rattle.journal_audit.specs.{Texts.lines_of, Reading.Reading, Reading.IsTaken, Reading.AreTaken, Reading.HasRead, Journal.answer_line, Journal.answer_lines, Journal.made_lines, Journal.steps_lines, Journal.tick_lines, Journal.ticks_lines, Follow.FollowTicks, Follow.FollowNodes, Follow.FollowJobs, Follow.nodes_from}

-- what the replay rests on: the laws of ticks and of lines, of one scenario
pub record ReplayLaws (plan : Plan) : Type 0 where
  pub rules : KeepsRules plan
  pub begins : IsDuring plan.tree 0 (world_of plan)
  pub made : (t : ℕ) (w : WorldState) (tick : Tick) → IsDuring plan.tree t w → IsLegalTick plan t w tick → IsOneByOne plan t w tick
  pub legal : (t : ℕ) (w : WorldState) (tick : Tick) → IsDuring plan.tree t w → IsOneByOne plan t w tick → IsLegalTick plan t w tick
  pub rest : (t : ℕ) (w : WorldState) → t ≤ plan.ticks → IsDuring plan.tree t w → (ticks : List Tick) × ((end : WorldState) × LeadTo (IsLegalTick plan) plan t w ticks plan.ticks end)
  pub count : (t x : ℕ) (w : WorldState) → IsDuring plan.tree t w → HasNode plan.tree x → length (node_jobs (record { 0 = x }) w) ≡ length (neighbours plan.tree.links x)
  pub jobs : (t x : ℕ) (left : List (List PortStep)) (w : WorldState) → IsDuring plan.tree t w → HasNode plan.tree x → length left ≡ length (neighbours plan.tree.links x)
      → (made : List NodeStep) × MakeLeft (record { 0 = x }) left w made × IsDuring plan.tree t (world_after (events_of (record { 0 = x }) made) w)
  pub nodes : (t x count : ℕ) (w : WorldState) → IsDuring plan.tree t w → 1 ≤ x → x + count ≡ suc (length plan.tree.kinds)
      → (steps : List NodeSteps) × MakeAll x count w steps × IsDuring plan.tree t (world_after (step_events steps) w)
  pub stay : (t : ℕ) (es : List WorldEvent) (w : WorldState) → AllByRecursion (IsAllowed plan.tree) es → IsDuring plan.tree t w → IsDuring plan.tree t (world_after es w)
  pub clock : (t : ℕ) (w : WorldState) → t < 2 ^ 61 → IsDuring plan.tree t w → CanHappen Clock w
  pub next : (t : ℕ) (w : WorldState) → t < 2 ^ 61 → IsDuring plan.tree t w → IsDuring plan.tree (suc t) (world_step Clock w).0
  pub scripted : (t : ℕ) → AllByRecursion (IsAllowed plan.tree) (map (λ (e : ℕ × WorldEvent). e.1) (script_at plan t))
  pub carried : AllByRecursion (IsAllowed plan.tree) (map Carry (link_ports plan.tree))
  pub tells : (t : ℕ) (p q : EgressPort) (a b : List ℕ) → HasPort plan.tree p → HasPort plan.tree q → p.node ≡ q.node
      → place_text t (port_name plan.nodes plan.tree.links p) ++ a ≡ place_text t (port_name plan.nodes plan.tree.links q) ++ b
      → p ≡ q
  pub event : (t entry : ℕ) (missed : Bool) → IsLine (event_line t entry missed)
  pub next_tick : (t : ℕ) (w : WorldState) (tick : Tick) → t < plan.ticks → IsDuring plan.tree t w → IsLegalTick plan t w tick → IsDuring plan.tree (suc t) (world_after (tick_events plan t tick) w)
  pub line : (t : ℕ) (n : NodeNo) (st : NodeStep) → HasPort plan.tree (record { node = n; port = st.port }) → IsLine (line_at plan t n st)

-- ---- what has been made, and read

-- some of the answers of scripted events have been read, and the next line isn't that of the next
-- one, which was asked for
pub record IsOtherAnswer (t : ℕ) (answers : List (ℕ × WorldReply)) (from to : Reading) : Type 0 where
  pub front : List (ℕ × WorldReply)
  pub next : ℕ × WorldReply
  pub behind : List (ℕ × WorldReply)
  pub are : answers ≡ front ++ next ∷ behind
  pub taken : AreTaken (answer_lines t front) from to
  pub wanted : to.wanted ≡ Some (answer_line t next)
  pub other : (lines : List (List ℕ)) → lines_of to.rest ≢ answer_line t next ∷ lines

-- a port of node x has made its next job, and its line has been read
pub record IsStepRead (plan : Plan) (t x : ℕ) (left left' : List (List PortStep)) (w w' : WorldState) (st : NodeStep) (from to : Reading) : Type 0 where
  pub rest : List PortStep
  pub next : IsNextJob (record { 0 = x }) left w st rest
  pub left_is : left' ≡ slice_set left (place_of st.port) rest
  pub reached : w' ≡ (world_step (Port (record { 0 = x }) st.port st.step) w).0
  pub taken : IsTaken (line_at plan t (record { 0 = x }) st) from to

-- node x has made some of the jobs that its ports had left, and their lines have been read
pub record IsPartRead (plan : Plan) (t x : ℕ) (left : List (List PortStep)) (w : WorldState) (from : Reading) (made : List NodeStep) (left' : List (List PortStep)) (w' : WorldState)
    (to : Reading) : Type 0 where
  pub goes_on : (later : List NodeStep) → MakeLeft (record { 0 = x }) left' w' later → MakeLeft (record { 0 = x }) left w (made ++ later)
  pub reached : w' ≡ world_after (events_of (record { 0 = x }) made) w
  pub during : IsDuring plan.tree t w'
  pub long : length left' ≡ length (neighbours plan.tree.links x)
  pub read : HasRead (FollowJobs plan t x left w) from (made_lines plan t (record { 0 = x }) made) (FollowJobs plan t x left' w') to

-- node x has made all jobs that its ports had left
pub record IsNodeRead (plan : Plan) (t x : ℕ) (left : List (List PortStep)) (w : WorldState) (from : Reading) (made : List NodeStep) (w' : WorldState) (to : Reading) : Type 0 where
  pub jobs : MakeLeft (record { 0 = x }) left w made
  pub reached : w' ≡ world_after (events_of (record { 0 = x }) made) w
  pub during : IsDuring plan.tree t w'
  pub read : HasRead (FollowJobs plan t x left w) from (made_lines plan t (record { 0 = x }) made) (FollowNodes plan t (suc x) w') to

-- the nodes before number x have made their jobs of tick t
pub record AreNodesRead (plan : Plan) (t x : ℕ) (w : WorldState) (from : Reading) (steps : List NodeSteps) (w' : WorldState) (to : Reading) : Type 0 where
  pub goes_on : (later : List NodeSteps) → MakeAll x (nodes_from plan x) w' later → MakeAll 1 (nodes_from plan 1) w (steps ++ later)
  pub reached : w' ≡ world_after (step_events steps) w
  pub during : IsDuring plan.tree t w'
  pub read : HasRead (FollowNodes plan t 1 w) from (steps_lines plan t steps) (FollowNodes plan t x w') to

-- tick t has been read up to its last step
pub record IsTickRead (plan : Plan) (t : ℕ) (w : WorldState) (from : Reading) (tick : Tick) (w' : WorldState) (to : Reading) : Type 0 where
  pub legal : IsLegalTick plan t w tick
  pub reached : w' ≡ after_steps plan t tick w
  pub during : IsDuring plan.tree t w'
  pub read : HasRead (FollowTicks plan t w) from (tick_lines plan t tick) (FollowTicks plan (suc t) (world_after (closing_events plan.tree) w')) to

-- the ticks before tick t have been read and noted
pub record AreTicksRead (plan : Plan) (t : ℕ) (from : Reading) (ticks : List Tick) (w : WorldState) (history : HistoryState) (to : Reading) : Type 0 where
  pub noted : IsNotedRun plan t ticks w history.changes
  pub tree : history.tree ≡ plan.tree
  pub waits : NothingWaits w
  pub read : HasRead (FollowTicks plan 0 (world_of plan)) from (ticks_lines plan 0 ticks) (FollowTicks plan t w) to

-- all ticks of a run have been read, to the last line
pub record IsRunRead (plan : Plan) (from : Reading) (run : Run) (to : Reading) : Type 0 where
  pub noted : IsNotedRun plan plan.ticks run.journal.ticks run.world run.timeline.changes
  pub lines : lines_of from.rest ≡ ticks_lines plan 0 run.journal.ticks
