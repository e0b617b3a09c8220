-- What contracts see of a hub, and what is left of it once it is closed, or isn't.
use Rattle.std.specs.Prelude.{◌≡◌, ℕ, ◌<◌, ◌≤◌, true, List, [], map, All}
use Rattle.srp_base.specs.declared.{numbers.PortNo.PortNo, numbers.NodeNo.NodeNo}
use Rattle.node_core.specs.State.{NodeState, ports_of}
use Rattle.node_core.specs.declared.{types.NodeStep.NodeStep, types.PortStep.PortStep, types.StepReply.StepReply}
use Rattle.turn_lock.specs.{History.Entry, History.Log, History.ask_of, History.answer_of, History.calls_of, History.last_state, History.IsHistory, Passes.Lock, Passes.PassOf, Passes.is_given, Calls.HasCalled, Closing.HasCallsOf}
use Rattle.bridge_book.specs.declared.{notice.Notice.Notice, notice.Told.Told, shared.PortAsk.PortAsk}
use Rattle.bridge_book.specs.Steps.{Shared, node_does, noted}

-- a hub: what a gate is told of its node, and the lock round the node
pub record Hub : Type 0 where
  pub number : NodeNo
  pub lock : Lock Shared

-- the steps of ports, in order, as a history of the node
abbrev pub Steps : Type 0
Steps = Log PortAsk Told

-- a pass for one port
abbrev pub PortPass : Type 0
PortPass = PassOf Shared PortAsk Told

-- the node that a hub began with
abbrev pub first_node : Hub → NodeState
first_node hub = hub.lock.start.node

-- a lock of a hub: it began with a node of which no step was noted, and has a pass for each of its
-- link ports
abbrev pub IsHubLock : Lock Shared → Type 0
IsHubLock lock = (lock.start.steps ≡ []) × (lock.start.notices ≡ []) × (lock.passes ≡ ports_of lock.start.node) × (lock.passes ≤ 255)

-- the port of a pass, and what is asked for it
abbrev pub port_of : PortPass → PortNo
port_of pass = record { 0 = pass.number }

abbrev pub ask_by : PortPass → PortStep → PortAsk
ask_by pass step = record { port = port_of pass; step = step }

-- an entry of a history as a step of its port
abbrev pub step_of : Entry PortAsk Told → NodeStep
step_of entry = noted (ask_of entry) (answer_of entry).reply

-- what an entry's step did to the PDUs on its port's link
abbrev pub notice_in : Entry PortAsk Told → Notice
notice_in entry = (answer_of entry).notice

-- a pass has made a step that was answered so, with some notice of the PDUs on its port's link
abbrev pub HasStepped : Hub → PortPass → PortStep → StepReply → (after : Steps) → Type 0
HasStepped hub pass step reply after =
    (notice : Notice) × HasCalled node_does (first_node hub) pass.number pass.seen (ask_by pass step) (record { reply = reply; notice = notice }) after

-- a closed hub: a history of the node's steps from the node that it began with, and the node that
-- it leaves
pub record HasClosedHub (hub : Hub) (passes : List PortPass) (node : NodeState) (steps : List NodeStep) (notices : List Notice) : Type 0 where
  pub history : Steps
  pub steps_are : steps ≡ map step_of history
  pub notices_are : notices ≡ map notice_in history
  pub legal : IsHistory node_does (first_node hub) history
  pub last : node ≡ last_state node_does (first_node hub) history
  -- each pass has seen a front of the history, whose entries of its number are exactly its calls
  pub calls : All (λ (p : PortPass). HasCallsOf history p.number p.seen) passes
  -- no entry has a number that isn't a pass's of the hub
  pub no_others : (number : ℕ) → (1 ≤ number → hub.lock.passes < number) → calls_of number history ≡ []
  -- each pass of the hub was given
  pub given : (number : ℕ) → 1 ≤ number → number ≤ hub.lock.passes → is_given passes number ≡ true
