-- The turn of a port in a tick: what its thread is given, and what it hands back.
use Rattle.std.specs.Prelude.{◌≡◌, ◌≤◌, ◌+◌, ◌-◌, ℕ, List, [], length, map, take, Some, slice_get}
use Rattle.std.specs.Option.{option_map_or}
use Rattle.node_core.specs.declared.types.PortStep.{PortStep}
use Rattle.turn_lock.specs.History.{ask_of, calls_of}
use Rattle.bridge_book.specs.declared.shared.PortAsk.{PortAsk}
use Rattle.bridge_book.specs.Hub.{Hub, PortPass}
use Rattle.port_worker.specs.declared.turn.Turn.{Turn}

-- what the pass of a number asks for these steps of its port
abbrev pub asks_of : ℕ → List PortStep → List PortAsk
asks_of number steps = map (λ step. record { port = record { 0 = number }; step = step }) steps

-- what a pass has asked so far
abbrev pub asked_by : PortPass → List PortAsk
asked_by pass = map ask_of (calls_of pass.number pass.seen)

-- the jobs of a pass's port, by the jobs of all ports of its node
abbrev pub own_jobs : List (List PortStep) → PortPass → List PortStep
own_jobs jobs pass = option_map_or (λ steps. steps) (slice_get jobs (pass.number - 1)) []

-- a port has done the first so many of its jobs at a hub, and has asked for nothing else
pub record IsTurn (hub : Hub) (jobs : List (List PortStep)) (turn : Turn) : Type 0 where
  pub lock : turn.pass.lock ≡ hub.lock
  pub few : turn.done ≤ length (own_jobs jobs turn.pass)
  pub made : asked_by turn.pass ≡ asks_of turn.pass.number (take turn.done (own_jobs jobs turn.pass))

-- the first ports of a hub's node have had their turns, ports ascending
abbrev pub AreTaken : Hub → List (List PortStep) → List Turn → Type 0
AreTaken hub jobs turns = (k : ℕ) (turn : Turn) → slice_get turns k ≡ Some turn → (turn.pass.number ≡ k + 1) × IsTurn hub jobs turn

-- each port of a hub's node has had its turn, ports ascending
pub record AreTurns (hub : Hub) (jobs : List (List PortStep)) (turns : List Turn) : Type 0 where
  pub count : length turns ≡ hub.lock.passes
  pub each : AreTaken hub jobs turns

-- a port has done all its jobs at a hub, and has asked for nothing else
pub record IsDone (hub : Hub) (jobs : List (List PortStep)) (pass : PortPass) : Type 0 where
  pub lock : pass.lock ≡ hub.lock
  pub made : asked_by pass ≡ asks_of pass.number (own_jobs jobs pass)

-- these are the passes of the first ports of a hub's node, ports ascending, each of which has done
-- all its jobs
abbrev pub AreDone : Hub → List (List PortStep) → List PortPass → Type 0
AreDone hub jobs passes =
    (k : ℕ) (pass : PortPass) → slice_get passes k ≡ Some pass → (pass.number ≡ k + 1) × IsDone hub jobs pass
