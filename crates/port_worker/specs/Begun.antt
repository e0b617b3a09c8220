-- The turn of a port that a thread takes, or that is taken.
use Rattle.std.specs.Prelude.{◌≡◌, ℕ, ◌+◌, List, length, slice_get, Some}
use Rattle.node_core.specs.declared.types.PortStep.{PortStep}
use Rattle.bridge_book.specs.Hub.{Hub}
use Rattle.port_worker.specs.declared.port_threads.Begun.{Begun}
use Rattle.port_worker.specs.declared.port_threads.Begun.TheVariants.{There, Here}
use Rattle.port_worker.specs.Turns.{IsTurn}

-- the turn of the pass of this number at a hub, of these jobs, is promised or taken
abbrev pub IsBegun : Hub → List (List PortStep) → ℕ → Begun → Type 0
IsBegun hub jobs number (There thread) =
    (thread.promise.hub.now ≡ hub) × (thread.promise.jobs.now ≡ jobs) × (thread.promise.number ≡ number)
IsBegun hub jobs number (Here turn) = (turn.pass.number ≡ number) × IsTurn hub jobs turn

-- the turns of the first ports of a hub's node are promised or taken, ports ascending
abbrev pub ArePartly : Hub → List (List PortStep) → List Begun → Type 0
ArePartly hub jobs all = (k : ℕ) (begun : Begun) → slice_get all k ≡ Some begun → IsBegun hub jobs (k + 1) begun

-- the turn of each port of a hub's node is promised or taken, ports ascending
pub record AreBegun (hub : Hub) (jobs : List (List PortStep)) (all : List Begun) : Type 0 where
  pub count : length all ≡ hub.lock.passes
  pub each : ArePartly hub jobs all
