-- A run that was made, what holds of it, and its text, as the output of a command.
use Rattle.std.proofs.Common.{◌≡◌, ℕ, List, sym, subst}
use Rattle.srp_base.specs.declared.ports.PortChange.{PortChange}
use Rattle.frame_flow.specs.declared.result.PortFlow.{PortFlow}
use Rattle.topology_file.specs.Plan.{Plan}
use Rattle.world_core.specs.declared.journal.Tick.{Tick}
use Rattle.world_core.specs.World.{WorldState}
use Rattle.srpnet.specs.{HoldsThroughout, IsReported, IsRun, Text}

-- the output of such a run prints its text, and has its ticks
pub reported_as : (Lead : Plan → List Tick → WorldState → Type 0) (text_of : Text) (plan : Plan) (ticks : List Tick) (world : WorldState)
    (changes : List PortChange) (flows : List PortFlow) → IsRun Lead plan ticks world changes flows → HoldsThroughout plan ticks flows
    → (printed_ticks : List Tick) (text : List ℕ) → printed_ticks ≡ ticks → text ≡ text_of plan ticks world flows
    → IsReported Lead text_of plan printed_ticks text
reported_as Lead text_of plan ticks world changes flows run holds printed_ticks text same printed =
    subst (λ ts. IsReported Lead text_of plan ts text) (sym same)
    (record { world = world; changes = changes; flows = flows; run = run; printed = printed; holds = holds })
