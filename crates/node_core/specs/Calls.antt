-- What calls at one application, or at one of both, make of it: words of this crate's own calls.
use Rattle.std.specs.Prelude.{◌≡◌, ℕ, List, length, Option, Some, None, Result, Ok, Err}
use Rattle.srp_base.specs.declared.{numbers.Cs.Cs, mrp.App.App, mrp.App.TheVariants.Mvrp, mrp.App.TheVariants.Msrp, memory.NoMemory.NoMemory}
use Rattle.mvrp_codec.specs.Meaning.{mvrp_reading}
use Rattle.msrp_codec.specs.Meaning.{msrp_reading}
use Rattle.attribute_propagation.specs.Ports.{count_of}
use Rattle.mvrp.specs.Side.{Vlans, sent_vlans}
use Rattle.msrp.specs.Side.{Streams, sent_streams}
use Rattle.node_core.specs.declared.{types.Wire.Wire, types.StepReply.StepReply, types.StepReply.TheVariants.Silent, types.StepReply.TheVariants.Sent}
use Rattle.node_core.specs.Step.{worked_mvrp, worked_msrp, said_mvrp, said_msrp, with_octets}

-- one of both applications has taken a PDU, and the other one is as it was
abbrev pub HasOneTaken : App → Cs → ℕ → List ℕ → Vlans → Streams → StepReply → Vlans → Streams → Type 0
HasOneTaken Mvrp now at octets v t reply v' t' =
    (worked_mvrp now at (mvrp_reading octets) v ≡ (v', reply)) × (t' ≡ t)
HasOneTaken Msrp now at octets v t reply v' t' =
    (worked_msrp now at (msrp_reading octets) t ≡ (t', reply)) × (v' ≡ v)

-- an application and its outbox once these octets are said, or nothing, and what the port answers
abbrev pub outcome_of_saying : {S : Type 0} → App → Option (List ℕ) → S → S → List Wire → S × List Wire × StepReply
outcome_of_saying app None before after outbox = (before, outbox, Silent)
outcome_of_saying app (Some octets) before after outbox =
    (after, with_octets app octets outbox, Sent (count_of (length octets)))

-- what an application has to say is said into its outbox; after want of memory both are as they
-- were
abbrev pub IsSaying : {S : Type 0} → App → Option (List ℕ) → S → S → List Wire → Result StepReply NoMemory → S → List Wire → Type 0
IsSaying app octets before after outbox (Ok reply) side outbox' =
    outcome_of_saying app octets before after outbox ≡ (side, outbox', reply)
IsSaying app octets before after outbox (Err e) side outbox' =
    (side ≡ before) × (outbox' ≡ outbox)

-- one of both applications has said what it has to say so, and the other one is as it was
abbrev pub HasOneSaid : App → Cs → ℕ → Vlans → Streams → List Wire → Result StepReply NoMemory → Vlans → Streams → List Wire → Type 0
HasOneSaid Mvrp now at v t outbox result v' t' outbox' =
    IsSaying Mvrp (said_mvrp now at v) v (sent_vlans now at v) outbox result v' outbox' × (t' ≡ t)
HasOneSaid Msrp now at v t outbox result v' t' outbox' =
    IsSaying Msrp (said_msrp now at t) t (sent_streams now at t) outbox result t' outbox' × (v' ≡ v)
