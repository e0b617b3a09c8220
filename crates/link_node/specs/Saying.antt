-- What was said into an outbox.
use Rattle.std.specs.Prelude.{◌≡◌, ℕ, List, [], ◌∷◌, ◌++◌, length, Option, Some, None, Result, Ok, Err}
use Rattle.srp_base.specs.declared.memory.NoMemory.{NoMemory}
use Rattle.attribute_propagation.specs.Ports.{count_of}
use Rattle.link_app.specs.Wires.{NamedOctets}
use Rattle.link_node.specs.declared.steps.StepReply.{StepReply}
use Rattle.link_node.specs.declared.steps.StepReply.TheVariants.{Silent, Sent}

module _ {State Name : Type 0} where
  -- the application and its outbox once these octets are said, or nothing, and what the port
  -- answers
  abbrev pub outcome_of_saying :
      Name → Option (List ℕ) → State → State → List (NamedOctets Name)
      → State × List (NamedOctets Name) × StepReply
  outcome_of_saying n None before after outbox = (before, outbox, Silent)
  outcome_of_saying n (Some octets) before after outbox =
      (after, outbox ++ (record { app = n; octets = octets } ∷ []), Sent (count_of (length octets)))

  -- what there is to say is said into the outbox; after want of memory both are as they were
  abbrev pub IsSaying :
      Name → Option (List ℕ) → State → State → List (NamedOctets Name)
      → Result StepReply NoMemory → State → List (NamedOctets Name) → Type 0
  IsSaying n octets before after outbox (Ok reply) new outbox' =
      outcome_of_saying n octets before after outbox ≡ (new, outbox', reply)
  IsSaying n octets before after outbox (Err e) new outbox' = (new ≡ before) × (outbox' ≡ outbox)
