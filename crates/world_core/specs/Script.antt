-- The events of a file with their answers.
use Rattle.std.specs.Prelude.{ℕ, List, [], ◌∷◌, Option, Some, None}
use Rattle.world_core.specs.declared.{events.WorldEvent.WorldEvent, events.WorldReply.WorldReply}
use Rattle.world_core.specs.World.{WorldState, world_step}

-- what the event of an entry answers, with the entry's number; nothing where the entry has no event
abbrev pub answer_of : ℕ → Option WorldEvent → WorldState → List (ℕ × WorldReply)
answer_of n None w = []
answer_of n (Some e) w = (n, (world_step e w).1) ∷ []

-- the network after the event of an entry; as it was where the entry has no event
abbrev pub after_entry : Option WorldEvent → WorldState → WorldState
after_entry None w = w
after_entry (Some e) w = (world_step e w).0

-- what events answer, one after the other, each with its number
abbrev pub answers_to : List (ℕ × WorldEvent) → WorldState → List (ℕ × WorldReply)
answers_to [] w = []
answers_to (e ∷ later) w = (e.0, (world_step e.1 w).1) ∷ answers_to later (world_step e.1 w).0
