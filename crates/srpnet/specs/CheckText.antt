-- What `srpnet check` prints: what a scenario holds, by its counts.
use Rattle.std.specs.Prelude.{◌≡◌, ℕ, List, [], ◌∷◌, ◌++◌, length, codes, Ok}
use Rattle.std.specs.Fmt.{decimal}
use Rattle.srp_base.specs.Text.{whole_of}
use Rattle.topology_file.specs.{Frames.frame_copies, Plan.Plan}
use Rattle.srpnet.specs.ScenarioInput.{scenario_input}

-- the counts of the network, a line each
abbrev pub network_lines : Plan → List ℕ
network_lines plan = whole_of (
    codes "nodes " ∷ decimal (length plan.nodes)
    ∷ codes "\nlinks " ∷ decimal (length plan.links)
    ∷ codes "\nstreams " ∷ decimal (length plan.streams)
    ∷ codes "\n" ∷ [])

-- the counts of what happens in it, a line each; frames count their copies
abbrev pub run_lines : Plan → List ℕ
run_lines plan = whole_of (
    codes "events " ∷ decimal (length plan.events)
    ∷ codes "\nframes " ∷ decimal (frame_copies plan.frames)
    ∷ codes "\nticks " ∷ decimal plan.ticks
    ∷ codes "\n" ∷ [])

-- all of them
abbrev pub check_text : Plan → List ℕ
check_text plan = network_lines plan ++ run_lines plan

-- The output of the command `check` for an input of these octets: they are a scenario, and the text
-- is that of its counts.
pub record CheckOutput (octets text : List ℕ) : Type 0 where
  pub plan : Plan
  pub read : scenario_input octets ≡ Ok plan
  pub printed : text ≡ check_text plan
