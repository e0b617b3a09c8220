-- What is printed of a run's journal: in each tick the scripted events with what became of them,
-- and then the steps in the journal's order. A tick in which nothing happened prints nothing.
use Rattle.std.specs.Prelude.{ℕ, ◌+◌, List, [], ◌∷◌, ◌++◌, codes, flat_map}
use Rattle.topology_file.specs.Plan.{Plan}
use Rattle.world_core.specs.declared.{events.WorldReply.WorldReply, journal.NodeSteps.NodeSteps, journal.Tick.Tick}
use Rattle.world_core.specs.Missed.{is_missed}
use Rattle.journal_lines.specs.Lines.{event_line, line_at}

-- ---- the lines of a tick

-- an event with its answer, by the number of its entry
abbrev pub answer_line : ℕ → ℕ × WorldReply → List ℕ
answer_line t e = event_line t e.0 (is_missed e.1)

-- the steps of a node
abbrev pub step_lines : Plan → ℕ → NodeSteps → List ℕ
step_lines plan t ns = flat_map (line_at plan t ns.node) ns.steps

-- a tick
abbrev pub tick_lines : Plan → ℕ → Tick → List ℕ
tick_lines plan t tick = flat_map (answer_line t) tick.events ++ flat_map (step_lines plan t) tick.steps

-- ---- the text

-- those of some ticks, of which the first has number t
abbrev pub ticks_lines : Plan → ℕ → List Tick → List ℕ
ticks_lines plan t [] = []
ticks_lines plan t (tick ∷ ticks) = tick_lines plan t tick ++ ticks_lines plan (t + 1) ticks

-- of a scenario and the ticks of a run
abbrev pub journal_text : Plan → List Tick → List ℕ
journal_text plan ticks = codes "journal\n" ++ ticks_lines plan 0 ticks
