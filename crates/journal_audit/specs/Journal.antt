-- The lines of a journal, and its text.
use Rattle.std.specs.Prelude.{ℕ, suc, List, [], ◌∷◌, ◌++◌, map, flat_map}
use Rattle.srp_base.specs.Text.{whole_of}
use Rattle.srp_base.specs.declared.numbers.NodeNo.{NodeNo}
use Rattle.topology_file.specs.Plan.{Plan}
use Rattle.node_core.specs.declared.types.NodeStep.{NodeStep}
use Rattle.world_core.specs.declared.{events.WorldReply.WorldReply, journal.NodeSteps.NodeSteps, journal.Tick.Tick}
use Rattle.world_core.specs.Missed.{is_missed}
use Rattle.journal_lines.specs.Lines.{event_line, line_at}

-- the line of an event with its answer, by the number of its entry
abbrev pub answer_line : ℕ → ℕ × WorldReply → List ℕ
answer_line t e = event_line t e.0 (is_missed e.1)

-- those of some events
abbrev pub answer_lines : ℕ → List (ℕ × WorldReply) → List (List ℕ)
answer_lines t answers = map (answer_line t) answers

-- those of the steps of a node
abbrev pub made_lines : Plan → ℕ → NodeNo → List NodeStep → List (List ℕ)
made_lines plan t node made = map (line_at plan t node) made

-- those of the steps of some nodes
abbrev pub steps_lines : Plan → ℕ → List NodeSteps → List (List ℕ)
steps_lines plan t nodes = flat_map (λ ns. made_lines plan t ns.node ns.steps) nodes

-- those of a tick: its events, and then its steps
abbrev pub tick_lines : Plan → ℕ → Tick → List (List ℕ)
tick_lines plan t tick = answer_lines t tick.events ++ steps_lines plan t tick.steps

-- those of some ticks, of which the first has number t
abbrev pub ticks_lines : Plan → ℕ → List Tick → List (List ℕ)
ticks_lines plan t [] = []
ticks_lines plan t (tick ∷ ticks) = tick_lines plan t tick ++ ticks_lines plan (suc t) ticks

-- what is printed of the ticks of a run, behind the line `journal`
abbrev pub journal_text : Plan → List Tick → List ℕ
journal_text plan ticks = whole_of (ticks_lines plan 0 ticks)
