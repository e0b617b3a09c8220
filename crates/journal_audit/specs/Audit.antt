-- What an audit answers.
use Rattle.std.specs.Prelude.{◌≡◌, ◌≤◌, ◌-◌, ◌⊎◌, ℕ, suc, List, length, map, take, slice_get, flat_map, Option}
use Rattle.std.specs.List.{range_with_len}
use Rattle.tree_topology.specs.Ports.{neighbours}
use Rattle.frame_flow.specs.Copies.{port_of}
use Rattle.topology_file.specs.Plan.{Plan}
use Rattle.world_core.specs.declared.journal.Tick.{Tick}
use Rattle.world_core.specs.{World.WorldState, Ticks.AreLegalTicks, Timeline.IsTimelineOf}
use Rattle.report_words.specs.Names.{port_name}
use Rattle.journal_audit.specs.declared.{form.Known.Known, verdict.Verdict.Verdict, verdict.Verdict.TheVariants.Legal, verdict.Verdict.TheVariants.No}
use Rattle.journal_audit.specs.declared.{verdict.Finding.Finding, verdict.Finding.TheVariants.Replayed, verdict.Finding.TheVariants.Unformed, verdict.Finding.TheVariants.Parted}
use Rattle.journal_audit.specs.{Texts.lines_of, Form.AreFormed, Form.IsFirstUnformed, Journal.ticks_lines, Journal.journal_text}

-- the names of a node's ports
abbrev pub names_at : Plan → ℕ → List (List ℕ)
names_at plan x =
    map (λ k. port_name plan.nodes plan.tree.links (port_of x k)) (range_with_len 1 (length (neighbours plan.tree.links x)))

-- what a scenario's journal may name: its ticks, its events, and the ports of its tree
abbrev pub known_of : Plan → Known
known_of plan =
    record {
      ticks = plan.ticks;
      events = length plan.events;
      ports = flat_map (names_at plan) (range_with_len 1 (length plan.tree.kinds));
    }

-- a text is that of the journal of these legal ticks
pub record IsJournalOf (plan : Plan) (text : List ℕ) (ticks : List Tick) (end : WorldState) : Type 0 where
  pub legal : AreLegalTicks plan ticks end
  pub text_is : text ≡ journal_text plan ticks

-- the journal of some legal ticks has the first so many lines of a text
abbrev pub AgreesFor : Plan → List ℕ → ℕ → Type 0
AgreesFor plan text count =
    (ticks : List Tick) × (end : WorldState) × AreLegalTicks plan ticks end × (take count (ticks_lines plan 0 ticks) ≡ take count (lines_of text))

-- the first so many lines of a text are those of a legal journal, and no legal journal has one line
-- more of it, or ends there
pub record IsFirstIllegal (plan : Plan) (text : List ℕ) (count : ℕ) : Type 0 where
  pub before : AgreesFor plan text count
  pub here : AgreesFor plan text (suc count) → ⊥

-- A text isn't the journal of a run. At a line the cause is 2 where this is the first that isn't of
-- the form; it is 3 where all lines are of it, and this is the first with which no legal journal
-- agrees, or the one past the last.
abbrev pub IsRefusal : Plan → List ℕ → ℕ → ℕ → Type 0
IsRefusal plan text line why =
    (1 ≤ line)
    × (((why ≡ 2) × IsFirstUnformed (known_of plan) text (line - 1))
    ⊎ ((why ≡ 3) × AreFormed (known_of plan) 0 (lines_of text) × IsFirstIllegal plan text (line - 1)))

-- a verdict on a text
abbrev pub IsVerdict : Plan → List ℕ → Verdict → Type 0
IsVerdict plan text (Legal run) =
    IsJournalOf plan text run.journal.ticks run.world × IsTimelineOf plan run.journal.ticks run.timeline.changes
IsVerdict plan text (No line why) = IsRefusal plan text line why × ((ticks : List Tick) (end : WorldState) → IsJournalOf plan text ticks end → ⊥)

-- a verdict refuses the line behind so many, with this why
abbrev pub RefusesBehind : ℕ → Verdict → ℕ → Type 0
RefusesBehind why verdict count = verdict ≡ No (suc count) why

-- ---- what a legal run has where a text parts from all

-- some legal ticks have the first so many lines of a text, and behind them this line, or they end
-- there
pub record GoesOnWith (plan : Plan) (text : List ℕ) (count : ℕ) (legal : Option (List ℕ)) : Type 0 where
  pub ticks : List Tick
  pub end : WorldState
  pub run : AreLegalTicks plan ticks end
  pub agree : take count (ticks_lines plan 0 ticks) ≡ take count (lines_of text)
  pub next : slice_get (ticks_lines plan 0 ticks) count ≡ legal

-- the verdict that a finding comes to
abbrev pub verdict_of : Finding → Verdict
verdict_of (Replayed run) = Legal run
verdict_of (Unformed line) = No line 2
verdict_of (Parted line legal) = No line 3

-- the line that a finding tells is one that a legal run has there
abbrev pub TellsLegal : Plan → List ℕ → Finding → Type 0
TellsLegal plan text (Replayed run) = Unit {0}
TellsLegal plan text (Unformed line) = Unit {0}
TellsLegal plan text (Parted line legal) = GoesOnWith plan text (line - 1) legal
