-- What `srpnet gen` prints of a number: the summary of a run of the number's scenario, or the
-- scenario as a file.
use Rattle.std.specs.Prelude.{◌≡◌, ℕ, List}
use Rattle.scenario_generator.specs.Generated.{IsDrawn}
use Rattle.topology_file.specs.Plan.{Plan}
use Rattle.plan_text.specs.Text.{file_text}
use Rattle.world_core.specs.declared.journal.Tick.{Tick}
use Rattle.world_core.specs.Ticks.{AreCanonicalTicks}
use Rattle.srp_report.specs.Summary.{summary_text}
use Rattle.srpnet.specs.RunText.{IsReported, Text}

-- what `gen` prints of a run
abbrev pub summary_alone : Text
summary_alone plan ticks world flows = summary_text plan world ticks

-- The output of `gen` for a number, with the ticks of its run: the scenario is the number's, and
-- the text is what is printed of that run of it. What holds of the run is as where a scenario is
-- read.
pub record GeneratedOutput (number : ℕ) (ticks : List Tick) (text : List ℕ) : Type 0 where
  pub plan : Plan
  pub drawn : IsDrawn number plan
  pub reported : IsReported AreCanonicalTicks summary_alone plan ticks text

-- The output of `gen` for a number and `plan`: the number's scenario as a file.
pub record IsGeneratedPlan (number : ℕ) (text : List ℕ) : Type 0 where
  pub plan : Plan
  pub drawn : IsDrawn number plan
  pub printed : text ≡ file_text plan
