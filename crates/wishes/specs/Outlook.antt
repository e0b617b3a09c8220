-- What is printed behind the wishes of a run.
use Rattle.std.specs.Prelude.{ℕ, List, [], ◌∷◌}
use Rattle.srp_base.specs.Text.{whole_of}
use Rattle.topology_file.specs.Plan.{Plan}
use Rattle.world_core.specs.World.{WorldState, is_in_step, is_quiet}
use Rattle.report_words.specs.Lines.{end_lines}
use Rattle.wishes.specs.declared.moments.Moments.{Moments}
use Rattle.wishes.specs.{Doubts.doubts_text, RunMoments.moments_text}

-- what is doubted, the moments of the run, and how the network is at the end
abbrev pub outlook_text : Plan → WorldState → Moments → List ℕ
outlook_text plan w moments = whole_of (
    doubts_text plan w ∷ moments_text moments ∷ end_lines (is_quiet w) (is_in_step w) ∷ [])
