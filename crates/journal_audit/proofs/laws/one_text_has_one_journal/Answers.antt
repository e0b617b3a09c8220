use Rattle.std.proofs.Common.{◌≡◌, ℕ, List, sym, ◌∙◌}
use Rattle.topology_file.specs.Plan.{Plan}
use Rattle.world_core.specs.declared.journal.Tick.{Tick}
use Rattle.world_core.specs.{World.WorldState, Start.world_of}
use Rattle.journal_audit.specs.{IsJournalOf, ReplayLaws}
use Rattle.journal_audit.proofs.{RunLemmas.journal_lines_are, OneTextLemmas.ticks_same}
use Rattle.journal_audit.proofs.laws.one_text_has_one_journal.Goals as goal

same : (plan : Plan) → ReplayLaws plan → (text : List ℕ) (ticks others : List Tick) (end last : WorldState) → IsJournalOf plan text ticks end → IsJournalOf plan text others last
    → (ticks ≡ others) × (end ≡ last)
same plan laws text ticks others end last h k =
    ticks_same plan laws 0 (world_of plan) end last ticks others laws.begins h.legal k.legal
    (sym (journal_lines_are plan laws text ticks end h) ∙ journal_lines_are plan laws text others last k)

pub returns-clause-ticks : goal.returns-clause-ticks
returns-clause-ticks c plan text ticks others end last rules h k = (same plan (c.laws_of_replays.ensures plan rules) text ticks others end last h k).0

pub returns-clause-ends : goal.returns-clause-ends
returns-clause-ends c plan text ticks others end last rules h k = (same plan (c.laws_of_replays.ensures plan rules) text ticks others end last h k).1
