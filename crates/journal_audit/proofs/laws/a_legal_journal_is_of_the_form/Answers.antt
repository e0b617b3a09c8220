use Rattle.std.proofs.Common.{◌≡◌, ℕ, List, refl, sym, subst}
use Rattle.topology_file.specs.Plan.{Plan}
use Rattle.world_core.specs.Start.{world_of}
use Rattle.journal_audit.specs.{AreFormed, journal_text, known_of}
use Rattle.journal_audit.proofs.{RunLemmas.journal_lines_are, FormedLemmas.ticks_formed}
use Rattle.journal_audit.proofs.laws.a_legal_journal_is_of_the_form.Goals as goal

pub returns-clause-lines : goal.returns-clause-lines
returns-clause-lines c plan ticks end rules legal =
    journal_lines_are plan (c.laws_of_replays.ensures plan rules) (journal_text plan ticks) ticks end (record { legal = legal; text_is = refl })

pub returns-clause-ticks : goal.returns-clause-ticks
returns-clause-ticks c plan ticks end rules legal =
    let laws = c.laws_of_replays.ensures plan rules in
    let places = c.what_is_malformed_lies_within.ensures in
    ticks_formed plan laws places.vlans places.streams 0 (world_of plan) end ticks laws.begins legal

pub returns-clause-text : goal.returns-clause-text
returns-clause-text c plan text ticks end rules h =
    let laws = c.laws_of_replays.ensures plan rules in
    let places = c.what_is_malformed_lies_within.ensures in
    subst (AreFormed (known_of plan) 0) (sym (journal_lines_are plan laws text ticks end h)) (ticks_formed plan laws places.vlans places.streams 0 (world_of plan) end ticks laws.begins h.legal)
