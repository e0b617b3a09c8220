use Rattle.world_core.specs.Ticks.{AreCanonicalTicks, AreLegalTicks}
use Rattle.srpnet.proofs.{RunLemmas.approved, RunLemmas.journal_printed, PrintedLemmas.printed_approved}
use Rattle.srpnet.proofs.audit.laws.what_is_printed_is_approved.Goals as goal

pub returns-clause-text : goal.returns-clause-text
returns-clause-text c = journal_printed

pub returns-clause-yes : goal.returns-clause-yes
returns-clause-yes c = approved

pub returns-clause-ports : goal.returns-clause-ports
returns-clause-ports c =
    printed_approved c.read_scenarios_keep_the_rules.ensures c.no_line_of_a_report_is_journal.ensures AreLegalTicks (λ plan ticks end legal. legal)

pub returns-clause-run : goal.returns-clause-run
returns-clause-run c =
    printed_approved c.read_scenarios_keep_the_rules.ensures c.no_line_of_a_report_is_journal.ensures AreCanonicalTicks c.canonical_ticks_are_legal.ensures
