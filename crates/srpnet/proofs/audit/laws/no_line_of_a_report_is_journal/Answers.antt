use Rattle.srpnet.proofs.ReportLemmas.{report_block}
use Rattle.srpnet.proofs.audit.laws.no_line_of_a_report_is_journal.Goals as goal

pub returns : goal.returns
returns c plan world ticks flows rules = report_block plan rules world ticks flows
