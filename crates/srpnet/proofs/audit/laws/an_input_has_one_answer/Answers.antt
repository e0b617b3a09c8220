use Rattle.srpnet.proofs.WhyLemmas.{one_input}
use Rattle.srpnet.proofs.audit.laws.an_input_has_one_answer.Goals as goal

pub returns : goal.returns
returns c = one_input c.read_scenarios_keep_the_rules.ensures c.an_audit_ends_one_way.ensures
