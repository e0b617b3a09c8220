use Rattle.srpnet.proofs.RunLemmas.{one_run}
use Rattle.srpnet.proofs.audit.laws.a_run_has_one_flow.Goals as goal

pub returns : goal.returns
returns c = one_run c.one_flow.ensures c.what_is_in_force_decides_a_flow.ensures
