use Rattle.port_needs.proofs.AskedLemmas.{asked_is_wished}
use Rattle.port_needs.proofs.laws.what_is_wished_is_asked.Goals as goal

pub returns : goal.returns
returns c plan wishes p want = asked_is_wished plan wishes p want
