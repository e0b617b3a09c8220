use Rattle.node_core.proofs.Rest.{rest-idle, rest-sooner, rest-clocked}
use Rattle.node_core.proofs.laws.a_node_at_rest_stays_so.Goals as goal

pub returns-clause-idle : goal.returns-clause-idle
returns-clause-idle c = λ s h. rest-idle s h

pub returns-clause-sooner : goal.returns-clause-sooner
returns-clause-sooner c = λ soon late s le h. rest-sooner soon late s le h

pub returns-clause-clock : goal.returns-clause-clock
returns-clause-clock c = λ until s kept h. rest-clocked until s kept h
