use Rattle.world_core.specs.{IsLegalTick, IsCanonicalTick}
use Rattle.world_core.proofs.Runs.{one_more}
use Rattle.world_core.proofs.laws.ticks_go_on.Goals as goal

pub returns-clause-legal : goal.returns-clause-legal
returns-clause-legal c = λ plan t t' w v ticks tick h here. one_more (IsLegalTick plan) plan ticks t t' w v tick h here

pub returns-clause-canonical : goal.returns-clause-canonical
returns-clause-canonical c = λ plan t t' w v ticks tick h here. one_more (IsCanonicalTick plan) plan ticks t t' w v tick h here
