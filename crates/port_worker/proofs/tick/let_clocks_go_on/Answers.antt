use Rattle.std.proofs.Common.{ap, sym}
use Rattle.world_core.specs.World.{Happened}
use Rattle.port_worker.proofs.tick.let_clocks_go_on.Goals as goal

pub returns : goal.returns
returns c = ap (λ (h : Happened). h.0) (sym {A = Happened} c.in_ok-step.ensures.ok)
