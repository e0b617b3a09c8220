use Rattle.std.specs.Prelude.{IsTrue}
use Rattle.frame_flow.proofs.OriginLemmas.{along}
use Rattle.frame_flow.proofs.laws.what_is_handed_on_holds_at_every_port.Goals as goal

pub returns : goal.returns
returns c tree test p sound rule port = along tree (c.ports.ensures tree sound) (λ q. IsTrue (test q)) rule p port
