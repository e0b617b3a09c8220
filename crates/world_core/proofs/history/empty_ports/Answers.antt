use Rattle.std.proofs.Common.{List, ◌++◌, ◌∷◌, [], ap, ◌∙◌}
use Rattle.srp_base.specs.declared.ports.PortChange.{PortChange}
use Rattle.world_core.proofs.Histories.{port_pushed}
use Rattle.world_core.proofs.history.empty_ports.Goals as goal

pub loop-preserved : goal.loop-preserved
loop-preserved c =
    λ x. c.in_ok-push.ensures.items ∙ ap (λ (cs : List PortChange). c.loop.ports.items ++ cs ∷ []) c.new.ensures ∙ port_pushed x c.loop.counter c.loop.ports.items (c.loop.invariant x)
