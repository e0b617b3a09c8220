use Rattle.std.proofs.Common.{◌≡◌, IfOk, subst}
use Rattle.world_core.specs.{WorldEvent, world_step}
use Rattle.world_core.proofs.world.World.step_copy.Goals as goal

pub returns-clause-ok : goal.returns-clause-ok
returns-clause-ok c =
    subst (λ (e : WorldEvent). IfOk c.step.result (λ reply. world_step e c.args.self.now ≡ (c.step.new.self, reply))) c.in_ok-copy.ensures c.step.ensures.ok
