use Rattle.std.proofs.Common.{List, sym, subst}
use Rattle.node_core.specs.declared.types.NodeStep.{NodeStep}
use Rattle.srp_schedule.specs.{IsNodeMade}
use Rattle.srp_schedule.proofs.RestLemmas.{rest_made}
use Rattle.srp_schedule.proofs.steps.make_or_rest.Goals as goal

pub returns-then-rests_now-clause-made : goal.returns-then-rests_now-clause-made
returns-then-rests_now-clause-made c =
    subst (λ (made : List NodeStep). IsNodeMade c.args.number c.args.world.now c.args.world.now made) (sym c.new.ensures.items)
    (rest_made c.args.number c.args.world.now c.node.result.now.state c.node.ensures (c.rests_now.ensures.idle c.if-rests_now.true))
