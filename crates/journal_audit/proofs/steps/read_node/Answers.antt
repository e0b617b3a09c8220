use Rattle.std.proofs.Common.{List, sym, ap, subst, ◌∙◌}
use Rattle.std.specs.Prelude.{IfOk, IfSome, IfNone}
use Rattle.node_core.specs.declared.{types.NodeStep.NodeStep, types.PortStep.PortStep}
use Rattle.journal_audit.specs.{jobs_left, IsStuck, FollowJobs, IsNodeRead}
use Rattle.world_core.specs.OneByOne.{node_jobs}
use Rattle.journal_audit.proofs.{LeftLemmas.jobs_all, LeftLemmas.ports_all, PartLemmas.idle, PartLemmas.idle_read}
use Rattle.journal_audit.proofs.steps.read_node.Goals as goal

pub returns-then-not-has_jobs-clause-read : goal.returns-then-not-has_jobs-clause-read
returns-then-not-has_jobs-clause-read c =
    let x = c.args.number.0 in
    let w = c.args.world.now in
    subst (λ (made : List NodeStep). IsNodeRead c.args.scenario.now c.args.t x (node_jobs c.args.number w) w c.args.lines.now made w c.args.lines.now) (sym {A = List NodeStep} c.new.ensures.items)
    (idle_read c.args.scenario.now c.laws_of_replay.ensures c.args.t x w c.args.lines.now c.requires.during
    (idle c.args.number w c.node-node.result.now.state c.node-node.ensures (sym c.has_jobs.ensures ∙ c.if-not-has_jobs.true)))

pub read_jobs-requires-clause-ports : goal.read_jobs-requires-clause-ports
read_jobs-requires-clause-ports c =
    ports_all c.args.scenario.now c.laws_of_replay.ensures c.args.t c.args.number.0 c.args.world.now c.node-node.result.now.state c.in_ok-left.left.items
    c.requires.during c.requires.node c.node-node.ensures
    c.in_ok-left.ensures.all c.in_ok-left.ensures.few

pub returns-clause-read : goal.returns-clause-read
returns-clause-read c =
    subst (λ (jobs : List (List PortStep)). IfOk c.read_jobs.result (λ o. IfSome o
    (λ made. IsNodeRead c.args.scenario.now c.args.t c.args.number.0 jobs c.args.world.now c.args.lines.now made.items c.read_jobs.new.world c.read_jobs.new.lines)))
    (ap jobs_left c.in_ok-left.ensures.all ∙ jobs_all c.args.scenario.now c.args.t c.args.number c.args.world.now c.node-node.result.now.state c.node-node.ensures) c.read_jobs.ensures.read

pub returns-clause-stuck : goal.returns-clause-stuck
returns-clause-stuck c =
    subst (λ (jobs : List (List PortStep)). IfOk c.read_jobs.result (λ o. IfNone o
    (IsStuck (FollowJobs c.args.scenario.now c.args.t c.args.number.0 jobs c.args.world.now) c.args.lines.now c.read_jobs.new.lines)))
    (ap jobs_left c.in_ok-left.ensures.all ∙ jobs_all c.args.scenario.now c.args.t c.args.number c.args.world.now c.node-node.result.now.state c.node-node.ensures) c.read_jobs.ensures.stuck
