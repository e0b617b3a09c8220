use Rattle.std.proofs.Common.{◌≡◌, ◌<◌, List, sym, ap, subst, ◌∙◌, arith}
use Rattle.std.specs.Prelude.{slice_set}
use Rattle.srp_base.proofs.Options.{opened as of_some}
use Rattle.node_core.specs.declared.types.NodeStep.{NodeStep}
use Rattle.attribute_propagation.specs.Ports.{place_of}
use Rattle.world_core.proofs.OneByOne.{total, total_less}
use Rattle.journal_audit.specs.{LeftState, ArePortsLeft, jobs_left, is_any_left, IsStuck, FollowJobs, IsPartRead, IsStepRead}
use Rattle.journal_audit.proofs.{OptionLemmas.of_none, PartLemmas.part_more, PartLemmas.part_stuck, PartLemmas.part_all, PartLemmas.any_none}
use Rattle.journal_audit.proofs.steps.read_jobs.Goals as goal

pub loop-alloc-preserved : goal.loop-alloc-preserved
loop-alloc-preserved c =
    let x = c.args.number.0 in
    let left = jobs_left c.args.left.now.items in
    let st = c.in-Some.step in
    let step =
    of_some (λ (s : NodeStep). IsStepRead c.args.scenario.now c.args.t x (jobs_left c.loop-alloc.left.items) (jobs_left c.read_step.new.left.items) c.loop-alloc.world c.read_step.new.world s
    c.loop-alloc.lines c.read_step.new.lines)
    c.in_ok-step.field-0 st c.in-Some.is c.in_ok-step.ensures.read
    in (
      subst (λ (made : List NodeStep). IsPartRead c.args.scenario.now c.args.t x left c.args.world.now c.args.lines.now made (jobs_left c.read_step.new.left.items) c.read_step.new.world
          c.read_step.new.lines) (sym {A = List NodeStep} c.in_ok-push.ensures.items)
          (part_more c.args.scenario.now c.laws_of_replay.ensures c.args.t x left (jobs_left c.loop-alloc.left.items) (jobs_left c.read_step.new.left.items) c.args.world.now c.loop-alloc.world
          c.read_step.new.world
          c.args.lines.now c.loop-alloc.lines c.read_step.new.lines c.loop-alloc.made.items st c.requires.node c.loop-alloc.invariant.0 step),
      of_some (λ (s : NodeStep). ArePortsLeft c.args.scenario.now c.args.t c.args.number c.read_step.new.left.items) c.in_ok-step.field-0 st c.in-Some.is c.in_ok-step.ensures.ports,
    )

pub loop-alloc-smaller : goal.loop-alloc-smaller
loop-alloc-smaller c =
    let x = c.args.number.0 in
    let st = c.in-Some.step in
    let step =
    of_some (λ (s : NodeStep). IsStepRead c.args.scenario.now c.args.t x (jobs_left c.loop-alloc.left.items) (jobs_left c.read_step.new.left.items) c.loop-alloc.world c.read_step.new.world s
    c.loop-alloc.lines c.read_step.new.lines)
    c.in_ok-step.field-0 st c.in-Some.is c.in_ok-step.ensures.read
    in
    let less = total_less (jobs_left c.loop-alloc.left.items) (place_of st.port) st.step step.rest step.next.job in
    let same : total (jobs_left c.read_step.new.left.items) ≡ total (slice_set (jobs_left c.loop-alloc.left.items) (place_of st.port) step.rest) = ap total step.left_is in
    let lt : total (jobs_left c.read_step.new.left.items) < total (jobs_left c.loop-alloc.left.items) = omega (arith, less, same) in
    lt

pub returns-clause-read : goal.returns-clause-read
returns-clause-read c =
    part_all c.args.scenario.now c.laws_of_replay.ensures c.args.t c.args.number.0 (jobs_left c.args.left.now.items) (jobs_left c.loop-alloc.left.items) c.args.world.now c.loop-alloc.world
    c.args.lines.now c.loop-alloc.lines
    c.loop-alloc.made.items c.loop-alloc.invariant.0
    (any_none c.loop-alloc.left.items (ap is_any_left (sym {A = List LeftState} c.as_slice.ensures.value) ∙ (sym c.is_any_left.ensures ∙ c.loop-alloc-test.false)))

pub returns-in_default-clause-stuck : goal.returns-in_default-clause-stuck
returns-in_default-clause-stuck c =
    part_stuck c.args.scenario.now c.laws_of_replay.ensures c.args.t c.args.number.0 (jobs_left c.args.left.now.items) (jobs_left c.loop-alloc.left.items) c.args.world.now c.loop-alloc.world
    c.args.lines.now c.loop-alloc.lines
    c.loop-alloc.made.items c.read_step.new.lines c.loop-alloc.invariant.0
    (of_none (IsStuck (FollowJobs c.args.scenario.now c.args.t c.args.number.0 (jobs_left c.loop-alloc.left.items) c.loop-alloc.world) c.loop-alloc.lines c.read_step.new.lines)
    c.in_ok-step.field-0 c.in_default.is c.in_ok-step.ensures.stuck)
