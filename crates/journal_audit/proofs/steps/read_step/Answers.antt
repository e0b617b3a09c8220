use Rattle.std.proofs.Common.{◌≡◌, ◌+◌, ℕ, List, length, vec_len, refl, sym, ap, subst, rules, arith}
use Rattle.std.specs.Prelude.{slice_get, slice_set, Some}
use Rattle.srp_base.specs.declared.numbers.PortNo.{PortNo}
use Rattle.tree_topology.specs.Topology.{Topology, HasPort}
use Rattle.node_core.specs.declared.types.PortStep.{PortStep}
use Rattle.journal_audit.specs.{TakesOrStays}
use Rattle.journal_lines.specs.Lines.{line_at}
use Rattle.journal_audit.proofs.StepLemmas.{found_within, found_port, job_port, step_is, ports_set, made_stuck}
use Rattle.journal_audit.proofs.steps.read_step.Goals as goal

pub index_mut-requires : goal.index_mut-requires
index_mut-requires c =
    let inside = found_within c.args.left.now.items c.as_slice.result.now c.next_port-place.result c.args.lines.now c.as_slice.ensures.value c.next_port-place.ensures in
    let count : vec_len c.args.left.now ≡ length c.args.left.now.items = search rules in
    omega (arith, inside, count)

pub take_job-step-requires : goal.take_job-step-requires
take_job-step-requires c =
    (found_port c.args.left.now.items c.as_slice.result.now c.next_port-place.result c.args.lines.now c.index_mut.result.now c.as_slice.ensures.value c.next_port-place.ensures
    c.index_mut.ensures.value).1

pub overflow_cast-place : goal.overflow_cast-place
overflow_cast-place c =
    let inside = found_within c.args.left.now.items c.as_slice.result.now c.next_port-place.result c.args.lines.now c.as_slice.ensures.value c.next_port-place.ensures in
    let few = c.requires.ports.few in
    omega (arith, inside, few)

pub overflow_add-place : goal.overflow_add-place
overflow_add-place c =
    let inside = found_within c.args.left.now.items c.as_slice.result.now c.next_port-place.result c.args.lines.now c.as_slice.ensures.value c.next_port-place.ensures in
    let few = c.requires.ports.few in
    omega (arith, inside, few)

pub make_step-requires : goal.make_step-requires
make_step-requires c =
    let found = found_port c.args.left.now.items c.as_slice.result.now c.next_port-place.result c.args.lines.now c.index_mut.result.now c.as_slice.ensures.value c.next_port-place.ensures
    c.index_mut.ensures.value in
    subst (λ (tree : Topology). HasPort tree (record { node = c.args.number; port = record { 0 = c.next_port-place.result + 1 } })) (sym c.requires.during.tree_is)
    (job_port c.args.scenario.now c.laws_of_replay.ensures c.args.t c.args.number.0 c.args.left.now.items c.args.world.now c.requires.node c.requires.ports c.next_port-place.result
    c.index_mut.result.now
    found.0)

pub read_line-requires : goal.read_line-requires
read_line-requires c =
    let found = found_port c.args.left.now.items c.as_slice.result.now c.next_port-place.result c.args.lines.now c.index_mut.result.now c.as_slice.ensures.value c.next_port-place.ensures
    c.index_mut.ensures.value in
    subst (λ (p : PortNo). HasPort c.args.scenario.now.tree (record { node = c.args.number; port = p })) (sym (ap (λ (j : PortNo × PortStep). j.0) c.in_ok-made.ensures.job))
    (job_port c.args.scenario.now c.laws_of_replay.ensures c.args.t c.args.number.0 c.args.left.now.items c.args.world.now c.requires.node c.requires.ports c.next_port-place.result
    c.index_mut.result.now
    found.0)

pub returns-then-taken-clause-read : goal.returns-then-taken-clause-read
returns-then-taken-clause-read c =
    let ports = c.args.left.now.items in
    let found = found_port ports c.as_slice.result.now c.next_port-place.result c.args.lines.now c.index_mut.result.now c.as_slice.ensures.value c.next_port-place.ensures c.index_mut.ensures.value in
    step_is c.args.scenario.now c.laws_of_replay.ensures c.args.t c.args.number.0 ports c.args.world.now c.requires.node c.requires.ports c.next_port-place.result c.index_mut.result.now
    c.take_job-step.new.self
    (slice_set ports c.next_port-place.result c.take_job-step.new.self) c.take_job-step.result c.in_ok-made.made c.make_step.new.self c.args.lines.now c.read_line.new.lines found.0
    c.take_job-step.ensures.job
    (ap (λ (j : PortNo × PortStep). j.0) c.in_ok-made.ensures.job) (ap (λ (j : PortNo × PortStep). j.1) c.in_ok-made.ensures.job) c.in_ok-made.ensures.ok refl
    (c.in_ok-taken.ensures.takes c.if-taken.true)

pub returns-then-taken-clause-ports : goal.returns-then-taken-clause-ports
returns-then-taken-clause-ports c =
    let ports = c.args.left.now.items in
    let found = found_port ports c.as_slice.result.now c.next_port-place.result c.args.lines.now c.index_mut.result.now c.as_slice.ensures.value c.next_port-place.ensures c.index_mut.ensures.value in
    ports_set c.args.scenario.now c.args.t c.args.number ports (slice_set ports c.next_port-place.result c.take_job-step.new.self) c.next_port-place.result c.index_mut.result.now
    c.take_job-step.new.self found.0 refl
    c.take_job-step.ensures.place c.requires.ports

pub returns-else-taken-clause-stuck : goal.returns-else-taken-clause-stuck
returns-else-taken-clause-stuck c =
    let ports = c.args.left.now.items in
    let found = found_port ports c.as_slice.result.now c.next_port-place.result c.args.lines.now c.index_mut.result.now c.as_slice.ensures.value c.next_port-place.ensures c.index_mut.ensures.value in
    made_stuck c.args.scenario.now c.laws_of_replay.ensures c.args.t c.args.number.0 ports c.args.world.now c.requires.node c.requires.ports c.next_port-place.result c.index_mut.result.now
    c.take_job-step.new.self
    c.take_job-step.result c.in_ok-made.made c.make_step.new.self c.args.lines.now c.read_line.new.lines c.requires.within c.requires.during found.0 found.2 c.take_job-step.ensures.job
    (ap (λ (j : PortNo × PortStep). j.0) c.in_ok-made.ensures.job) (ap (λ (j : PortNo × PortStep). j.1) c.in_ok-made.ensures.job) c.in_ok-made.ensures.ok
    (subst (TakesOrStays (line_at c.args.scenario.now c.args.t c.args.number c.in_ok-made.made) c.args.lines.now c.read_line.new.lines) c.if-taken.false c.in_ok-taken.ensures)
