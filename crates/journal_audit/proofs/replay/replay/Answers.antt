use Rattle.std.proofs.Common.{◌≡◌, ◌<◌, ◌+◌, ℕ, suc, List, sym, ap, subst, ◌∙◌, arith}
use Rattle.std.specs.List.{AllByRecursion}
use Rattle.srp_base.proofs.Options.{opened as of_some}
use Rattle.tree_topology.specs.Topology.{Topology}
use Rattle.topology_file.specs.Plan.{Plan}
use Rattle.world_core.specs.declared.{journal.NodeSteps.NodeSteps, journal.Tick.Tick}
use Rattle.world_core.specs.{Start.world_of, Cursor.IsCursor, History.HasPortsOf, History.acts_noted}
use Rattle.journal_audit.specs.{IsStuck, FollowTicks, IsTickRead, AreTicksRead}
use Rattle.journal_audit.proofs.{ListLemmas.full, ListLemmas.void, OptionLemmas.of_none, RunLemmas.ticks_more, RunLemmas.ticks_stuck, RunLemmas.end_stuck, RunLemmas.run_read}
use Rattle.journal_audit.proofs.replay.replay.Goals as goal

pub returns-in_default-clause-stuck : goal.returns-in_default-clause-stuck
returns-in_default-clause-stuck c =
    let plan = c.args.scenario.now in
    ticks_stuck plan c.laws_of_replay.ensures c.loop-t.t c.args.lines.now c.loop-t.lines c.loop-t.ticks.items c.loop-t.world c.loop-t.history c.read_tick.new.lines c.loop-t.invariant.0
    (of_none (IsStuck (FollowTicks plan c.loop-t.t c.loop-t.world) c.loop-t.lines c.read_tick.new.lines) c.in_ok-tick.field-0 c.in_default.is c.in_ok-tick.ensures.stuck)

pub note_steps-requires-clause-ports : goal.note_steps-requires-clause-ports
note_steps-requires-clause-ports c =
    let plan = c.args.scenario.now in
    let tick = c.in-Some.tick in
    let one : IsTickRead plan c.loop-t.t c.loop-t.world c.loop-t.lines tick c.read_tick.new.world c.read_tick.new.lines =
    of_some (λ k. IsTickRead plan c.loop-t.t c.loop-t.world c.loop-t.lines k c.read_tick.new.world c.read_tick.new.lines) c.in_ok-tick.field-0 tick c.in-Some.is c.in_ok-tick.ensures.read
    in
    subst (λ (steps : List NodeSteps). AllByRecursion (HasPortsOf c.loop-t.history.tree) steps) (sym {A = List NodeSteps} c.as_slice.ensures)
    (subst (λ (r : Topology). AllByRecursion (HasPortsOf r) tick.steps) (sym c.loop-t.invariant.0.tree) one.legal.known)

pub loop-t-preserved : goal.loop-t-preserved
loop-t-preserved c =
    let plan = c.args.scenario.now in
    let tick = c.in-Some.tick in
    let t : ℕ = c.loop-t.t in
    let before = c.loop-t.invariant.0 in
    let one : IsTickRead plan c.loop-t.t c.loop-t.world c.loop-t.lines tick c.read_tick.new.world c.read_tick.new.lines =
    of_some (λ k. IsTickRead plan c.loop-t.t c.loop-t.world c.loop-t.lines k c.read_tick.new.world c.read_tick.new.lines) c.in_ok-tick.field-0 tick c.in-Some.is c.in_ok-tick.ensures.read
    in
    let same : c.scenario.inside.ticks ≡ plan.ticks = ap (λ (p : Plan). p.ticks) c.scenario.view_is in
    let test = c.loop-t-test.true in
    let within : c.loop-t.t < plan.ticks = omega (arith, same, test) in
    let later : suc c.loop-t.t ≡ c.loop-t.t + 1 = omega arith in (
      subst (λ (ticks : List Tick). AreTicksRead plan (c.loop-t.t + 1) c.args.lines.now ticks c.end_tick.new.world c.in_ok-history-2.history c.read_tick.new.lines)
          (sym {A = List Tick} c.in_ok-push.ensures.items)
          (ticks_more plan c.laws_of_replay.ensures c.loop-t.t c.args.lines.now c.loop-t.lines c.read_tick.new.lines c.loop-t.ticks.items tick c.loop-t.world c.read_tick.new.world c.end_tick.new.world
          c.loop-t.history c.in_ok-history-2.history
          (c.a_noted_run_goes_on.ensures.next plan c.loop-t.t c.loop-t.ticks.items c.loop-t.world tick c.loop-t.history.changes c.laws_of_replay.ensures.rules within)
          (c.a_tick_carries_what_it_has_sent.ensures.next plan c.loop-t.t c.loop-t.world tick before.noted.during)
          before one c.in_ok-end_tick.ensures c.in_ok-history-2.ensures.tree
          (c.in_ok-history-2.ensures.noted ∙ ap (λ (steps : List NodeSteps). acts_noted c.loop-t.t steps c.read_tick.new.world c.loop-t.history.changes) c.as_slice.ensures)),
      subst (λ (k : ℕ). IsCursor plan.events k c.read_tick.new.cursor) later
          (of_some (λ (k : Tick). IsCursor plan.events (suc c.loop-t.t) c.read_tick.new.cursor) c.in_ok-tick.field-0 tick c.in-Some.is c.in_ok-tick.ensures.cursor),
    )

pub returns-then-not-is_at_end-clause-stuck : goal.returns-then-not-is_at_end-clause-stuck
returns-then-not-is_at_end-clause-stuck c =
    let plan = c.args.scenario.now in
    let same : c.scenario.inside.ticks ≡ plan.ticks = ap (λ (p : Plan). p.ticks) c.scenario.view_is in
    let test = c.loop-t-test.false in
    let upto = c.loop-t.auto.t-end in
    let number : c.loop-t.t ≡ plan.ticks = omega (arith, same, test, upto) in
    let before = subst (λ (k : ℕ). AreTicksRead plan k c.args.lines.now c.loop-t.ticks.items c.loop-t.world c.loop-t.history c.loop-t.lines) number c.loop-t.invariant.0 in
    subst (IsStuck (FollowTicks plan 0 (world_of plan)) c.args.lines.now) (sym c.want_nothing.ensures)
    (end_stuck plan c.laws_of_replay.ensures c.args.lines.now c.loop-t.lines c.loop-t.ticks.items c.loop-t.world c.loop-t.history before
    (full c.loop-t.lines.rest (sym c.is_at_end.ensures ∙ c.if-not-is_at_end.true)))

pub returns-clause-read : goal.returns-clause-read
returns-clause-read c =
    let plan = c.args.scenario.now in
    let same : c.scenario.inside.ticks ≡ plan.ticks = ap (λ (p : Plan). p.ticks) c.scenario.view_is in
    let test = c.loop-t-test.false in
    let upto = c.loop-t.auto.t-end in
    let number : c.loop-t.t ≡ plan.ticks = omega (arith, same, test, upto) in
    let before = subst (λ (k : ℕ). AreTicksRead plan k c.args.lines.now c.loop-t.ticks.items c.loop-t.world c.loop-t.history c.loop-t.lines) number c.loop-t.invariant.0 in
    run_read plan c.laws_of_replay.ensures c.args.lines.now c.loop-t.lines c.loop-t.ticks.items c.loop-t.world c.loop-t.history c.in_ok-run_of.field-0 before
    (void c.loop-t.lines.rest (sym c.is_at_end.ensures ∙ c.if-not-is_at_end.false)) c.in_ok-run_of.ensures.world c.in_ok-run_of.ensures.ticks c.in_ok-run_of.ensures.changes
