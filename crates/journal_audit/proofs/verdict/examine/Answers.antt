use Rattle.std.proofs.Common.{ℕ, List, subst, sym}
use Rattle.std.specs.Prelude.{Option, None}
use Rattle.srp_base.proofs.Options.{opened as of_some}
use Rattle.world_core.specs.declared.journal.Run.{Run}
use Rattle.world_core.specs.Start.{world_of}
use Rattle.journal_audit.specs.Reading.{Reading}
use Rattle.journal_audit.specs.{IsStuck, FollowTicks, IsRunRead, IsFirstIllegal, GoesOnWith}
use Rattle.journal_audit.proofs.{OptionLemmas.of_none, RunLemmas.legal_is, RunLemmas.first_is, RunLemmas.goes_on, RunLemmas.none_is}
use Rattle.journal_audit.proofs.verdict.examine.Goals as goal

pub refusal-requires-clause-first : goal.refusal-requires-clause-first
refusal-requires-clause-first c =
    let plan = c.args.scenario.now in
    let stuck =
    subst (λ (r : Reading). IsStuck (FollowTicks plan 0 (world_of plan)) r c.replay.new.lines) c.of-lines.ensures
    (of_none (IsStuck (FollowTicks plan 0 (world_of plan)) c.of-lines.result c.replay.new.lines) c.in_ok-run.field-0 c.in-None.is c.in_ok-run.ensures.stuck)
    in
    subst (IsFirstIllegal plan c.args.text.now) (sym c.read-read.ensures.value) (first_is plan c.laws_of_replay.ensures c.args.text.now c.replay.new.lines stuck)

pub refusal-requires-clause-none : goal.refusal-requires-clause-none
refusal-requires-clause-none c =
    let plan = c.args.scenario.now in
    let stuck =
    subst (λ (r : Reading). IsStuck (FollowTicks plan 0 (world_of plan)) r c.replay.new.lines) c.of-lines.ensures
    (of_none (IsStuck (FollowTicks plan 0 (world_of plan)) c.of-lines.result c.replay.new.lines) c.in_ok-run.field-0 c.in-None.is c.in_ok-run.ensures.stuck)
    in
    none_is plan c.laws_of_replay.ensures c.args.text.now c.replay.new.lines.read (first_is plan c.laws_of_replay.ensures c.args.text.now c.replay.new.lines stuck)

pub refusal-requires-clause-goes_on : goal.refusal-requires-clause-goes_on
refusal-requires-clause-goes_on c =
    let plan = c.args.scenario.now in
    let stuck =
    subst (λ (r : Reading). IsStuck (FollowTicks plan 0 (world_of plan)) r c.replay.new.lines) c.of-lines.ensures
    (of_none (IsStuck (FollowTicks plan 0 (world_of plan)) c.of-lines.result c.replay.new.lines) c.in_ok-run.field-0 c.in-None.is c.in_ok-run.ensures.stuck)
    in
    subst (λ (count : ℕ). GoesOnWith plan c.args.text.now count c.into_wanted.result) (sym c.read-read.ensures.value)
    (subst (GoesOnWith plan c.args.text.now c.replay.new.lines.read) (sym {A = Option (List ℕ)} c.into_wanted.ensures)
    (goes_on plan c.laws_of_replay.ensures c.args.text.now c.replay.new.lines stuck))

pub returns-in-Some-clause-verdict : goal.returns-in-Some-clause-verdict
returns-in-Some-clause-verdict c =
    let plan = c.args.scenario.now in
    let run = c.in-Some.run' in
    let read : IsRunRead plan (record { rest = c.args.text.now; read = 0; wanted = None }) c.in-Some.run' c.replay.new.lines =
    subst (λ (r : Reading). IsRunRead plan r c.in-Some.run' c.replay.new.lines) c.of-lines.ensures
    (of_some (λ (k : Run). IsRunRead plan c.of-lines.result k c.replay.new.lines) c.in_ok-run.field-0 c.in-Some.run' c.in-Some.is c.in_ok-run.ensures.read)
    in
    (legal_is plan c.laws_of_replay.ensures c.args.text.now c.replay.new.lines c.in-Some.run' read, read.noted.timeline)
