use Rattle.std.proofs.Common.{ℕ, suc, List, length, sym, subst}
use Rattle.srp_base.proofs.Options.{opened as of_some}
use Rattle.world_core.specs.declared.{events.WorldReply.WorldReply, journal.Tick.Tick}
use Rattle.world_core.specs.During.{IsDuring}
use Rattle.journal_audit.specs.{IsStuck, AreTaken, answer_lines, FollowNodes, IsOtherAnswer, AreNodesRead}
use Rattle.journal_audit.proofs.{OptionLemmas.of_none, PartLemmas.scripted_stays, PartLemmas.other_stuck, PartLemmas.steps_stuck, PartLemmas.tick_read}
use Rattle.journal_audit.proofs.replay.read_tick.Goals as goal

pub returns-then-not-branch-clause-stuck : goal.returns-then-not-branch-clause-stuck
returns-then-not-branch-clause-stuck c =
    let answers = c.in_ok-events.events.items in
    other_stuck c.args.scenario.now c.laws_of_replay.ensures c.args.t c.args.world.now c.requires.during c.requires.within answers c.in_ok-events.ensures.numbers c.in_ok-events.ensures.answers
    c.args.lines.now c.read_answers.new.lines
    (subst (λ (es : List (ℕ × WorldReply)). IsOtherAnswer c.args.t es c.args.lines.now c.read_answers.new.lines) c.as_slice.ensures.value (c.in_ok-read_answers.ensures.other c.if-not-branch.true))

pub read_nodes-requires-clause-during : goal.read_nodes-requires-clause-during
read_nodes-requires-clause-during c =
    subst (IsDuring c.args.scenario.now.tree c.args.t) (sym c.in_ok-events.ensures.after)
    (scripted_stays c.args.scenario.now c.laws_of_replay.ensures c.args.t c.args.world.now c.requires.during c.requires.within c.in_ok-events.events.items c.in_ok-events.ensures.numbers
    c.in_ok-events.ensures.answers)

pub returns-in_default-clause-stuck : goal.returns-in_default-clause-stuck
returns-in_default-clause-stuck c =
    let plan = c.args.scenario.now in
    let answers = c.in_ok-events.events.items in
    steps_stuck plan c.laws_of_replay.ensures c.args.t c.args.world.now c.requires.during c.requires.within answers c.in_ok-events.ensures.numbers c.in_ok-events.ensures.answers
    c.make_events.new.world c.args.lines.now c.read_answers.new.lines c.read_nodes.new.lines c.in_ok-events.ensures.after
    (subst (λ (es : List (ℕ × WorldReply)). AreTaken (answer_lines c.args.t es) c.args.lines.now c.read_answers.new.lines) c.as_slice.ensures.value
    (c.in_ok-read_answers.ensures.read c.if-not-branch.false))
    (of_none (IsStuck (FollowNodes plan c.args.t 1 c.make_events.new.world) c.read_answers.new.lines c.read_nodes.new.lines) c.in_ok-steps.field-0 c.in_default.is c.in_ok-steps.ensures.stuck)

pub returns-clause-read : goal.returns-clause-read
returns-clause-read c =
    let plan = c.args.scenario.now in
    let answers = c.in_ok-events.events.items in
    let steps = c.in-Some.steps in
    let tick : Tick = record { events = c.from_vec.result; steps = c.from_vec-2.result } in
    let nodes : AreNodesRead plan c.args.t (suc (length plan.tree.kinds)) c.make_events.new.world c.read_answers.new.lines steps.items c.read_nodes.new.world c.read_nodes.new.lines =
    of_some (λ s. AreNodesRead plan c.args.t (suc (length plan.tree.kinds)) c.make_events.new.world c.read_answers.new.lines s.items c.read_nodes.new.world c.read_nodes.new.lines)
    c.in_ok-steps.field-0 steps c.in-Some.is c.in_ok-steps.ensures.read
    in
    tick_read plan c.laws_of_replay.ensures c.args.t c.args.world.now c.requires.during c.requires.within answers c.in_ok-events.ensures.numbers c.in_ok-events.ensures.answers
    c.make_events.new.world c.read_nodes.new.world c.args.lines.now c.read_answers.new.lines c.read_nodes.new.lines steps.items tick c.in_ok-events.ensures.after c.from_vec.ensures
    c.from_vec-2.ensures
    (subst (λ (es : List (ℕ × WorldReply)). AreTaken (answer_lines c.args.t es) c.args.lines.now c.read_answers.new.lines) c.as_slice.ensures.value
    (c.in_ok-read_answers.ensures.read c.if-not-branch.false))
    nodes
