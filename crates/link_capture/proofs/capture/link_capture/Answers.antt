use Rattle.std.proofs.Common.{◌≡◌, ℕ, ◌<◌, List, ◌++◌, length, get_or, sym, ap, subst, ◌∙◌, arith}
use Rattle.srp_base.specs.declared.numbers.EgressPort.{EgressPort}
use Rattle.topology_file.specs.Plan.{Plan}
use Rattle.capture_file.specs.declared.setting.ByteOrder.TheVariants.{Big}
use Rattle.capture_file.specs.declared.setting.LinkType.TheVariants.{Ethernet}
use Rattle.capture_file.specs.Writing.{head_text}
use Rattle.world_core.specs.declared.journal.Tick.{Tick}
use Rattle.world_core.specs.Ticks.{after_steps}
use Rattle.link_capture.specs.{crossed_at, records_of}
use Rattle.link_capture.proofs.RunLemmas.{none_captured, tick_left, legal_there, one_captured, all_captured, end_a, end_b}
use Rattle.link_capture.proofs.capture.link_capture.Goals as goal

pub loop-t-init : goal.loop-t-init
loop-t-init c =
    none_captured c.args.scenario.now c.laws_of_ticks.ensures c.args.link.0 c.args.run.now.journal.ticks c.args.run.now.world c.requires.legal c.in_ok-world.world c.put_head.new.out.items
    c.in_ok-world.ensures (c.in_ok-put_head.ensures ∙ ap (λ (o : List ℕ). o ++ head_text Big Ethernet) c.new-out.ensures.items)

pub tick_at-tick-requires : goal.tick_at-tick-requires
tick_at-tick-requires c =
    let plan = c.args.scenario.now in
    let same : c.scenario.inside.ticks ≡ plan.ticks = ap (λ (p : Plan). p.ticks) c.scenario.view_is in
    let test = c.loop-t-test.true in
    let within : c.loop-t.t < plan.ticks = omega (arith, same, test) in
    subst (λ (ts : List Tick). c.loop-t.t < length ts) (sym {A = List Tick} c.as_slice-ticks.ensures)
    (tick_left plan c.laws_of_ticks.ensures c.args.link.0 c.args.run.now.journal.ticks c.args.run.now.world c.loop-t.t c.loop-t.world c.loop-t.cursor c.loop-t.out.items c.loop-t.invariant within)

pub put_tick-requires-clause-a : goal.put_tick-requires-clause-a
put_tick-requires-clause-a c =
    end_a c.args.scenario.now c.laws_of_ticks.ensures c.args.link.0 c.args.run.now.journal.ticks c.args.run.now.world c.requires.link c.ends_at-ends.result c.ends_at-ends.ensures

pub put_tick-requires-clause-b : goal.put_tick-requires-clause-b
put_tick-requires-clause-b c =
    end_b c.args.scenario.now c.laws_of_ticks.ensures c.args.link.0 c.args.run.now.journal.ticks c.args.run.now.world c.requires.link c.ends_at-ends.result c.ends_at-ends.ensures

pub put_tick-requires-clause-legal : goal.put_tick-requires-clause-legal
put_tick-requires-clause-legal c =
    let plan = c.args.scenario.now in
    let same : c.scenario.inside.ticks ≡ plan.ticks = ap (λ (p : Plan). p.ticks) c.scenario.view_is in
    let test = c.loop-t-test.true in
    let within : c.loop-t.t < plan.ticks = omega (arith, same, test) in
    let at : c.tick_at-tick.result.now ≡ get_or c.args.run.now.journal.ticks c.loop-t.t c.tick_at-tick.result.now =
    c.tick_at-tick.ensures ∙ ap (λ (ts : List Tick). get_or ts c.loop-t.t c.tick_at-tick.result.now) c.as_slice-ticks.ensures in
    legal_there plan c.laws_of_ticks.ensures c.args.link.0 c.args.run.now.journal.ticks c.args.run.now.world c.loop-t.t c.loop-t.world c.loop-t.cursor c.loop-t.out.items c.loop-t.invariant within
    c.tick_at-tick.result.now at

pub put_tick-requires-clause-during : goal.put_tick-requires-clause-during
put_tick-requires-clause-during c = c.loop-t.invariant.during

pub put_tick-requires-clause-waits : goal.put_tick-requires-clause-waits
put_tick-requires-clause-waits c = c.loop-t.invariant.waits

pub put_tick-requires-clause-cursor : goal.put_tick-requires-clause-cursor
put_tick-requires-clause-cursor c = c.loop-t.invariant.cursor_at

pub loop-t-preserved : goal.loop-t-preserved
loop-t-preserved c =
    let plan = c.args.scenario.now in
    let same : c.scenario.inside.ticks ≡ plan.ticks = ap (λ (p : Plan). p.ticks) c.scenario.view_is in
    let test = c.loop-t-test.true in
    let within : c.loop-t.t < plan.ticks = omega (arith, same, test) in
    let tick = c.tick_at-tick.result.now in
    let at : tick ≡ get_or c.args.run.now.journal.ticks c.loop-t.t tick =
    c.tick_at-tick.ensures ∙ ap (λ (ts : List Tick). get_or ts c.loop-t.t tick) c.as_slice-ticks.ensures in
    one_captured plan c.laws_of_ticks.ensures c.args.link.0 c.args.run.now.journal.ticks c.args.run.now.world c.loop-t.t c.loop-t.world c.loop-t.cursor c.loop-t.out.items c.loop-t.invariant within
    tick at c.in_ok-world-2.world c.put_tick.new.cursor c.put_tick.new.out.items c.in_ok-world-2.ensures.after
    (c.in_ok-world-2.ensures.put
    ∙ ap (λ (e : EgressPort × EgressPort). c.loop-t.out.items ++ records_of (crossed_at c.loop-t.t e (after_steps plan c.loop-t.t tick c.loop-t.world))) c.ends_at-ends.ensures)
    c.in_ok-world-2.ensures.cursor

pub returns : goal.returns
returns c =
    let plan = c.args.scenario.now in
    let same : c.scenario.inside.ticks ≡ plan.ticks = ap (λ (p : Plan). p.ticks) c.scenario.view_is in
    let test = c.loop-t-test.false in
    let upto = c.loop-t.auto.t-end in
    let number : c.loop-t.t ≡ plan.ticks = omega (arith, same, test, upto) in
    record {
      exact = all_captured plan c.laws_of_ticks.ensures c.args.link.0 c.args.run.now.journal.ticks c.args.run.now.world c.loop-t.t c.loop-t.world c.loop-t.cursor c.loop-t.out.items number c.loop-t.invariant;
    }
