use Rattle.std.proofs.Common.{◌++◌, List, sym, ap, subst, ◌∙◌}
use Rattle.world_core.specs.declared.journal.NodeSteps.{NodeSteps}
use Rattle.world_core.specs.{World.WorldState, World.CanAllHappen, Ticks.step_events, Carrying.has_send}
use Rattle.link_capture.specs.{crossed_at, records_of}
use Rattle.link_capture.proofs.TickLemmas.{moment, steps_can, steps_made, has_port, nothing_sent, clock_can, ended}
use Rattle.link_capture.proofs.ticks.put_tick.Goals as goal

pub make_steps-requires : goal.make_steps-requires
make_steps-requires c =
    subst (λ (ns : List NodeSteps). CanAllHappen (step_events ns) c.make_events.new.world) (sym c.as_slice.ensures)
    (steps_can c.args.scenario.now c.laws_of_ticks.ensures c.args.t c.requires.within c.args.world c.args.tick.now c.requires.during c.requires.legal
    c.make_events.new.world c.in_ok-make_events.ensures.after)

pub put_crossings-requires-clause-moment : goal.put_crossings-requires-clause-moment
put_crossings-requires-clause-moment c = moment c.args.scenario.now c.laws_of_ticks.ensures c.args.t c.requires.within c.args.world c.args.tick.now c.requires.during c.requires.legal

pub put_crossings-requires-clause-a : goal.put_crossings-requires-clause-a
put_crossings-requires-clause-a c =
    has_port c.args.scenario.now c.laws_of_ticks.ensures c.args.t c.requires.within c.args.world c.args.tick.now c.requires.during c.requires.legal
    c.make_steps.new.world
    (steps_made c.args.scenario.now c.laws_of_ticks.ensures c.args.t c.requires.within c.args.world c.args.tick.now c.requires.during c.requires.legal
    c.make_events.new.world c.make_steps.new.world c.as_slice.result.now c.as_slice.ensures c.in_ok-make_events.ensures.after c.in_ok-make_steps.ensures)
    c.args.ends.0 c.requires.a

pub put_crossings-requires-clause-b : goal.put_crossings-requires-clause-b
put_crossings-requires-clause-b c =
    has_port c.args.scenario.now c.laws_of_ticks.ensures c.args.t c.requires.within c.args.world c.args.tick.now c.requires.during c.requires.legal
    c.make_steps.new.world
    (steps_made c.args.scenario.now c.laws_of_ticks.ensures c.args.t c.requires.within c.args.world c.args.tick.now c.requires.during c.requires.legal
    c.make_events.new.world c.make_steps.new.world c.as_slice.result.now c.as_slice.ensures c.in_ok-make_events.ensures.after c.in_ok-make_steps.ensures)
    c.args.ends.1 c.requires.b

pub end_tick-requires-clause-waits : goal.end_tick-requires-clause-waits
end_tick-requires-clause-waits c = λ isnt.
    nothing_sent c.args.scenario.now c.laws_of_ticks.ensures c.args.t c.requires.within c.args.world c.args.tick.now c.requires.during c.requires.legal
    c.in_ok-carried.carried
    (c.in_ok-carried.ensures.same
    ∙ steps_made c.args.scenario.now c.laws_of_ticks.ensures c.args.t c.requires.within c.args.world c.args.tick.now c.requires.during c.requires.legal
    c.make_events.new.world c.make_steps.new.world c.as_slice.result.now c.as_slice.ensures c.in_ok-make_events.ensures.after c.in_ok-make_steps.ensures)
    c.requires.waits (sym (ap has_send c.as_slice-2.ensures) ∙ isnt)

pub end_tick-requires-clause-clock : goal.end_tick-requires-clause-clock
end_tick-requires-clause-clock c =
    clock_can c.args.scenario.now c.laws_of_ticks.ensures c.args.t c.requires.within c.args.world c.args.tick.now c.requires.during c.requires.legal
    c.in_ok-carried.carried
    (c.in_ok-carried.ensures.same
    ∙ steps_made c.args.scenario.now c.laws_of_ticks.ensures c.args.t c.requires.within c.args.world c.args.tick.now c.requires.during c.requires.legal
    c.make_events.new.world c.make_steps.new.world c.as_slice.result.now c.as_slice.ensures c.in_ok-make_events.ensures.after c.in_ok-make_steps.ensures)

pub returns-clause-after : goal.returns-clause-after
returns-clause-after c =
    ended c.args.scenario.now c.laws_of_ticks.ensures c.args.t c.requires.within c.args.world c.args.tick.now c.requires.during c.requires.legal
    c.in_ok-carried.carried
    (c.in_ok-carried.ensures.same
    ∙ steps_made c.args.scenario.now c.laws_of_ticks.ensures c.args.t c.requires.within c.args.world c.args.tick.now c.requires.during c.requires.legal
    c.make_events.new.world c.make_steps.new.world c.as_slice.result.now c.as_slice.ensures c.in_ok-make_events.ensures.after c.in_ok-make_steps.ensures)
    c.end_tick.new.world c.in_ok-end_tick.ensures

pub returns-clause-put : goal.returns-clause-put
returns-clause-put c =
    c.in_ok-carried.ensures.put
    ∙ ap (λ (v : WorldState). c.args.out.now.items ++ records_of (crossed_at c.args.t c.args.ends v))
    (steps_made c.args.scenario.now c.laws_of_ticks.ensures c.args.t c.requires.within c.args.world c.args.tick.now c.requires.during c.requires.legal
    c.make_events.new.world c.make_steps.new.world c.as_slice.result.now c.as_slice.ensures c.in_ok-make_events.ensures.after c.in_ok-make_steps.ensures)
