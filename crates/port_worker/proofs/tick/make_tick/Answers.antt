use Rattle.std.proofs.Common.{List, [], ap, sym, subst, ◌∙◌, refl}
use Rattle.std.specs.List.{AllByRecursion}
use Rattle.tree_topology.specs.Topology.{Topology}
use Rattle.world_core.specs.declared.{journal.NodeSteps.NodeSteps, journal.Tick.Tick}
use Rattle.world_core.specs.{Timeline.AreChanges, History.HasPortsOf, History.acts_noted, Carrying.NothingWaits, Carrying.has_send}
use Rattle.world_core.proofs.TickParts.{nothing_carried}
use Rattle.port_worker.proofs.TickLemmas.{stepped_stays, steps_known, steps_reach, clock_can, tick_made}
use Rattle.port_worker.proofs.tick.make_tick.Goals as goal

pub note_steps-requires-clause-tree : goal.note_steps-requires-clause-tree
note_steps-requires-clause-tree g c =
    c.requires.tree
    ∙ sym (stepped_stays c.laws_of_a_tick.ensures c.args.scenario.now c.keeps_rules.ensures c.args.t c.requires.within c.args.world c.requires.during
    c.make_events.new.world c.in_ok-stepped.stepped c.in_ok-stepped.stepped c.in_ok-stepped.steps.items c.in_ok-events.ensures.after c.in_ok-stepped.ensures).tree_is

pub note_steps-requires-clause-changes : goal.note_steps-requires-clause-changes
note_steps-requires-clause-changes g c =
    subst (λ (r : Topology). AreChanges r c.args.t c.args.history.changes) (sym c.requires.tree) c.requires.changes

pub note_steps-requires-clause-ports : goal.note_steps-requires-clause-ports
note_steps-requires-clause-ports g c =
    let steps = c.in_ok-stepped.steps.items in
    subst (λ (nodes : List NodeSteps). AllByRecursion (HasPortsOf c.args.history.tree) nodes) (sym c.as_slice.ensures.value)
    (subst (λ (r : Topology). AllByRecursion (HasPortsOf r) steps) (sym c.requires.tree)
    (steps_known c.laws_of_a_tick.ensures c.args.scenario.now c.keeps_rules.ensures c.args.t c.requires.within c.args.world c.requires.during
    c.make_events.new.world c.in_ok-stepped.stepped c.in_ok-stepped.stepped steps c.in_ok-events.ensures.after c.in_ok-stepped.ensures))

pub carry_sent-requires : goal.carry_sent-requires
carry_sent-requires g c = λ isnt.
    let plan = c.args.scenario.now in
    let steps = c.in_ok-stepped.steps.items in
    let tick : Tick = record { events = []; steps = steps } in
    let there = stepped_stays c.laws_of_a_tick.ensures plan c.keeps_rules.ensures c.args.t c.requires.within c.args.world c.requires.during
    c.make_events.new.world c.in_ok-stepped.stepped c.in_ok-stepped.stepped steps c.in_ok-events.ensures.after c.in_ok-stepped.ensures in
    nothing_carried c.a_tick_carries_what_it_has_sent.ensures.nothing plan c.args.t c.args.world c.requires.during c.requires.waits
    c.in_ok-stepped.stepped tick
    (steps_reach c.laws_of_a_tick.ensures plan c.keeps_rules.ensures c.args.t c.requires.within c.args.world c.requires.during
    c.make_events.new.world c.in_ok-stepped.stepped c.in_ok-stepped.stepped steps c.in_ok-events.ensures.after c.in_ok-stepped.ensures tick refl)
    there.tree_is (sym (ap has_send c.as_slice-2.ensures.value) ∙ isnt)

pub let_clocks_go_on-requires : goal.let_clocks_go_on-requires
let_clocks_go_on-requires g c =
    clock_can c.laws_of_a_tick.ensures c.args.scenario.now c.keeps_rules.ensures c.args.t c.requires.within c.args.world c.requires.during
    c.make_events.new.world c.in_ok-stepped.stepped c.carry_sent.new.world c.in_ok-stepped.steps.items
    c.in_ok-events.ensures.after c.in_ok-stepped.ensures c.in_ok-_has_carried.ensures.carried

pub returns : goal.returns
returns g c =
    let plan = c.args.scenario.now in
    let t = c.args.t in
    let w = c.args.world in
    let steps = c.in_ok-stepped.steps.items in
    let stepped = c.in_ok-stepped.stepped in
    let tick : Tick = record { events = c.from_vec.result; steps = c.from_vec-2.result } in
    tick_made c.laws_of_a_tick.ensures plan c.keeps_rules.ensures t c.requires.within w c.requires.during
    c.make_events.new.world stepped c.carry_sent.new.world steps c.in_ok-events.ensures.after c.in_ok-stepped.ensures
    c.let_clocks_go_on.new.world tick c.in_ok-events.events.items c.from_vec.ensures c.from_vec-2.ensures
    c.in_ok-events.ensures.numbers c.in_ok-events.ensures.answers c.in_ok-_has_carried.ensures.carried c.in_ok-let_clocks_go_on.ensures
    (λ v is. subst NothingWaits (sym is) (c.a_tick_carries_what_it_has_sent.ensures.next plan t w tick c.requires.during))
    c.make_events.new.cursor c.in_ok-events.ensures.cursor c.args.history c.in_ok-noted.noted
    (c.in_ok-noted.ensures.tree ∙ c.requires.tree)
    (c.in_ok-noted.ensures.noted ∙ ap (λ (ns : List NodeSteps). acts_noted t ns stepped c.args.history.changes) c.as_slice.ensures.value)
