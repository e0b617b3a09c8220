use Rattle.std.proofs.Common.{◌≡◌, ◌==◌, ℕ, List, [], length, vec_len, ap, sym, subst, ◌∙◌, rules}
use Rattle.std.specs.List.{AllByRecursion}
use Rattle.tree_topology.specs.Topology.{Topology}
use Rattle.world_core.specs.declared.{journal.NodeSteps.NodeSteps, journal.Tick.Tick}
use Rattle.world_core.specs.{Timeline.AreChanges, History.HasPortsOf, World.WorldState, World.world_after, Ticks.step_events, Carrying.NothingWaits, Carrying.has_send}
use Rattle.world_core.proofs.TickParts.{nothing_carried}
use Rattle.srp_schedule.specs.{AreRests}
use Rattle.srp_schedule.proofs.{RestLemmas.empty_as, RestLemmas.script_rests, TickLemmas.tick_parts, TickLemmas.clock_can, TickLemmas.canonical_tick, TickLemmas.after_tick, TickLemmas.begins_next, TickLemmas.carried_stays, TickLemmas.scripted_stays, TickLemmas.stepped_stays, TickLemmas.steps_known, TickLemmas.steps_noted}
use Rattle.srp_schedule.proofs.run.make_tick.Goals as goal

pub note_steps-requires-clause-tree : goal.note_steps-requires-clause-tree
note_steps-requires-clause-tree c =
    c.requires.tree
    ∙ sym (stepped_stays c.laws_of_a_tick.ensures c.args.scenario.now c.keeps_rules.ensures c.args.t c.requires.within c.args.world.now c.requires.during
    c.make_events.new.world c.make_steps.new.world c.in_ok-steps.steps.items
    c.in_ok-events.ensures.after c.in_ok-steps.ensures.steps c.in_ok-steps.ensures.after).tree_is

pub note_steps-requires-clause-changes : goal.note_steps-requires-clause-changes
note_steps-requires-clause-changes c =
    subst (λ (r : Topology). AreChanges r c.args.t c.args.history.changes) (sym c.requires.tree) c.requires.changes

pub note_steps-requires-clause-ports : goal.note_steps-requires-clause-ports
note_steps-requires-clause-ports c =
    let steps = c.in_ok-steps.steps.items in
    subst (λ (nodes : List NodeSteps). AllByRecursion (HasPortsOf c.args.history.tree) nodes) (sym c.as_slice.ensures.value)
    (subst (λ (r : Topology). AllByRecursion (HasPortsOf r) steps) (sym c.requires.tree)
    (steps_known c.laws_of_a_tick.ensures c.args.scenario.now c.keeps_rules.ensures c.args.t c.requires.within c.args.world.now c.requires.during
    c.make_events.new.world steps c.in_ok-events.ensures.after c.in_ok-steps.ensures.steps))

pub carry_sent-requires : goal.carry_sent-requires
carry_sent-requires c isnt =
    let plan = c.args.scenario.now in
    let steps = c.in_ok-steps.steps.items in
    let there = stepped_stays c.laws_of_a_tick.ensures plan c.keeps_rules.ensures c.args.t c.requires.within c.args.world.now c.requires.during
    c.make_events.new.world c.make_steps.new.world steps
    c.in_ok-events.ensures.after c.in_ok-steps.ensures.steps c.in_ok-steps.ensures.after in
    nothing_carried c.a_tick_carries_what_it_has_sent.ensures.nothing plan c.args.t c.args.world.now c.requires.during c.requires.waits
    c.make_steps.new.world (record { events = []; steps = steps })
    (c.in_ok-steps.ensures.after ∙ ap (λ (u : WorldState). world_after (step_events steps) u) c.in_ok-events.ensures.after)
    there.tree_is (sym (ap has_send c.as_slice-2.ensures.value) ∙ isnt)

pub let_clocks_go_on-requires : goal.let_clocks_go_on-requires
let_clocks_go_on-requires c =
    clock_can c.laws_of_a_tick.ensures c.args.scenario.now c.keeps_rules.ensures c.args.t c.requires.within c.args.world.now c.requires.during
    c.make_events.new.world c.make_steps.new.world c.carry_sent.new.world c.in_ok-steps.steps.items
    c.in_ok-events.ensures.after c.in_ok-steps.ensures.steps c.in_ok-steps.ensures.after c.in_ok-has_carried.ensures.carried

-- ---- what is known of nodes that rest, from part to part

pub make_steps-requires : goal.make_steps-requires
make_steps-requires c =
    let plan = c.args.scenario.now in
    let there = scripted_stays c.laws_of_a_tick.ensures plan c.keeps_rules.ensures c.args.t c.requires.within c.args.world.now c.requires.during c.make_events.new.world c.in_ok-events.ensures.after in
    let count : vec_len c.in_ok-events.events ≡ length c.in_ok-events.events.items = search rules in
    c.forget_if.ensures c.make_events.new.world
    (c.requires.rests.count ∙ ap (λ (r : Topology). length r.kinds) (c.requires.during.tree_is ∙ sym there.tree_is))
    (λ none. script_rests plan c.args.t c.args.world.now c.make_events.new.world c.in_ok-events.events.items c.args.rests.now.items
    c.in_ok-events.ensures.numbers c.in_ok-events.ensures.after (empty_as c.in_ok-events.events.items c.is_empty.result (c.is_empty.ensures ∙ ap (λ (n : ℕ). n == 0) count) none) c.requires.rests)

pub returns-clause-rests : goal.returns-clause-rests
returns-clause-rests c =
    let plan = c.args.scenario.now in
    let rests = c.in_ok-steps.ensures.rests in
    let stepped = stepped_stays c.laws_of_a_tick.ensures plan c.keeps_rules.ensures c.args.t c.requires.within c.args.world.now c.requires.during
    c.make_events.new.world c.make_steps.new.world c.in_ok-steps.steps.items c.in_ok-events.ensures.after c.in_ok-steps.ensures.steps c.in_ok-steps.ensures.after in
    let carried = carried_stays c.laws_of_a_tick.ensures plan c.keeps_rules.ensures c.args.t c.requires.within c.args.world.now c.requires.during
    c.make_events.new.world c.make_steps.new.world c.carry_sent.new.world c.in_ok-steps.steps.items c.in_ok-events.ensures.after c.in_ok-steps.ensures.steps c.in_ok-steps.ensures.after
    c.in_ok-has_carried.ensures.carried in
    let left = c.forget_if-2.ensures c.carry_sent.new.world
    (rests.count ∙ ap (λ (r : Topology). length r.kinds) (stepped.tree_is ∙ sym carried.tree_is))
    (λ none. subst (λ (u : WorldState). AreRests u c.make_steps.new.rests.items) (sym (c.in_ok-has_carried.ensures.none none)) rests) in
    c.in_ok-let_clocks_go_on.ensures.rests c.forget_if-2.new.rests.items left

pub returns-clause-made : goal.returns-clause-made
returns-clause-made c =
    let laws = c.laws_of_a_tick.ensures in
    let plan = c.args.scenario.now in
    let rules = c.keeps_rules.ensures in
    let t = c.args.t in
    let w = c.args.world.now in
    let scripted = c.make_events.new.world in
    let stepped = c.make_steps.new.world in
    let carried = c.carry_sent.new.world in
    let end = c.let_clocks_go_on.new.world in
    let tick : Tick = record { events = c.from_vec.result; steps = c.from_vec-2.result } in
    let parts = tick_parts plan t w scripted stepped carried end c.in_ok-events.events.items c.in_ok-steps.steps.items tick c.from_vec.ensures c.from_vec-2.ensures
    c.in_ok-events.ensures.numbers c.in_ok-events.ensures.answers c.in_ok-events.ensures.after c.in_ok-steps.ensures.steps c.in_ok-steps.ensures.after c.in_ok-has_carried.ensures.carried
    c.in_ok-let_clocks_go_on.ensures.after in
    let after = after_tick laws plan rules t c.requires.within w c.requires.during scripted stepped carried end tick parts in
    record {
      tick = canonical_tick laws plan rules t c.requires.within w c.requires.during scripted stepped carried end tick parts;
      after = after;
      during = begins_next laws plan rules t c.requires.within w c.requires.during scripted stepped carried end tick parts;
      next = subst NothingWaits (sym after) (c.a_tick_carries_what_it_has_sent.ensures.next plan t w tick c.requires.during);
      cursor = c.in_ok-events.ensures.cursor;
      tree = c.in_ok-noted.ensures.tree ∙ c.requires.tree;
      noted = steps_noted laws plan rules t c.requires.within w c.requires.during scripted stepped carried end tick parts
          c.as_slice.result.now c.args.history.changes c.in_ok-noted.noted.changes (c.from_vec-2.ensures ∙ sym c.as_slice.ensures.value) c.in_ok-noted.ensures.noted;
    }
