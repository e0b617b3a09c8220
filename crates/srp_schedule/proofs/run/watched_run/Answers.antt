use Rattle.std.proofs.Common.{◌≡◌, ◌+◌, refl, sym, ap, subst, ◌∙◌, List, [], ◌∷◌, ◌++◌}
use Rattle.srp_base.specs.declared.ports.PortChange.{PortChange}
use Rattle.world_core.specs.declared.journal.Tick.{Tick}
use Rattle.world_core.specs.{World.WorldState, Start.world_of}
use Rattle.srp_schedule.specs.{ends_of, having_seen}
use Rattle.srp_schedule.proofs.{TickLemmas.one_tick, NotedLemmas.IsNotedTo, NotedLemmas.none_noted, NotedLemmas.one_noted, NotedLemmas.changes_are, WatchLemmas.seen_more}
use Rattle.srp_schedule.proofs.run.watched_run.Goals as goal

pub loop-t-init : goal.loop-t-init
loop-t-init g c =
    let plan = c.args.scenario.now in (
      subst (λ (ts : List Tick). IsNotedTo plan 0 ts c.in_ok-world.world 0 c.in_ok-history.history.changes) (sym {A = List Tick} c.new-ticks.ensures.items)
          (subst (λ (w : WorldState). IsNotedTo plan 0 [] w 0 c.in_ok-history.history.changes) (sym c.in_ok-world.ensures)
          (subst (λ (cs : List PortChange). IsNotedTo plan 0 [] (world_of plan) 0 cs) (sym {A = List PortChange} c.in_ok-history.ensures.none)
          (none_noted plan (c.what_is_allowed_may_happen.ensures.begins plan c.keeps_rules.ensures) (c.a_tick_carries_what_it_has_sent.ensures.begins plan) (c.a_timeline_goes_on.ensures.begins plan)
          (c.what_ends_a_tick_changes_nothing_in_force.ensures.start plan)))),
      c.in_ok-history.ensures.tree ∙ ap (λ (w : WorldState). w.tree) c.in_ok-world.ensures,
      c.in_ok-rests.ensures,
      ap (λ (ts : List Tick). having_seen g.W.RunWatcher.after c.args.watcher.now (ends_of plan ts)) (sym {A = List Tick} c.new-ticks.ensures.items),
    )

pub make_tick-requires-clause-changes : goal.make_tick-requires-clause-changes
make_tick-requires-clause-changes g c =
    changes_are c.args.scenario.now c.loop-t.t c.loop-t.ticks.items c.loop-t.world c.loop-t.cursor c.loop-t.history.changes c.loop-t.invariant.0

pub make_tick-requires-clause-waits : goal.make_tick-requires-clause-waits
make_tick-requires-clause-waits g c = c.loop-t.invariant.0.waits

pub loop-t-preserved : goal.loop-t-preserved
loop-t-preserved g c =
    let plan = c.args.scenario.now in
    let made = c.in_ok-tick.ensures.made in
    let tick = c.in_ok-tick.tick in
    let noted = one_noted (record {
      goes_on = c.a_timeline_goes_on.ensures.noted;
      next = c.a_timeline_goes_on.ensures.next;
      from = c.what_is_noted_is_in_force.ensures.from;
      closing = c.what_ends_a_tick_changes_nothing_in_force.ensures.closing;
      trees = c.what_is_allowed_may_happen.ensures.trees;
      quiet = c.only_a_node_that_acts_changes_what_is_in_force.ensures;
      all = c.noting_who_has_acted_notes_a_tick.ensures;
    }) plan c.loop-t.t c.loop-t.ticks.items c.loop-t.world c.make_tick.new.world c.loop-t.cursor c.make_tick.new.cursor tick
    c.loop-t.history.changes c.in_ok-tick.noted.changes c.loop-t.invariant.0 made.tick.legal made.after made.noted
    (one_tick plan c.loop-t.t c.loop-t.ticks.items c.loop-t.world c.make_tick.new.world c.loop-t.cursor c.make_tick.new.cursor tick
    (c.ticks_go_on.ensures.canonical plan 0 c.loop-t.t (world_of plan) c.loop-t.world c.loop-t.ticks.items tick)
    made.tick made.after made.during made.cursor c.loop-t.invariant.0.run) made.next in (
      subst (λ (ts : List Tick). IsNotedTo plan (c.loop-t.t + 1) ts c.make_tick.new.world c.make_tick.new.cursor c.in_ok-tick.noted.changes) (sym {A = List Tick} c.in_ok-push.ensures.items) noted,
      made.tree,
      c.in_ok-tick.ensures.rests,
      seen_more g.W.RunWatcher.after c.args.watcher.now c.loop-t.watcher c.see.new.self plan c.loop-t.t c.loop-t.ticks.items tick c.make_tick.new.world
          c.loop-t.invariant.0.many noted.reached c.loop-t.invariant.3 c.in_ok-see.ensures
          ∙ ap (λ (ts : List Tick). having_seen g.W.RunWatcher.after c.args.watcher.now (ends_of plan ts)) (sym {A = List Tick} c.in_ok-push.ensures.items),
    )
