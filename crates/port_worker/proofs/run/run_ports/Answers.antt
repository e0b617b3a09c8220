use denote.Param.Send.{sendable}
use Rattle.std.proofs.Common.{[], ℕ, List, sym, ap, subst, ◌∙◌, ◌<◌}
use Rattle.srp_base.specs.declared.ports.PortChange.{PortChange}
use Rattle.topology_file.specs.Plan.{Plan}
use Rattle.world_core.specs.declared.journal.Tick.{Tick}
use Rattle.world_core.specs.{World.WorldState, Start.world_of, Carrying.NothingWaits, NotedRuns.IsNotedRun}
use Rattle.port_worker.proofs.RunLemmas.{first_cursor, one_tick}
use Rattle.port_worker.proofs.run.run_ports.Goals as goal

pub loop-t-init : goal.loop-t-init
loop-t-init g c =
    let plan = c.args.scenario.now in (
      subst (λ (ts : List Tick). IsNotedRun plan 0 ts c.in_ok-world.world c.in_ok-history.history.changes) (sym {A = List Tick} c.new-ticks.ensures.items)
          (subst (λ (w : WorldState). IsNotedRun plan 0 [] w c.in_ok-history.history.changes) (sym c.in_ok-world.ensures)
          (subst (λ (cs : List PortChange). IsNotedRun plan 0 [] (world_of plan) cs) (sym {A = List PortChange} c.in_ok-history.ensures.none)
          (c.a_noted_run_goes_on.ensures.begins plan c.keeps_rules.ensures))),
      subst NothingWaits (sym c.in_ok-world.ensures) (c.a_tick_carries_what_it_has_sent.ensures.begins plan),
      first_cursor plan.events,
      c.in_ok-history.ensures.tree ∙ ap (λ (w : WorldState). w.tree) c.in_ok-world.ensures,
    )

pub make_tick-requires : goal.make_tick-requires
make_tick-requires g c =
    let plan = c.args.scenario.now in
    let r = c.type_bounds.sync-R in
    let h = c.type_bounds.sync-G in
    let lt = subst (λ (k : ℕ). c.loop-t.t < k) (ap (λ (p : Plan). p.ticks) c.scenario.view_is) c.loop-t-test.true in (
      search sendable,
      (
        search sendable,
        (
          lt,
          (
            c.loop-t.invariant.0.during,
            (
              c.loop-t.invariant.2,
              (
                c.loop-t.invariant.1,
                (
                  c.loop-t.invariant.3,
                  c.a_noted_run_goes_on.ensures.changes plan c.loop-t.t c.loop-t.ticks.items c.loop-t.world c.loop-t.history.changes c.loop-t.invariant.0,
                ),
              ),
            ),
          ),
        ),
      ),
    )

pub loop-t-preserved : goal.loop-t-preserved
loop-t-preserved g c =
    let plan = c.args.scenario.now in
    let lt = subst (λ (k : ℕ). c.loop-t.t < k) (ap (λ (p : Plan). p.ticks) c.scenario.view_is) c.loop-t-test.true in
    one_tick (c.a_noted_run_goes_on.ensures.next) plan c.loop-t.t c.loop-t.ticks.items c.push.new.self.items c.loop-t.world c.in_ok-next.next c.in_ok-next.tick c.loop-t.history c.in_ok-next.noted
    c.make_tick.new.cursor c.keeps_rules.ensures lt c.loop-t.invariant.0 c.in_ok-next.ensures c.in_ok-push.ensures.items
