use Rattle.std.proofs.Common.{refl}
use Rattle.world_core.specs.{world_of}
use Rattle.world_core.proofs.NotedRuns.{changes_are, noted_on}
use Rattle.world_core.proofs.tick_laws.a_noted_run_goes_on.Goals as goal

pub returns-clause-begins : goal.returns-clause-begins
returns-clause-begins c = λ plan rules. record {
  leads = (refl, refl);
  during = c.what_is_allowed_may_happen.ensures.begins plan rules;
  many = refl;
  reached = refl;
  timeline = c.a_timeline_goes_on.ensures.begins plan;
  says = c.what_ends_a_tick_changes_nothing_in_force.ensures.start plan;
}

pub returns-clause-changes : goal.returns-clause-changes
returns-clause-changes c = λ plan t ticks w changes run. changes_are plan t ticks w changes run

pub returns-clause-next : goal.returns-clause-next
returns-clause-next c = λ plan t ticks w tick changes rules below run legal.
    noted_on (record {
      goes_on = c.a_timeline_goes_on.ensures.noted;
      next = c.a_timeline_goes_on.ensures.next;
      from = c.what_is_noted_is_in_force.ensures.from;
      closing = c.what_ends_a_tick_changes_nothing_in_force.ensures.closing;
      trees = c.what_is_allowed_may_happen.ensures.trees;
      quiet = c.only_a_node_that_acts_changes_what_is_in_force.ensures;
      all = c.noting_who_has_acted_notes_a_tick.ensures;
    }) plan t ticks w tick changes run legal
    (c.ticks_go_on.ensures.legal plan 0 t (world_of plan) w ticks tick run.leads legal)
    (c.a_legal_run_goes_on.ensures.next plan t w tick rules below run.during legal)
