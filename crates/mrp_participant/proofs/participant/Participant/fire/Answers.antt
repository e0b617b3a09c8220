use Rattle.std.proofs.Common.{subst, sym, ap, ◌∙◌}
use Rattle.mrp_participant.specs.State.{State}
use Rattle.mrp_participant.specs.{AreRows, with_rows, leave_timers_state, due_leave_all_state, due_periodic_state, left_keys}
use Rattle.mrp_participant.proofs.{Exits.of_error, Exits.on_error, Transitions.AreRows-filter_mapped, Transitions.due-keeps, Unchanged.unchanged, Holdings.state_is, Holdings.same-room}
use Rattle.mrp_participant.proofs.participant.Participant.fire.Goals as goal

pub invariant_of-self-2 : goal.invariant_of-self-2
invariant_of-self-2 g c = (
  subst (AreRows g.A.Key.Ord.cmp) (sym c.in_ok-fire_leaves.ensures.rows)
      (AreRows-filter_mapped g.A.Key.Ord.cmp _ (due-keeps c.args.now.0) _ c.self.invariant.0),
  c.self.invariant.1,
  c.self.invariant.2,
  c.in_ok-fire_leaves.ensures.outlook,
  c.taken-keys.ensures.empty,
  λ on. cc,
)

pub fire_leaves-requires-clause-outlook : goal.fire_leaves-requires-clause-outlook
fire_leaves-requires-clause-outlook g c = c.self.invariant.3

pub fire_leaves-requires-clause-empty : goal.fire_leaves-requires-clause-empty
fire_leaves-requires-clause-empty g c = c.self.invariant.4

pub invariant_of-self : goal.invariant_of-self
invariant_of-self g c = (
  subst (AreRows g.A.Key.Ord.cmp) (sym c.in_err-fire_leaves.ensures.err) c.self.invariant.0,
  c.self.invariant.1,
  c.self.invariant.2,
  c.in_err-fire_leaves.ensures.outlook,
  c.in_err-fire_leaves.ensures.stays.0,
  λ on. same-room _ _ _ _ c.in_err-fire_leaves.ensures.err c.in_err-fire_leaves.ensures.stays.1 (c.self.invariant.5 on),
)

pub returns-in_err-fire_leaves-clause-after : goal.returns-in_err-fire_leaves-clause-after
returns-in_err-fire_leaves-clause-after g c = of_error c.from_residual.result _ _ c.from_residual.ensures.1

pub returns-in_err-fire_leaves-clause-fired : goal.returns-in_err-fire_leaves-clause-fired
returns-in_err-fire_leaves-clause-fired g c = of_error c.from_residual.result _ _ c.from_residual.ensures.1

pub returns-in_err-fire_leaves-clause-keys : goal.returns-in_err-fire_leaves-clause-keys
returns-in_err-fire_leaves-clause-keys g c = of_error c.from_residual.result _ _ c.from_residual.ensures.1

pub fire_leave_all-requires : goal.fire_leave_all-requires
fire_leave_all-requires g c = c.requires

pub fire_periodic-requires : goal.fire_periodic-requires
fire_periodic-requires g c = c.requires

pub returns-in_err-fire_leaves-clause-err : goal.returns-in_err-fire_leaves-clause-err
returns-in_err-fire_leaves-clause-err g c = on_error c.from_residual.result (unchanged _ _ _ (state_is c.self.view_is) c.in_err-fire_leaves.ensures.err)

pub returns-clause-keys : goal.returns-clause-keys
returns-clause-keys g c = c.taken-keys.ensures.taken ∙ c.in_ok-fire_leaves.ensures.keys ∙ ap (λ (s : State _ _). left_keys c.args.now s) (state_is c.self.view_is)

pub returns-clause-after : goal.returns-clause-after
returns-clause-after g c =
    let s : State g.row.A-Key.Denot g.row.A-Content.Denot = record {
      rows = c.self.inside.rows.items;
      leave_all = c.self.inside.leave_all;
      next_leave_all = c.self.inside.next_leave_all;
      period = c.self.inside.period;
      leave_time = c.self.inside.leave_time;
      periodic = c.self.inside.periodic;
      sound = c.self.inside.sound;
    } in
    c.fire_periodic.ensures.after
    ∙ ap (due_periodic_state c.args.now)
    (c.fire_leave_all.ensures.after
    ∙ ap (due_leave_all_state c.args.now) (ap (λ rows. with_rows rows s) c.in_ok-fire_leaves.ensures.rows ∙ ap (leave_timers_state c.args.now) (state_is c.self.view_is)))
