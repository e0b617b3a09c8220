use Rattle.std.proofs.Common.{◌≡◌, Bool, if◌then◌else◌, List, ap, ◌∙◌, refl, subst, sym, arith}
use Rattle.std.specs.declared.cmp.Ordering.{Ordering}
use Rattle.srp_base.specs.declared.{numbers.Cs.Cs, mrp.MrpEvent.MrpEvent}
use Rattle.leaveall.specs.declared.{LeaveAll.LeaveAll, LaEvent.TheVariants.Rx}
use Rattle.leaveall.specs.Table.{table}
use Rattle.mrp_participant.specs.declared.row.Row.{Row}
use Rattle.mrp_participant.specs.State.{State}
use Rattle.mrp_participant.specs.{AreRows, after, rows_after_receive, changed_keys, received_state}
use Rattle.mrp_participant.proofs.{Exits.of_error, Exits.on_error, Unchanged.unchanged, Holdings.state_is, Holdings.same-room}
use Rattle.mrp_participant.proofs.participant.Participant.receive.Goals as goal

pub receive_in-requires-clause-are_rows : goal.receive_in-requires-clause-are_rows
receive_in-requires-clause-are_rows g c = c.self.invariant.0

pub receive_in-requires-clause-outlook : goal.receive_in-requires-clause-outlook
receive_in-requires-clause-outlook g c = c.self.invariant.3

pub invariant_of-self : goal.invariant_of-self
invariant_of-self g c = (
  subst (AreRows g.A.Key.Ord.cmp) (sym c.in_err-keys.ensures.err) c.self.invariant.0,
  c.self.invariant.1,
  c.self.invariant.2,
  c.in_err-keys.ensures.outlook,
  c.self.invariant.4,
  λ on. same-room _ _ _ _ c.in_err-keys.ensures.err refl (c.self.invariant.5 on),
)

pub returns-in_err-keys-clause-after : goal.returns-in_err-keys-clause-after
returns-in_err-keys-clause-after g c = of_error c.from_residual.result _ _ c.from_residual.ensures.1

pub returns-in_err-keys-clause-keys : goal.returns-in_err-keys-clause-keys
returns-in_err-keys-clause-keys g c = of_error c.from_residual.result _ _ c.from_residual.ensures.1

pub returns-in_err-keys-clause-err : goal.returns-in_err-keys-clause-err
returns-in_err-keys-clause-err g c = on_error c.from_residual.result (unchanged _ _ _ (state_is c.self.view_is) c.in_err-keys.ensures.err)

pub invariant_of-self-2 : goal.invariant_of-self-2
invariant_of-self-2 g c = (
  c.in_ok-keys.ensures.are_rows,
  c.self.invariant.1,
  c.self.invariant.2,
  c.in_ok-keys.ensures.outlook,
  c.self.invariant.4,
  λ on. cc,
)

-- the state after what was received
received : {K C : Type 0} (cmp : K → K → Ordering) (now : Cs) (s : State K C) (events slice : List (MrpEvent × K × C))
    → (rows : List (Row K C)) → slice ≡ events → (leave_all : Bool) (machine : LeaveAll) (next : Cs)
    → rows ≡ rows_after_receive cmp (after now s.leave_time) leave_all slice s.rows
    → machine ≡ (if leave_all then table Rx s.leave_all else s.leave_all)
    → next ≡ (if leave_all then after now s.period else s.next_leave_all)
    → record s { rows = rows; leave_all = machine; next_leave_all = next } ≡ received_state cmp now leave_all events s
received cmp now s events slice rows is leave_all machine next rows_are machine_is next_is = grind arith

pub returns-clause-after : goal.returns-clause-after
returns-clause-after g c =
    received g.A.Key.Ord.cmp c.args.now
    (record {
      rows = c.self.inside.rows.items;
      leave_all = c.self.inside.leave_all;
      next_leave_all = c.self.inside.next_leave_all;
      period = c.self.inside.period;
      leave_time = c.self.inside.leave_time;
      periodic = c.self.inside.periodic;
      sound = c.self.inside.sound;
    })
    c.args.msgs.now.events _ _ c.as_slice.ensures c.args.msgs.now.leave_all _ _ c.in_ok-keys.ensures.rows c.machine_after-self-inside.ensures c.moment_after-self-inside.ensures
    ∙ ap (received_state g.A.Key.Ord.cmp c.args.now c.args.msgs.now.leave_all c.args.msgs.now.events) (state_is c.self.view_is)

pub returns-clause-keys : goal.returns-clause-keys
returns-clause-keys g c =
    c.in_ok-keys.ensures.keys
    ∙ ap (changed_keys g.A.Key.Ord.cmp g.A.Content.PartialEq.eq c.self.inside.rows.items) (sym c.in_ok-keys.ensures.rows)
    ∙ ap (λ (s : State g.row.A-Key.Denot g.row.A-Content.Denot). changed_keys g.A.Key.Ord.cmp g.A.Content.PartialEq.eq s.rows c.receive_in.new.rows.items) (state_is c.self.view_is)
