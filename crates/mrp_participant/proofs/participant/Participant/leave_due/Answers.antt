use Rattle.std.proofs.Common.{rules, ◌≡◌, ◌-◌, false, List, length, refl, subst, sym, ap, ◌∙◌, if◌then◌else◌, arith}
use Rattle.std.specs.Prelude.{vec_capacity, vec_len}
use Rattle.std.specs.{declared.cmp.Ordering.Ordering, Cmp.IsTotalOrder}
use Rattle.mrp_participant.specs.declared.row.Row.{Row}
use Rattle.mrp_participant.specs.{ChangesOnly, find, put, same, after_leave, AreRows, with_rows}
use Rattle.mrp_participant.specs.State.{State}
use Rattle.mrp_participant.proofs.{EachKey.each-leave, Transitions.AreRows-leave, Unchanged.leave-unleaving, Holdings.same-held, Holdings.same-room, Holdings.state_is, Holdings.stayed}
use Rattle.mrp_participant.proofs.participant.Participant.leave_due.Goals as goal

pub invariant_of-self : goal.invariant_of-self
invariant_of-self g c = (
  subst (AreRows g.A.Key.Ord.cmp) (sym c.leave_in-was.ensures.rows) (AreRows-leave g.met.A.Key.Ord.total _ _ c.self.invariant.0),
  c.self.invariant.1,
  c.self.invariant.2,
  c.leave_in-was.ensures.outlook,
  c.self.invariant.4,
  λ on.
      let both = stayed c.leave_in-was.result c.self.inside.ready _ c.stays_ready-self-inside.ensures on in
      let same_rows = c.leave_in-was.ensures.rows
      ∙ leave-unleaving g.met.A.Key.Ord.total c.args.key c.self.inside.rows.items c.self.invariant.0 (sym c.leave_in-was.ensures.was ∙ both.0) in
      same-room _ _ _ _ same_rows refl (c.self.invariant.5 both.1),
)

left-each : {K C : Type 0} {cmp : K → K → Ordering} → IsTotalOrder cmp
    → (key : K) (inside old : State K C) (new : List (Row K C)) → inside ≡ old → AreRows cmp inside.rows
    → new ≡ put cmp key (after_leave (find cmp key inside.rows)) inside.rows
    → ChangesOnly cmp key (after_leave (find cmp key old.rows)) old.rows new
left-each {cmp = cmp} o key inside old new is are left k =
    ap (find cmp k) left
    ∙ each-leave o key inside.rows are k
    ∙ ap (λ (s : State _ _). if same cmp key k then after_leave (find cmp key s.rows) else find cmp k s.rows) is

pub returns-clause-each_key : goal.returns-clause-each_key
returns-clause-each_key g c = left-each g.met.A.Key.Ord.total c.args.key _ _ _ (state_is c.self.view_is) c.self.invariant.0 c.leave_in-was.ensures.rows

pub returns-clause-stays : goal.returns-clause-stays
returns-clause-stays g c h =
    let same_rows : c.leave_in-was.new.rows.items ≡ c.self.inside.rows.items =
    c.leave_in-was.ensures.rows ∙ leave-unleaving g.met.A.Key.Ord.total c.args.key c.self.inside.rows.items c.self.invariant.0 (sym c.leave_in-was.ensures.was ∙ h) in
    let len : vec_len c.leave_in-was.new.rows ≡ length c.leave_in-was.new.rows.items = search rules in
    let old_len : vec_len c.self.inside.rows ≡ length c.self.inside.rows.items = search rules in
    let spare : vec_capacity c.leave_in-was.new.rows - vec_len c.leave_in-was.new.rows ≡ vec_capacity c.self.inside.rows - vec_len c.self.inside.rows =
    omega (arith, c.leave_in-was.ensures.capacity, len, old_len, ap (λ (xs : List (Row _ _)). length xs) same_rows) in
    let s : State g.row.A-Key.Denot g.row.A-Content.Denot = record {
      rows = c.self.inside.rows.items;
      leave_all = c.self.inside.leave_all;
      next_leave_all = c.self.inside.next_leave_all;
      period = c.self.inside.period;
      leave_time = c.self.inside.leave_time;
      periodic = c.self.inside.periodic;
      sound = c.self.inside.sound;
    } in
    same-held (with_rows c.leave_in-was.new.rows.items s) s _ _ _ _ (ap (λ xs. with_rows xs s) same_rows) spare
    (c.stays_ready-self-inside.ensures ∙ ap (λ b. if b then false else c.self.inside.ready) h)
    ∙ c.self.view_is
