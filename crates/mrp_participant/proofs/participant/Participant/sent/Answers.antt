use Rattle.std.proofs.Common.{refl, sym, ap, subst, ◌∙◌}
use Rattle.mrp_participant.specs.{is_taken, AreRows, sent_state}
use Rattle.mrp_participant.proofs.{Sendings.silent-state, Sendings.sent-parts, Sendings.sent-keeps, Transitions.AreRows-filter_mapped, Holdings.state_is}
use Rattle.mrp_participant.proofs.participant.Participant.sent.Goals as goal

pub returns-then-has_nothing_to_say-clause-after : goal.returns-then-has_nothing_to_say-clause-after
returns-then-has_nothing_to_say-clause-after g c =
    silent-state g.A.Key.Ord.cmp g.A.MrpApp.base g.A.MrpApp.octets c.args.now c.args.self.now.state (sym c.has_nothing_to_say.ensures ∙ c.if-has_nothing_to_say.true)

pub step_rows-requires : goal.step_rows-requires
step_rows-requires g c = c.self.invariant.0

pub invariant_of-self : goal.invariant_of-self
invariant_of-self g c = (
  subst (AreRows g.A.Key.Ord.cmp) (sym c.step_rows.ensures.rows)
      (AreRows-filter_mapped g.A.Key.Ord.cmp _
      (sent-keeps c.is_active-leave_all.result
      (is_taken g.A.MrpApp.base g.A.MrpApp.octets g.A.Key.Ord.cmp c.is_active-leave_all.result c.self.inside.rows.items) _) c.self.inside.rows.items c.self.invariant.0),
  c.self.invariant.1,
  c.self.invariant.2,
  c.step_rows.ensures.outlook,
  c.self.invariant.4,
  λ on. cc,
)

pub returns-clause-after : goal.returns-clause-after
returns-clause-after g c =
    sent-parts g.A.Key.Ord.cmp g.A.MrpApp.base g.A.MrpApp.octets c.args.now
    (record {
      rows = c.self.inside.rows.items;
      leave_all = c.self.inside.leave_all;
      next_leave_all = c.self.inside.next_leave_all;
      period = c.self.inside.period;
      leave_time = c.self.inside.leave_time;
      periodic = c.self.inside.periodic;
      sound = c.self.inside.sound;
    })
    _ _ _ _ _ c.is_active-leave_all.ensures refl c.step_rows.ensures.rows c.step-self-inside.ensures c.sound_after-self-inside.ensures
    ∙ ap (sent_state g.A.MrpApp.base g.A.MrpApp.octets g.A.Key.Ord.cmp c.args.now) (state_is c.self.view_is)

pub returns-clause-stays : goal.returns-clause-stays
returns-clause-stays g c silent = cc
