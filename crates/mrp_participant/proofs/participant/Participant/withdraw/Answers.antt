use Rattle.std.proofs.Common.{subst, sym, ap, ◌∙◌, if◌then◌else◌}
use Rattle.mrp_participant.specs.{find, same, after_withdraw, declared_in, AreRows}
use Rattle.mrp_participant.specs.State.{State}
use Rattle.mrp_participant.proofs.{EachKey.each-withdraw, Transitions.AreRows-withdraw, Unchanged.withdraw-undeclared, Unchanged.unchanged, Holdings.state_is}
use Rattle.mrp_participant.proofs.participant.Participant.withdraw.Goals as goal

pub invariant_of-self : goal.invariant_of-self
invariant_of-self g c = (
  subst (AreRows g.A.Key.Ord.cmp) (sym c.withdraw_in.ensures.rows) (AreRows-withdraw g.met.A.Key.Ord.total _ _ c.self.invariant.0),
  c.self.invariant.1,
  c.self.invariant.2,
  c.withdraw_in.ensures.outlook,
  c.self.invariant.4,
  λ on. cc,
)

pub returns-clause-each_key : goal.returns-clause-each_key
returns-clause-each_key g c k =
    ap (find g.A.Key.Ord.cmp k) c.withdraw_in.ensures.rows
    ∙ each-withdraw g.met.A.Key.Ord.total c.args.key c.self.inside.rows.items c.self.invariant.0 k
    ∙ ap
    (λ (s : State g.row.A-Key.Denot g.row.A-Content.Denot). if same g.A.Key.Ord.cmp c.args.key k then after_withdraw
    (find g.A.Key.Ord.cmp c.args.key s.rows) else find g.A.Key.Ord.cmp k s.rows)
    (state_is c.self.view_is)

pub returns-clause-undeclared : goal.returns-clause-undeclared
returns-clause-undeclared g c h =
    unchanged _ _ _ (state_is c.self.view_is)
    (c.withdraw_in.ensures.rows
    ∙ withdraw-undeclared g.met.A.Key.Ord.total c.args.key c.self.inside.rows.items c.self.invariant.0
    (ap (λ (s : State g.row.A-Key.Denot g.row.A-Content.Denot). declared_in (find g.A.Key.Ord.cmp c.args.key s.rows)) (state_is c.self.view_is) ∙ h))
