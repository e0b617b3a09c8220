use Rattle.std.proofs.Common.{ap, ◌∙◌, if◌then◌else◌}
use Rattle.mrp_participant.specs.{find, same, after_declare, declared_in}
use Rattle.mrp_participant.specs.State.{State}
use Rattle.mrp_participant.proofs.{EachKey.each-declare, Exits.on_ok, Transitions.AreRows-declare, Transitions.AreRows-either, Unchanged.declare-same, Unchanged.either-same, Unchanged.unchanged, Holdings.state_is}
use Rattle.mrp_participant.proofs.participant.Participant.declare.Goals as goal

pub invariant_of-self : goal.invariant_of-self
invariant_of-self g c = (
  AreRows-either g.A.Key.Ord.cmp c.declare_in-done.result _ _ _ c.declare_in-done.ensures.ok c.declare_in-done.ensures.err
      (AreRows-declare g.met.A.Key.Ord.total g.A.Content.PartialEq.eq _ _ _ c.self.invariant.0) c.self.invariant.0,
  c.self.invariant.1,
  c.self.invariant.2,
  c.declare_in-done.ensures.outlook,
  c.self.invariant.4,
  λ on. cc,
)

pub returns-clause-each_key : goal.returns-clause-each_key
returns-clause-each_key g c =
    on_ok c.declare_in-done.result _ _
    (λ is k.
    ap (find g.A.Key.Ord.cmp k) is
    ∙ each-declare g.met.A.Key.Ord.total g.A.Content.PartialEq.eq c.args.key c.args.content c.self.inside.rows.items c.self.invariant.0 k
    ∙ ap
    (λ (s : State g.row.A-Key.Denot g.row.A-Content.Denot). if same g.A.Key.Ord.cmp c.args.key k
    then after_declare g.A.Content.PartialEq.eq c.args.key c.args.content (find g.A.Key.Ord.cmp c.args.key s.rows)
    else find g.A.Key.Ord.cmp k s.rows)
    (state_is c.self.view_is))
    c.declare_in-done.ensures.ok

pub returns-clause-same_content : goal.returns-clause-same_content
returns-clause-same_content g c h =
    unchanged _ _ _ (state_is c.self.view_is)
    (either-same c.declare_in-done.result _ _ _ c.declare_in-done.ensures.ok c.declare_in-done.ensures.err
    (declare-same g.met.A.Key.Ord.total g.A.Content.PartialEq.eq g.met.A.Content.Eq.laws c.args.key c.args.content c.self.inside.rows.items c.self.invariant.0
    (ap (λ (s : State g.row.A-Key.Denot g.row.A-Content.Denot). declared_in (find g.A.Key.Ord.cmp c.args.key s.rows)) (state_is c.self.view_is) ∙ h)))
