use Rattle.std.proofs.Common.{◌≡◌, ◌∙◌, ap, refl}
use Rattle.srp_base.proofs.Arithmetic.{both_err, on_ok}
use Rattle.flat_side.specs.{FlatState, heard_flat, received_flat, SideHolding, flat_of}
use Rattle.flat_side.proofs.Changing.{kept_either, same_flat}
use Rattle.flat_side.proofs.side.FlatSide.take.Given as given
use Rattle.flat_side.proofs.side.FlatSide.take.Goals as goal

-- the side as it was
abbrev before : (g : given.Over) (c : goal.After-drop-msgs g) → FlatState g.row.A-Key.Denot
before g c = flat_of c.self.inside.parts.items c.self.inside.awaiting.items c.self.inside.own.keys

-- what the messages say is what the PDU says
said : (g : given.Over) (c : goal.After-drop-msgs g) → heard_flat g.A.Key.Ord.cmp c.args.now c.args.at c.in_ok-msgs.msgs.leave_all c.in_ok-msgs.msgs.events (before g c)
    ≡ received_flat g.A.Key.Ord.cmp c.args.now c.args.at c.args.leave_all c.args.events.now (before g c)
said g c =
    ap (λ l. heard_flat g.A.Key.Ord.cmp c.args.now c.args.at l c.in_ok-msgs.msgs.events (before g c)) c.in_ok-msgs.ensures.leave_all
    ∙ ap (λ es. heard_flat g.A.Key.Ord.cmp c.args.now c.args.at c.args.leave_all es (before g c)) c.in_ok-msgs.ensures.events

pub invariant_of-self : goal.invariant_of-self
invariant_of-self g c = (
  kept_either g.A.Key.Ord.cmp c.receive_at.result (before g c) _ (received_flat g.A.Key.Ord.cmp c.args.now c.args.at c.args.leave_all c.args.events.now (before g c)) c.self.invariant.0
      (c.every_call_keeps_a_side.ensures.receive c.args.now c.args.at c.args.leave_all c.args.events.now (before g c) c.self.invariant.0)
      (on_ok c.receive_at.result (λ all. all c.self.inside.own.keys ∙ said g c) c.receive_at.ensures.ok)
      (both_err c.receive_at.result (λ parts sets. same_flat _ _ _ _ _ _ parts sets refl) c.receive_at.ensures.parts c.receive_at.ensures.sets),
  tt,
)

pub returns-clause-ok : goal.returns-clause-ok
returns-clause-ok g c =
    on_ok c.receive_at.result (λ all. all c.self.inside.own.keys ∙ (said g c
    ∙ ap (λ (v : SideHolding g.row.A-Key.Denot). received_flat g.A.Key.Ord.cmp c.args.now c.args.at c.args.leave_all c.args.events.now v.state) c.self.view_is)) c.receive_at.ensures.ok
