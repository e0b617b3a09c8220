use Rattle.std.proofs.Common.{List, sym, subst}
use Rattle.node_core.specs.State.{NodeState}
use Rattle.node_core.specs.declared.types.NodeStep.{NodeStep}
use Rattle.bridge_book.specs.{Notice, HasClosedHub, IsRefusedHub}
use Rattle.bridge_book.specs.Hub.{Hub}
use Rattle.bridge_book.proofs.StepsLemmas.{closed_hub, of_hub}
use Rattle.bridge_book.proofs.hub.NodeHub.close.Goals as goal

pub returns-in-Ok-clause-closed : goal.returns-in-Ok-clause-closed
returns-in-Ok-clause-closed c =
    let inside = c.self.inside in
    let closed = c.in-Ok.closed in
    let hub : Hub = record { number = inside.number; lock = inside.lock } in
    let said = c.opened.ensures in
    subst (λ (x : Hub × NodeState × List NodeStep × List Notice). HasClosedHub x.0 c.args.passes x.1 x.2 x.3)
    (λ i. (c.self.view_is i, sym said.node i, sym said.steps i, sym said.notices i))
    (closed_hub hub c.args.passes closed.state closed.history c.self.invariant.0 c.self.invariant.1 c.in-Ok.ensures.closed)

pub handed_back-requires : goal.handed_back-requires
handed_back-requires c = of_hub c.self.inside.lock c.args.passes c.in-Err.refused c.in-Err.ensures.refused c.self.invariant

pub returns-in-Err-clause-refused : goal.returns-in-Err-clause-refused
returns-in-Err-clause-refused c =
    subst (λ (h : Hub). IsRefusedHub h c.args.passes c.handed_back.result) c.self.view_is (c.handed_back.ensures c.self.inside.lock c.args.passes c.in-Err.ensures.refused)
