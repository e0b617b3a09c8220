use Rattle.std.proofs.Common.{ℕ, IfOk, OnErr, ap, subst}
use Rattle.node_core.specs.State.{NodeState}
use Rattle.turn_lock.specs.Calls.{HasCalled, HasLooked}
use Rattle.bridge_book.specs.{PortAsk, Shared, node_does, shared_does}
use Rattle.bridge_book.proofs.StepsLemmas.{ok_as, err_as, called_of_node, looked_of_node}
use Rattle.bridge_book.proofs.hub.NodeHub.call.Goals as goal

pub returns-clause-called : goal.returns-clause-called
returns-clause-called g c =
    let shared : Shared = c.self.inside.lock.start in
    let pass = c.args.pass.now in
    let after = c.call.new.pass.seen in
    let asked : ℕ → PortAsk = λ n. record { port = record { 0 = n }; step = c.args.step } in
    subst (λ (x : NodeState × ℕ). IfOk c.call.result (λ told. HasCalled node_does x.0 pass.number pass.seen (asked x.1) told after))
    (λ i. (ap (λ h. h.lock.start.node) c.self.view_is i, c.number.ensures.value i))
    (ok_as (λ told. HasCalled shared_does shared pass.number pass.seen (asked c.number.result) told after)
    (λ told. HasCalled node_does shared.node pass.number pass.seen (asked c.number.result) told after) c.call.result
    (λ told. called_of_node shared pass.number pass.seen after (asked c.number.result) told) c.call.ensures.called)

pub returns-clause-no_memory : goal.returns-clause-no_memory
returns-clause-no_memory g c =
    let shared : Shared = c.self.inside.lock.start in
    let pass = c.args.pass.now in
    let after = c.call.new.pass.seen in
    subst (λ (n : NodeState). OnErr c.call.result (HasLooked node_does n pass.number pass.seen after)) (ap (λ h. h.lock.start.node) c.self.view_is)
    (err_as (HasLooked shared_does shared pass.number pass.seen after) (HasLooked node_does shared.node pass.number pass.seen after) c.call.result
    (looked_of_node shared pass.number pass.seen after) c.call.ensures.no_memory)
