use Rattle.std.proofs.Common.{map, ap, subst, ◌∙◌}
use Rattle.srp_base.proofs.Arithmetic.{if_ok}
use Rattle.link_net.specs.declared.events.NetEvent.{NetEvent}
use Rattle.link_net.specs.declared.events.NetEvent.TheVariants as events
use Rattle.link_net.specs.{NetState, net_with, net_step, CanHappen}
use Rattle.link_net.proofs.Standing.{stands, peer_stands, node_there, may_ask, may_tick}
use Rattle.link_net.proofs.happen.happen.Goals as goal

pub ask-requires-clause-few : goal.ask-requires-clause-few
ask-requires-clause-few g c =
    let w : NetState g.N.LinkNode.meaning.State = net_with c.args.tree.now c.args.clock.now (map g.N.LinkNode.state c.args.nodes.now.items) in
    let can : CanHappen g.N.LinkNode.meaning (events.Request c.in-Request.number c.in-Request.request) w = subst (λ (e : NetEvent g.row.N-Request.Denot g.row.N-Step.Denot g.row.N-Pdu.Denot). CanHappen g.N.LinkNode.meaning e w) c.in-Request.is c.requires.can in
    node_there g.N.LinkNode.meaning w c.requires.kept c.in-Request.number can.0

pub ask-requires-clause-can : goal.ask-requires-clause-can
ask-requires-clause-can g c =
    let w : NetState g.N.LinkNode.meaning.State = net_with c.args.tree.now c.args.clock.now (map g.N.LinkNode.state c.args.nodes.now.items) in
    let can : CanHappen g.N.LinkNode.meaning (events.Request c.in-Request.number c.in-Request.request) w = subst (λ (e : NetEvent g.row.N-Request.Denot g.row.N-Step.Denot g.row.N-Pdu.Denot). CanHappen g.N.LinkNode.meaning e w) c.in-Request.is c.requires.can in
    may_ask g.N.LinkNode.meaning c.keeps_laws.ensures w c.requires.kept c.in-Request.number c.in-Request.request can

pub make_step-requires-clause-here : goal.make_step-requires-clause-here
make_step-requires-clause-here g c =
    let w : NetState g.N.LinkNode.meaning.State = net_with c.args.tree.now c.args.clock.now (map g.N.LinkNode.state c.args.nodes.now.items) in
    let can : CanHappen g.N.LinkNode.meaning (events.Port c.in-Port.at c.in-Port.step) w = subst (λ (e : NetEvent g.row.N-Request.Denot g.row.N-Step.Denot g.row.N-Pdu.Denot). CanHappen g.N.LinkNode.meaning e w) c.in-Port.is c.requires.can in
    stands g.N.LinkNode.meaning w c.requires.kept c.in-Port.at can

pub lose-requires-clause-here : goal.lose-requires-clause-here
lose-requires-clause-here g c =
    let w : NetState g.N.LinkNode.meaning.State = net_with c.args.tree.now c.args.clock.now (map g.N.LinkNode.state c.args.nodes.now.items) in
    let can : CanHappen g.N.LinkNode.meaning (events.Lose c.in-Lose.at c.in-Lose.index) w = subst (λ (e : NetEvent g.row.N-Request.Denot g.row.N-Step.Denot g.row.N-Pdu.Denot). CanHappen g.N.LinkNode.meaning e w) c.in-Lose.is c.requires.can in
    stands g.N.LinkNode.meaning w c.requires.kept c.in-Lose.at can

pub lose-requires-clause-there : goal.lose-requires-clause-there
lose-requires-clause-there g c =
    let w : NetState g.N.LinkNode.meaning.State = net_with c.args.tree.now c.args.clock.now (map g.N.LinkNode.state c.args.nodes.now.items) in
    let can : CanHappen g.N.LinkNode.meaning (events.Lose c.in-Lose.at c.in-Lose.index) w = subst (λ (e : NetEvent g.row.N-Request.Denot g.row.N-Step.Denot g.row.N-Pdu.Denot). CanHappen g.N.LinkNode.meaning e w) c.in-Lose.is c.requires.can in
    peer_stands g.N.LinkNode.meaning w c.requires.kept c.ports.ensures c.in-Lose.at can

pub repeat-requires : goal.repeat-requires
repeat-requires g c =
    let w : NetState g.N.LinkNode.meaning.State = net_with c.args.tree.now c.args.clock.now (map g.N.LinkNode.state c.args.nodes.now.items) in
    let can : CanHappen g.N.LinkNode.meaning (events.Repeat c.in-Repeat.at c.in-Repeat.index) w = subst (λ (e : NetEvent g.row.N-Request.Denot g.row.N-Step.Denot g.row.N-Pdu.Denot). CanHappen g.N.LinkNode.meaning e w) c.in-Repeat.is c.requires.can in
    stands g.N.LinkNode.meaning w c.requires.kept c.in-Repeat.at can

pub forge-requires-clause-here : goal.forge-requires-clause-here
forge-requires-clause-here g c =
    let w : NetState g.N.LinkNode.meaning.State = net_with c.args.tree.now c.args.clock.now (map g.N.LinkNode.state c.args.nodes.now.items) in
    let can : CanHappen g.N.LinkNode.meaning (events.Forge c.in-Forge.at c.in-Forge.index c.in-Forge.pdu) w = subst (λ (e : NetEvent g.row.N-Request.Denot g.row.N-Step.Denot g.row.N-Pdu.Denot). CanHappen g.N.LinkNode.meaning e w) c.in-Forge.is c.requires.can in
    stands g.N.LinkNode.meaning w c.requires.kept c.in-Forge.at can.0

pub forge-requires-clause-there : goal.forge-requires-clause-there
forge-requires-clause-there g c =
    let w : NetState g.N.LinkNode.meaning.State = net_with c.args.tree.now c.args.clock.now (map g.N.LinkNode.state c.args.nodes.now.items) in
    let can : CanHappen g.N.LinkNode.meaning (events.Forge c.in-Forge.at c.in-Forge.index c.in-Forge.pdu) w = subst (λ (e : NetEvent g.row.N-Request.Denot g.row.N-Step.Denot g.row.N-Pdu.Denot). CanHappen g.N.LinkNode.meaning e w) c.in-Forge.is c.requires.can in
    peer_stands g.N.LinkNode.meaning w c.requires.kept c.ports.ensures c.in-Forge.at can.0

pub forge-requires-clause-short : goal.forge-requires-clause-short
forge-requires-clause-short g c =
    let w : NetState g.N.LinkNode.meaning.State = net_with c.args.tree.now c.args.clock.now (map g.N.LinkNode.state c.args.nodes.now.items) in
    let can : CanHappen g.N.LinkNode.meaning (events.Forge c.in-Forge.at c.in-Forge.index c.in-Forge.pdu) w = subst (λ (e : NetEvent g.row.N-Request.Denot g.row.N-Step.Denot g.row.N-Pdu.Denot). CanHappen g.N.LinkNode.meaning e w) c.in-Forge.is c.requires.can in
    can.1

pub carry-requires-clause-here : goal.carry-requires-clause-here
carry-requires-clause-here g c =
    let w : NetState g.N.LinkNode.meaning.State = net_with c.args.tree.now c.args.clock.now (map g.N.LinkNode.state c.args.nodes.now.items) in
    let can : CanHappen g.N.LinkNode.meaning (events.Carry c.in-Carry.at) w = subst (λ (e : NetEvent g.row.N-Request.Denot g.row.N-Step.Denot g.row.N-Pdu.Denot). CanHappen g.N.LinkNode.meaning e w) c.in-Carry.is c.requires.can in
    stands g.N.LinkNode.meaning w c.requires.kept c.in-Carry.at can

pub carry-requires-clause-there : goal.carry-requires-clause-there
carry-requires-clause-there g c =
    let w : NetState g.N.LinkNode.meaning.State = net_with c.args.tree.now c.args.clock.now (map g.N.LinkNode.state c.args.nodes.now.items) in
    let can : CanHappen g.N.LinkNode.meaning (events.Carry c.in-Carry.at) w = subst (λ (e : NetEvent g.row.N-Request.Denot g.row.N-Step.Denot g.row.N-Pdu.Denot). CanHappen g.N.LinkNode.meaning e w) c.in-Carry.is c.requires.can in
    peer_stands g.N.LinkNode.meaning w c.requires.kept c.ports.ensures c.in-Carry.at can

pub go_on-requires-clause-can : goal.go_on-requires-clause-can
go_on-requires-clause-can g c =
    let w : NetState g.N.LinkNode.meaning.State = net_with c.args.tree.now c.args.clock.now (map g.N.LinkNode.state c.args.nodes.now.items) in
    let can : CanHappen g.N.LinkNode.meaning events.Clock w = subst (λ (e : NetEvent g.row.N-Request.Denot g.row.N-Step.Denot g.row.N-Pdu.Denot). CanHappen g.N.LinkNode.meaning e w) c.in-Clock.is c.requires.can in
    may_tick g.N.LinkNode.meaning c.keeps_laws.ensures w c.requires.kept can

pub returns-in-Request-clause-ok : goal.returns-in-Request-clause-ok
returns-in-Request-clause-ok g c =
    let w : NetState g.N.LinkNode.meaning.State = net_with c.args.tree.now c.args.clock.now (map g.N.LinkNode.state c.args.nodes.now.items) in
    if_ok c.ask.result _ _ (λ reply h. ap (λ (e : NetEvent g.row.N-Request.Denot g.row.N-Step.Denot g.row.N-Pdu.Denot). net_step g.N.LinkNode.meaning e w) c.in-Request.is ∙ h c.args.tree.now c.args.clock.now) c.ask.ensures.ok

pub returns-in-Port-clause-ok : goal.returns-in-Port-clause-ok
returns-in-Port-clause-ok g c =
    let w : NetState g.N.LinkNode.meaning.State = net_with c.args.tree.now c.args.clock.now (map g.N.LinkNode.state c.args.nodes.now.items) in
    if_ok c.make_step.result _ _ (λ reply h. ap (λ (e : NetEvent g.row.N-Request.Denot g.row.N-Step.Denot g.row.N-Pdu.Denot). net_step g.N.LinkNode.meaning e w) c.in-Port.is ∙ h c.args.tree.now c.args.clock.now) c.make_step.ensures.ok

pub returns-in-Repeat-clause-ok : goal.returns-in-Repeat-clause-ok
returns-in-Repeat-clause-ok g c =
    let w : NetState g.N.LinkNode.meaning.State = net_with c.args.tree.now c.args.clock.now (map g.N.LinkNode.state c.args.nodes.now.items) in
    if_ok c.repeat.result _ _ (λ reply h. ap (λ (e : NetEvent g.row.N-Request.Denot g.row.N-Step.Denot g.row.N-Pdu.Denot). net_step g.N.LinkNode.meaning e w) c.in-Repeat.is ∙ h c.args.tree.now c.args.clock.now) c.repeat.ensures.ok

pub returns-in-Forge-clause-ok : goal.returns-in-Forge-clause-ok
returns-in-Forge-clause-ok g c =
    let w : NetState g.N.LinkNode.meaning.State = net_with c.args.tree.now c.args.clock.now (map g.N.LinkNode.state c.args.nodes.now.items) in
    if_ok c.forge.result _ _ (λ reply h. ap (λ (e : NetEvent g.row.N-Request.Denot g.row.N-Step.Denot g.row.N-Pdu.Denot). net_step g.N.LinkNode.meaning e w) c.in-Forge.is ∙ h c.args.clock.now) c.forge.ensures.ok

pub returns-in-Carry-clause-ok : goal.returns-in-Carry-clause-ok
returns-in-Carry-clause-ok g c =
    let w : NetState g.N.LinkNode.meaning.State = net_with c.args.tree.now c.args.clock.now (map g.N.LinkNode.state c.args.nodes.now.items) in
    if_ok c.carry.result _ _ (λ reply h. ap (λ (e : NetEvent g.row.N-Request.Denot g.row.N-Step.Denot g.row.N-Pdu.Denot). net_step g.N.LinkNode.meaning e w) c.in-Carry.is ∙ h c.args.clock.now) c.carry.ensures.ok

pub returns-in-Clock-clause-ok : goal.returns-in-Clock-clause-ok
returns-in-Clock-clause-ok g c =
    let w : NetState g.N.LinkNode.meaning.State = net_with c.args.tree.now c.args.clock.now (map g.N.LinkNode.state c.args.nodes.now.items) in
    if_ok c.go_on.result _ _ (λ reply h. ap (λ (e : NetEvent g.row.N-Request.Denot g.row.N-Step.Denot g.row.N-Pdu.Denot). net_step g.N.LinkNode.meaning e w) c.in-Clock.is ∙ h c.args.tree.now) c.go_on.ensures.ok
