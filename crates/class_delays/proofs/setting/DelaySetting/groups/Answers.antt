use Rattle.std.proofs.Common.{◌≡◌, ◌+◌, ◌++◌, ◌∷◌, [], true, false, refl, List, Vec, Global, ap, ◌∙◌, rules}
use Rattle.std.specs.Prelude.{not}
use Rattle.srp_base.specs.declared.numbers.EgressPort.{EgressPort}
use Rattle.frame_flow.specs.{Force.is_port, Copies.port_of}
use Rattle.delay_bound.specs.declared.bound.Group.{Group}
use Rattle.class_delays.specs.{own_of, group_of}
use Rattle.std.proofs.lemmas.Result.{err_from_is_err_and}
use Rattle.tree_topology.specs.Topology.{HasPort}
use Rattle.class_delays.proofs.{Handing.group-fault, Handing.group-has, Orders.group-in, Orders.group-out, setting.DelaySetting.groups.Goals.then-ne+in_ok-group_by+in_ok-push-2, setting.DelaySetting.groups.Goals.else-ne}
use Rattle.class_delays.proofs.setting.DelaySetting.groups.Goals as goal

pub loop-k-preserved : goal.loop-k-preserved
loop-k-preserved c =
    let p = c.args.place.at in
    let r = port_of p.node.0 (c.loop-k.k + 1) in
    let test = λ (t : EgressPort). not (is_port t p) in
    let group = group_of c.args.self.now p c.args.coming.now in
    let own = own_of c.args.coming.now in
    let to : Vec Group Global → List Group = λ v. v.items in
    elim c.if-ne.branch [
      | then-ne+in_ok-group_by+in_ok-push-2 w ↦ (
          let is : test r ≡ true = search rules in
          group-in test group own p.node.0 c.loop-k.k c.loop-k.groups.items c.if-ne.groups.items is c.loop-k.invariant
          (ap to w.groups-is ∙ w.in_ok-push-2.ensures.items ∙ ap (λ (g : Group). c.loop-k.groups.items ++ g ∷ []) w.in_ok-group_by.ensures.ok))
      | else-ne w ↦ (
          let nay : test r ≡ false = search rules in
          group-out test group own p.node.0 c.loop-k.k c.loop-k.groups.items c.if-ne.groups.items nay c.loop-k.invariant (ap to w.groups-is))
    ]

pub returns-in_err-group_by-clause-err : goal.returns-in_err-group_by-clause-err
returns-in_err-group_by-clause-err c =
    let p = err_from_is_err_and c.from_residual-in_err-group_by.result c.from_residual-in_err-group_by.ensures.1 in
    let at = c.args.place.at in
    let r = port_of at.node.0 (c.loop-k.k + 1) in
    let other : is_port r at ≡ false = search rules in
    let here : HasPort c.args.self.now.setting.tree r = search rules in
    rw (p.1, p.2) (group-fault c.args.self.now at c.args.coming.now (group_of c.args.self.now at c.args.coming.now r) c.in_err-group_by.field-0.0
    (group-has c.args.self.now at r c.args.coming.now (record { port = here; node = refl; other = other })) c.in_err-group_by.ensures.err)
