use Rattle.std.proofs.Common.{List, take, sym, subst, ◌∙◌}
use Rattle.std.specs.List.{AllByRecursion}
use Rattle.srp_base.specs.declared.{numbers.EgressPort.EgressPort, ports.PortChange.PortChange}
use Rattle.frame_flow.specs.Force.{changes_at}
use Rattle.world_core.specs.{all_changes_of, HasPortsOf, ComeUpTo, act_noted}
use Rattle.world_core.proofs.{Acting.acting_node, Histories.each_read, Histories.table_upto, Histories.acts_upto, Histories.changes_upto, Histories.next_act, Histories.next_idle, history.note_acts.Goals.then-has_act+in_ok-note_node, history.note_acts.Goals.else-has_act}
use Rattle.world_core.proofs.history.note_acts.Goals as goal

pub note_node-requires-clause-node : goal.note_node-requires-clause-node
note_node-requires-clause-node c =
    let tree = c.args.world.now.tree in
    acting_node tree c.made-item.result (each_read (HasPortsOf tree) c.args.steps.now c.loop-made.made-index c.made-item.result c.requires.ports c.loop-made-test.true c.made-item.is)
    (sym c.has_act.ensures ∙ c.if-has_act.true)

pub note_node-requires-clause-upto : goal.note_node-requires-clause-upto
note_node-requires-clause-upto c =
    let w = c.args.world.now in
    let done = take c.loop-made.made-index c.args.steps.now in
    let own : EgressPort → List PortChange = changes_at (all_changes_of c.args.nodes.now.items) in
    subst (AllByRecursion (AllByRecursion (ComeUpTo c.args.tick))) (sym c.loop-made.invariant)
    (table_upto c.args.tick w.tree (λ p. act_noted c.args.tick done w p (own p))
    (λ p. acts_upto c.args.tick w done p (own p) (changes_upto w.tree c.args.tick (all_changes_of c.args.nodes.now.items) c.requires.changes p)))

pub loop-made-preserved : goal.loop-made-preserved
loop-made-preserved c =
    let w = c.args.world.now in
    let own : EgressPort → List PortChange = changes_at (all_changes_of c.args.nodes.now.items) in
    let made = c.made-item.result in
    elim c.if-has_act.branch [
      | then-has_act+in_ok-note_node v ↦ rw v.nodes-is (next_act c.args.tick w w.tree own c.args.steps.now
          c.loop-made.made-index made c.loop-made-test.true c.made-item.is c.loop-made.nodes.items c.loop-made.invariant
          v.note_node.new.nodes.items v.in_ok-note_node.ensures (sym c.has_act.ensures ∙ v.if-has_act.true))
      | else-has_act v ↦ rw v.nodes-is (next_idle c.args.tick w w.tree own c.args.steps.now c.loop-made.made-index made
          c.loop-made-test.true c.made-item.is c.loop-made.nodes.items c.loop-made.invariant (sym c.has_act.ensures ∙ v.if-has_act.false))
    ]
