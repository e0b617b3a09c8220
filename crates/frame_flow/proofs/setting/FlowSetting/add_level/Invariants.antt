use Rattle.frame_flow.specs.{AreAt, AreDoneBefore}
use Rattle.frame_flow.proofs.setting.FlowSetting.add_level.Given as goal

abbrev pub invariant-loop-node : goal.invariant-loop-node
invariant-loop-node l = record {
  at : AreAt l.places l.flows.items;
  done : AreDoneBefore l.self l.level l.node 0 l.places l.flows.items;
}
