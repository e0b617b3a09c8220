use Rattle.frame_flow.specs.{AreKept, AreAt, AreDoneBefore}
use Rattle.frame_flow.proofs.setting.FlowSetting.add_node.Given as goal

abbrev pub invariant-loop-k : goal.invariant-loop-k
invariant-loop-k l = record {
  at : AreAt l.places l.flows.items;
  done : AreDoneBefore l.self l.level l.node l.k l.places l.flows.items;
  kept : AreKept l.self l.level l.flows.items l.kept.at l.kept.copies.items;
}
