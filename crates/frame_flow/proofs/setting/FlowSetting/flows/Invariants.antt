use Rattle.frame_flow.specs.{AreAt, AreDoneBefore}
use Rattle.frame_flow.proofs.setting.FlowSetting.flows.Given as goal

abbrev pub invariant-loop-level : goal.invariant-loop-level
invariant-loop-level l = record {
  at : AreAt l.places.items l.flows.items;
  done : AreDoneBefore l.self l.level 0 0 l.places.items l.flows.items;
}
