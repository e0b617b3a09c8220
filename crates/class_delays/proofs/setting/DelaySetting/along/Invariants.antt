use Rattle.std.proofs.Common.{take}
use Rattle.class_delays.specs.{AreReckoned, AreThere}
use Rattle.class_delays.proofs.setting.DelaySetting.along.Given as goal

abbrev pub invariant-loop-x : goal.invariant-loop-x
invariant-loop-x l = record {
  reckoned : AreReckoned l.self l.ports.items;
  there : AreThere (take l.x-index l.ranked) l.ports.items;
}
