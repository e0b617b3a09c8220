use Rattle.class_delays.proofs.Comings.{SoFar}
use Rattle.class_delays.proofs.setting.DelaySetting.coming.Given as goal

abbrev pub invariant-loop-x : goal.invariant-loop-x
invariant-loop-x l = SoFar l.self l.ports l.place.at l.x-index l.coming.items
