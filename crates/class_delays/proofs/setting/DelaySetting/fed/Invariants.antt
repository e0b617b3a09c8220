use Rattle.std.proofs.Common.{◌≡◌, map, take}
use Rattle.class_delays.specs.{fed_by}
use Rattle.class_delays.proofs.setting.DelaySetting.fed.Given as goal

abbrev pub invariant-loop-c : goal.invariant-loop-c
invariant-loop-c l = l.fed.items ≡ map (fed_by l.self l.place.at l.peak) (take l.c-index l.coming)
