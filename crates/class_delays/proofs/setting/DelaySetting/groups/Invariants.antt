use Rattle.std.proofs.Common.{◌≡◌, ◌∷◌, map}
use Rattle.std.specs.Prelude.{filter, not}
use Rattle.std.specs.List.{range_with_len}
use Rattle.frame_flow.specs.{Force.is_port, Copies.port_of}
use Rattle.class_delays.specs.{own_of, group_of}
use Rattle.class_delays.proofs.setting.DelaySetting.groups.Given as goal

abbrev pub invariant-loop-k : goal.invariant-loop-k
invariant-loop-k l =
    l.groups.items
    ≡ own_of l.coming
    ∷ map (group_of l.self l.place.at l.coming) (filter (λ r. not (is_port r l.place.at)) (map (port_of l.place.at.node.0) (range_with_len 1 l.k)))
