use Rattle.std.proofs.Common.{◌≡◌, ◌++◌, take, drop}
use Rattle.std.specs.List.{flat_map}
use Rattle.mrpdu_codec.specs.Raw.{attrs_in}
use Rattle.mmrp_codec.specs.{events_in_place, first_past_in}
use Rattle.mmrp_codec.proofs.reading.push_vectors.Given as goal

abbrev pub invariant-loop-i : goal.invariant-loop-i
invariant-loop-i l = record {
  past : first_past_in l.i (attrs_in (drop l.i l.raws)) ≡ first_past_in 0 (attrs_in l.raws);
  events : l.out.items ≡ l.initial.out.items ++ flat_map events_in_place (take l.i l.raws);
}
