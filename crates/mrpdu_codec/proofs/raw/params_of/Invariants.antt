use Rattle.std.proofs.Common.{◌≡◌, ◌≤◌, length, take}
use Rattle.std.specs.List.{flat_map}
use Rattle.mrpdu_codec.specs.{four_params}
use Rattle.mrpdu_codec.proofs.raw.params_of.Given as goal

abbrev pub invariant-loop-octet : goal.invariant-loop-octet
invariant-loop-octet l = (l.params.items ≡ take l.n (flat_map four_params (take l.octet-index l.fours))) × (length l.params.items ≤ l.n)
