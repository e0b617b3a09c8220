use Rattle.std.proofs.Common.{◌≡◌, take}
use Rattle.mrpdu_codec.specs.{attrs_in}
use Rattle.mrpdu_codec.proofs.raw.attrs_of.Given as goal

abbrev pub invariant-loop-raw : goal.invariant-loop-raw
invariant-loop-raw l = l.attrs.items ≡ attrs_in (take l.raw-index l.raws)
