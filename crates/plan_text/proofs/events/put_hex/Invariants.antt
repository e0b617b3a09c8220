use Rattle.std.proofs.Common.{◌≡◌, ◌++◌, drop}
use Rattle.std.specs.Prelude.{flat_map}
use Rattle.plan_text.specs.Text.{hex_pair}
use Rattle.plan_text.proofs.events.put_hex.Given as goal

-- the text so far with the digits of the octets that are left is the whole
abbrev pub invariant-loop-octet : goal.invariant-loop-octet
invariant-loop-octet l = l.out.items ++ flat_map (hex_pair) (drop l.octet-index l.octets) ≡ l.initial.out.items ++ flat_map (hex_pair) l.octets
