use Rattle.std.proofs.Common.{◌≡◌, ◌++◌, drop}
use Rattle.std.specs.Prelude.{flat_map}
use Rattle.audit_words.specs.Shown.{shown_octet}
use Rattle.audit_words.proofs.shown.put_each.Given as goal

-- the text so far with the octets that are left is the whole
abbrev pub invariant-loop-c : goal.invariant-loop-c
invariant-loop-c l = l.out.items ++ flat_map (shown_octet) (drop l.c-index l.octets) ≡ l.initial.out.items ++ flat_map (shown_octet) l.octets
