use Rattle.std.proofs.Common.{◌≡◌, ◌++◌, drop}
use Rattle.std.specs.Prelude.{flat_map}
use Rattle.rule_words.specs.{listed}
use Rattle.rule_words.proofs.refusal.put_list.Given as goal

-- the text so far with the lines of the keys that are left is the whole
abbrev pub invariant-loop-key : goal.invariant-loop-key
invariant-loop-key l =
    l.out.items ++ flat_map (listed) (drop l.key-index l.keys) ≡ l.initial.out.items ++ flat_map (listed) l.keys
