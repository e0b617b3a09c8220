use Rattle.std.proofs.Common.{◌≡◌, ◌++◌, drop}
use Rattle.std.specs.Prelude.{flat_map}
use Rattle.rule_words.specs.{shown_char}
use Rattle.rule_words.proofs.values.put_chars.Given as goal

-- the text so far with the characters that are left is the whole
abbrev pub invariant-loop-c : goal.invariant-loop-c
invariant-loop-c l =
    l.out.items ++ flat_map shown_char (drop l.c-index l.text) ≡ l.initial.out.items ++ flat_map shown_char l.text
