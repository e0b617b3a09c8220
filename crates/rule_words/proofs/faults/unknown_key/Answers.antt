use Rattle.std.proofs.Common.{ap, ◌∙◌, Some, option_map, string_bytes, not}
use Rattle.rule_words.specs.{is_key_of}
use Rattle.rule_words.proofs.FaultLemmas.{find-member_keys}
use Rattle.rule_words.proofs.faults.unknown_key.Goals as goal

pub returns-in-Some : goal.returns-in-Some
returns-in-Some c =
    ap Some c.as_str.ensures.value
    ∙ ap (option_map string_bytes) c.in-Some.ensures
    ∙ find-member_keys (λ word. not (is_key_of c.args.known.now word)) c.args.table.now.entries

pub returns-in-None : goal.returns-in-None
returns-in-None c =
    ap (option_map string_bytes) c.in-None.ensures
    ∙ find-member_keys (λ word. not (is_key_of c.args.known.now word)) c.args.table.now.entries
