use Rattle.std.proofs.Common.{sym}
use Rattle.rule_words.proofs.ValueLemmas.{count_items}
use Rattle.rule_words.proofs.values.count_of.Goals as goal

pub returns : goal.returns
returns c = sym (count_items c.args.values.now)
