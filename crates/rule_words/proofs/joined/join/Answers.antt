use Rattle.rule_words.proofs.JoinedLemmas.{labels-join}
use Rattle.rule_words.proofs.joined.join.Goals as goal

pub returns : goal.returns
returns c n links is = labels-join n links c.args.ends c.args.labels.now _ 0 c.requires.0 c.requires.1 is c.relabel.ensures
