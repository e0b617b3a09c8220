use Rattle.std.proofs.lemmas.{Bool.Decides.Decides-eqb, Slice.Eq.strip_prefix_is}
use Rattle.journal_audit.proofs.TextLemmas.{found_is, none_is}
use Rattle.journal_audit.proofs.texts.behind.Goals as goal

pub returns-clause-some : goal.returns-clause-some
returns-clause-some c =
    found_is c.strip_prefix.result _ _ (strip_prefix_is Decides-eqb c.args.text.now c.args.front.now c.strip_prefix.result c.strip_prefix.ensures.cases)

pub returns-clause-none : goal.returns-clause-none
returns-clause-none c =
    none_is c.strip_prefix.result _ _ (strip_prefix_is Decides-eqb c.args.text.now c.args.front.now c.strip_prefix.result c.strip_prefix.ensures.cases)
