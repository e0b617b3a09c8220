use Rattle.std.proofs.lemmas.{Bool.Decides.Decides-eqb, Slice.Eq.strip_suffix_is}
use Rattle.journal_audit.proofs.TextLemmas.{found_is, none_is}
use Rattle.journal_audit.proofs.texts.before.Goals as goal

pub returns-clause-some : goal.returns-clause-some
returns-clause-some c =
    found_is c.strip_suffix.result _ _ (strip_suffix_is Decides-eqb c.args.text.now c.args.end.now c.strip_suffix.result c.strip_suffix.ensures.cases)

pub returns-clause-none : goal.returns-clause-none
returns-clause-none c =
    none_is c.strip_suffix.result _ _ (strip_suffix_is Decides-eqb c.args.text.now c.args.end.now c.strip_suffix.result c.strip_suffix.ensures.cases)
