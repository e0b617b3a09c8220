use Rattle.port_needs.proofs.ShareLemmas.{shares_none, shares_some}
use Rattle.port_needs.proofs.laws.the_shares_are_the_least.Goals as goal

pub returns-clause-some : goal.returns-clause-some
returns-clause-some c rate a both order = shares_some rate a both order

pub returns-clause-none : goal.returns-clause-none
returns-clause-none c rate a both x y order few = shares_none rate a both order x y few
