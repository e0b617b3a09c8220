use Rattle.wishes.proofs.GrantLemmas.{granted_booked, granted_hears}
use Rattle.wishes.proofs.laws.the_way_of_a_granted_wish_is_booked.Goals as goal

pub returns-clause-heard : goal.returns-clause-heard
returns-clause-heard c w e l h = granted_hears w e l h

pub returns-clause-booked : goal.returns-clause-booked
returns-clause-booked c w e l h = granted_booked w e l h
