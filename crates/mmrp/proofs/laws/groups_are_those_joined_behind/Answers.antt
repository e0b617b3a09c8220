use Rattle.mmrp.proofs.GroupLaw.{groups-match, sides-are-one}
use Rattle.mmrp.proofs.laws.groups_are_those_joined_behind.Goals as goal

pub returns-clause-law : goal.returns-clause-law
returns-clause-law c w kept rest =
    groups-match w kept rest (c.ports.ensures w.tree kept.tree) c.a_still_link_registers_what_is_declared.ensures.near
    (λ p y h n. c.the_walk.ensures.behind w.tree p y kept.tree h n)

pub returns-clause-sides : goal.returns-clause-sides
returns-clause-sides c w p mac kept rest h =
    sides-are-one w kept rest (c.ports.ensures w.tree kept.tree) c.a_still_link_registers_what_is_declared.ensures.near
    (λ p y h n. c.the_walk.ensures.behind w.tree p y kept.tree h n) p mac h
