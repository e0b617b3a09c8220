use Rattle.mrp_participant.specs.{seen_link, other_marked_view}
use Rattle.mrp_participant.proofs.{Links.still-far, MarkedLinks.turned-marked}
use Rattle.mrp_participant.proofs.marked_link_laws.a_still_marked_link_registers_what_is_declared.Goals as goal

pub returns-clause-far : goal.returns-clause-far
returns-clause-far g c = λ l met no_sent no_coming near_still far_still sound k.
    still-far g.A.Key.Ord.cmp (seen_link l) met.duties no_sent no_coming near_still far_still sound k

pub returns-clause-near : goal.returns-clause-near
returns-clause-near g c = λ l met no_sent no_coming near_still far_still sound k.
    still-far g.A.Key.Ord.cmp (seen_link (other_marked_view l)) (turned-marked g.A.Key.Ord.cmp l met).duties no_coming no_sent far_still near_still sound k
