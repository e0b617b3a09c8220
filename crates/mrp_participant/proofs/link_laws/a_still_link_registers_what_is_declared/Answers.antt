use Rattle.mrp_participant.specs.{other_view}
use Rattle.mrp_participant.proofs.Links.{still-far, turned-met}
use Rattle.mrp_participant.proofs.link_laws.a_still_link_registers_what_is_declared.Goals as goal

pub returns-clause-far : goal.returns-clause-far
returns-clause-far g c = λ l met no_sent no_coming near_still far_still sound k. still-far g.A.Key.Ord.cmp l met no_sent no_coming near_still far_still sound k

pub returns-clause-near : goal.returns-clause-near
returns-clause-near g c = λ l met no_sent no_coming near_still far_still sound k.
    still-far g.A.Key.Ord.cmp (other_view l) (turned-met g.A.Key.Ord.cmp l met) no_coming no_sent far_still near_still sound k
