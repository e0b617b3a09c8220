use Rattle.network_laws.proofs.{StreamRest.are-still, StreamLaw.caused}
use Rattle.network_laws.proofs.cause_laws.each_failure_has_its_cause.Goals as goal

pub returns : goal.returns
returns c w stream l talker failure kept rest once node other failed =
    caused w (are-still w kept rest (c.ports.ensures w.tree kept.tree) c.a_still_marked_link_registers_what_is_declared.ensures.near)
    stream c.decisions_stand.ensures.kept once (λ x y ports h n. c.the_walk.ensures.path w.tree x y ports kept.tree h n) l talker failure node failed
