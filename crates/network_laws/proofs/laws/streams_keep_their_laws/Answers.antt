use Rattle.network_laws.proofs.{StreamRest.are-still, StreamRest.keeps-stream-laws, StreamLaw.sides-are-one, Refusals.some-shown}
use Rattle.network_laws.proofs.laws.streams_keep_their_laws.Goals as goal

pub returns-clause-law : goal.returns-clause-law
returns-clause-law c w stream kept rest once =
    keeps-stream-laws w kept rest (c.ports.ensures w.tree kept.tree) c.a_still_marked_link_registers_what_is_declared.ensures.near
    c.decisions_stand.ensures.kept
    (λ p y h n. c.the_walk.ensures.behind w.tree p y kept.tree h n)
    (λ x y ports h n. c.the_walk.ensures.path w.tree x y ports kept.tree h n) stream once

pub returns-clause-sides : goal.returns-clause-sides
returns-clause-sides c w stream l kept rest once node listens mute =
    sides-are-one w (are-still w kept rest (c.ports.ensures w.tree kept.tree) c.a_still_marked_link_registers_what_is_declared.ensures.near)
    stream c.decisions_stand.ensures.kept once l node listens mute

pub returns-clause-shown : goal.returns-clause-shown
returns-clause-shown c w stream l kept rest once node some =
    some-shown w (are-still w kept rest (c.ports.ensures w.tree kept.tree) c.a_still_marked_link_registers_what_is_declared.ensures.near)
    stream c.decisions_stand.ensures.kept once l node some
