use Rattle.mrp_participant.specs.State.{is_active, sent_messages}
use Rattle.link_replay.specs.{Observer.Sight.Goes, seen_state, other_end, way_of}
use Rattle.link_replay.proofs.Ways.{none-doubted}
use Rattle.link_replay.proofs.laws.no_word_of_a_participant_disagrees.Goals as goal

pub returns : goal.returns
returns g c = λ own ways who now events are seen only.
    let cmp = g.A.Key.Ord.cmp in
    let m = sent_messages g.A.MrpApp.base g.A.MrpApp.octets cmp now own in
    none-doubted cmp now who ways (is_active own.leave_all) events (seen_state cmp (way_of (other_end who) ways).observer (Goes now m))
    (c.a_way_holds_what_was_seen.ensures.goes (way_of (other_end who) ways) now m)
    (λ e said. c.what_is_said_of_a_registrar_is_its_observers.ensures own (way_of (other_end who) ways).observer now e are seen (only e said))
