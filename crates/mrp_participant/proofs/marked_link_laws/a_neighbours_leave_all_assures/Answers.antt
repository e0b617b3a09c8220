use Rattle.mrp_participant.specs.{is_active, none_tried}
use Rattle.mrp_participant.proofs.MarkedLinks.{clears, assures}
use Rattle.mrp_participant.proofs.marked_link_laws.a_neighbours_leave_all_assures.Goals as goal

pub returns-clause-clears : goal.returns-clause-clears
returns-clause-clears g c = λ l now on none.
    clears (is_active l.link.far.leave_all) (none_tried l.link.far.rows) l.link.sent l.near on none

pub returns-clause-assures : goal.returns-clause-assures
returns-clause-assures g c = λ l now m coming is leaves clear. assures l.link.coming coming m l.near is leaves clear
