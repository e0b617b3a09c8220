use Rattle.std.proofs.Common.{◌≡◌, ◌++◌, drop}
use Rattle.std.specs.List.{filter_map}
use Rattle.mrp_participant.specs.{is_in_room, sent_event}
use Rattle.mrp_participant.proofs.sending.say_each.Given as goal

abbrev pub invariant-loop-row : goal.invariant-loop-row
invariant-loop-row g l =
    filter_map (λ r. sent_event l.fn.leave_all (is_in_room g.K.Ord.cmp l.fn.leave_all l.limit r) l.fn.leave r) l.rows
    ≡ l.events.items ++ filter_map (λ r. sent_event l.fn.leave_all
    (is_in_room g.K.Ord.cmp l.fn.leave_all l.limit r) l.fn.leave r) (drop l.row-index l.rows)
