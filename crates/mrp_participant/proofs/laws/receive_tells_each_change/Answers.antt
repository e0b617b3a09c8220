use Rattle.mrp_participant.specs.{after, rows_after_receive}
use Rattle.mrp_participant.proofs.{Changes.changes-are_told, Changes.told-are_changes, Transitions.AreRows-receive}
use Rattle.mrp_participant.proofs.laws.receive_tells_each_change.Goals as goal

pub returns-clause-told : goal.returns-clause-told
returns-clause-told g c = λ s now leave_all events are k.
    changes-are_told g.met.A.Key.Ord.total g.A.Content.PartialEq.eq g.met.A.MrpApp.one_key g.met.A.MrpApp.one_content
    (after now s.leave_time) leave_all events s.rows are k

pub returns-clause-only : goal.returns-clause-only
returns-clause-only g c = λ s now leave_all events are k.
    told-are_changes g.met.A.Key.Ord.total g.A.Content.PartialEq.eq g.met.A.MrpApp.one_key g.met.A.Content.Eq.laws s.rows
    (rows_after_receive g.A.Key.Ord.cmp (after now s.leave_time) leave_all events s.rows)
    (AreRows-receive g.met.A.Key.Ord.total (after now s.leave_time) leave_all events s.rows are).0 k
