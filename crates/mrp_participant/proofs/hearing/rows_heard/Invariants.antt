use Rattle.std.proofs.Common.{◌≡◌, fold, drop}
use Rattle.mrp_participant.specs.{AreRows, heard_with, heard_rows}
use Rattle.mrp_participant.proofs.hearing.rows_heard.Given as goal

abbrev pub invariant-loop-event : goal.invariant-loop-event
invariant-loop-event g l =
    record {
      heard :
          heard_rows g.K.Ord.cmp l.fn.leave_all l.fn.leave l.rows l.events
          ≡ fold (heard_with g.K.Ord.cmp l.fn.leave_all l.fn.leave l.rows) l.heard.items (drop l.event-index l.events);
      are_rows : AreRows g.K.Ord.cmp l.heard.items;
    }
