use Rattle.msrp.proofs.{Ledgers.BookLaws, Participants.PartLaws, Settled.MoveLaws, Settled.settle-keeps}
use Rattle.msrp.proofs.settling.settling_keeps_a_side.Goals as goal

pub returns : goal.returns
returns c = λ at side kept.
    let parts : PartLaws = record {
      declare_rows = c.rows_stay_rows.ensures.declare;
      withdraw_rows = c.rows_stay_rows.ensures.withdraw;
      declare_asked = c.what_is_asked_holds.ensures.declare;
      withdraw_asked = c.what_is_asked_holds.ensures.withdraw;
      declare_stays = c.registrations_stay.ensures.declare;
      withdraw_stays = c.registrations_stay.ensures.withdraw;
      declare_only = c.one_key_changes.ensures.declare;
      withdraw_only = c.one_key_changes.ensures.withdraw;
    } in
    let books : BookLaws = record {
      wanted_kept = c.every_step_keeps_a_book.ensures.wanted;
      unwanted_kept = c.every_step_keeps_a_book.ensures.unwanted;
      wanted = c.other_wants_stay.ensures.wanted;
      unwanted = c.other_wants_stay.ensures.unwanted;
    } in
    let moves : MoveLaws = record {
      empty = c.nothing_changed_where_both_lists_are_empty.ensures.empty;
      fits = c.fits_stay.ensures.booked;
      unmoved = c.what_has_not_moved_is_booked_as_before.ensures;
    } in
    settle-keeps parts books moves c.each_port_is_told.ensures c.each_key_awaits.ensures.all_marked c.a_place_for_each_key.ensures.registered at side kept
