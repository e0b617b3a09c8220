use Rattle.flat_side.proofs.{SettlingLemmas.Laws, ProperLemmas.Changes, ProperLemmas.proper-settled, ProperLemmas.proper-requested}
use Rattle.flat_side.proofs.laws.settling_and_requests_keep_a_side_proper.Goals as goal

pub returns-clause-settle : goal.returns-clause-settle
returns-clause-settle g c = λ at side proper.
    let acts : Laws g.A.Key.Ord.cmp = record {
      declare_rows = λ s key. c.rows_stay_rows.ensures.declare s key tt;
      withdraw_rows = λ s key. c.rows_stay_rows.ensures.withdraw s key;
      declare_asked = λ s key. c.what_is_asked_holds.ensures.declare s key tt;
      withdraw_asked = λ s key. c.what_is_asked_holds.ensures.withdraw s key;
      declare_stays = λ s key. c.registrations_stay.ensures.declare s key tt;
      withdraw_stays = λ s key. c.registrations_stay.ensures.withdraw s key;
    } in
    let changes : Changes g.A.Key.Ord.cmp = record {
      declare = λ s key. c.one_key_changes.ensures.declare s key tt;
      withdraw = λ s key. c.one_key_changes.ensures.withdraw s key;
    } in
    proper-settled g.A.Key.Ord.cmp
    (record { order = g.met.A.Key.Ord.total; one = g.met.A.MrpApp.one_key; told = c.each_port_is_told.ensures }) g.A.FlatApp.is_key acts changes at side proper

pub returns-clause-request : goal.returns-clause-request
returns-clause-request g c = λ key declared side named proper.
    proper-requested g.A.Key.Ord.cmp
    (record { order = g.met.A.Key.Ord.total; one = g.met.A.MrpApp.one_key; told = c.each_port_is_told.ensures }) g.A.FlatApp.is_key c.each_key_awaits.ensures.marked c.each_key_awaits.ensures.cleared
    c.keys_stay_ascending.ensures.marked c.keys_stay_ascending.ensures.cleared key side named proper declared
