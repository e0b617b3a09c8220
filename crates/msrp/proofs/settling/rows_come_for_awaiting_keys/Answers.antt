use Rattle.msrp.proofs.NewRows.{RowLaws, rows_come}
use Rattle.msrp.proofs.settling.rows_come_for_awaiting_keys.Goals as goal

pub returns : goal.returns
returns c =
    let laws : RowLaws = record {
      declare_rows = c.rows_stay_rows.ensures.declare;
      withdraw_rows = c.rows_stay_rows.ensures.withdraw;
      declare_only = c.one_key_changes.ensures.declare;
      withdraw_only = c.one_key_changes.ensures.withdraw;
    } in
    λ at side port keys kept here set book tried. rows_come laws at side port keys kept here set book tried
