use Rattle.std.proofs.Common.{refl, sym}
use Rattle.mrp_participant.proofs.Places.{found-at_row}
use Rattle.mrp_participant.proofs.lookup.find_row.Goals as goal

pub place-requires : goal.place-requires
place-requires g c = c.requires

pub bounds-rows-at : goal.bounds-rows-at
bounds-rows-at g c = c.in-Ok.ensures.row.within

pub returns-in-Ok : goal.returns-in-Ok
returns-in-Ok g c = sym (found-at_row c.args.rows.now c.args.rows.now _ refl c.index-rows-at.result c.in-Ok.ensures.row c.index-rows-at.is)

pub returns-in-Err : goal.returns-in-Err
returns-in-Err g c = sym c.in-Err.ensures.gap.absent
