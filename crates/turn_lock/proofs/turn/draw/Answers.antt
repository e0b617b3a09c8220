use Rattle.std.proofs.Common.{arith}
use Rattle.turn_lock.proofs.StepLemmas.{draws}
use Rattle.turn_lock.proofs.turn.draw.Goals as goal

pub fetch_add-requires : goal.fetch_add-requires
fetch_add-requires g c =
    let rests = c.requires.seat.1 in
    let words = c.requires.board.0 in
    let board = c.args.board.now in
    (c.requires.seat.0, omega arith, draws g.S.Sequential.does board.key.start.value board.key.passes board.table_id.slots c.args.seat.now.id c.args.seat.now.me rests.0 rests.1 rests.2)
