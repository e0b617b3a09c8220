use Rattle.std.proofs.Common.{arith}
use Rattle.turn_lock.proofs.StepLemmas.{advances}
use Rattle.turn_lock.proofs.turn.advance.Goals as goal

pub fetch_add-served-requires : goal.fetch_add-served-requires
fetch_add-served-requires g c =
    let ready = c.requires.seat.1 in
    let words = c.requires.board.0 in
    let board = c.args.board.now in (
      c.requires.seat.0,
      omega arith,
      advances g.S.Sequential.does board.key.start.value board.key.passes board.table_id.slots c.args.seat.now.id c.args.seat.now.me
          ready.0 ready.1 ready.2 ready.3 ready.4 ready.5,
    )
