-- A pass may go to another thread where the state, the asks and the answers may.
use denote.RattleType.{RattleType}
use denote.Struct.Field.{u32-field}
use denote.Param.Send.{IsSend, sendable, view_send}
use denote.Param.SendFields.{as_row_send, declared_send}
use Rattle.std.specs.contracts.snapshot.Snapshot as snapshots
use Rattle.atomic_table.proofs.shared.Seat.TheSendSync as seats
use Rattle.turn_lock.specs.{Ghosts}
use Rattle.turn_lock.specs.contracts.board.Kept as kept
use Rattle.turn_lock.proofs.board.Kept.TheSendSync as keeps
use Rattle.turn_lock.specs.contracts.board.Terms as terms
use Rattle.turn_lock.specs.contracts.board.View as views
use Rattle.turn_lock.specs.contracts.lock.Pass as passes
use Rattle.turn_lock.specs.contracts.lock.Pass.TheInside as inside

-- a snapshot owns nothing
snapshot_send : (Y : RattleType) → IsSend (snapshots.the_row Y)
snapshot_send Y = record { owned = λ d vs. ((λ vss. (tt, ((λ uss. (tt, tt)), tt))), tt); leaving = λ k f vs. tt }

-- a seat goes where what it may take from the slot may
pub pass_send : (S Ask Answer : RattleType) (g : Ghosts S.Denot Ask.Denot Answer.Denot) → IsSend S → IsSend Ask → IsSend Answer
    → IsSend (passes.the_row S Ask Answer g)
pass_send S Ask Answer g s q a =
    view_send (inside.the_row S Ask Answer g) _ _ _ _
    (declared_send (inside.the_type S Ask Answer g) (
      as_row_send u32-field (search sendable),
      (
        snapshot_send (terms.the_row S),
        (
          seats.the_send (kept.the_row S Ask Answer) (views.the_row S Ask Answer) (keeps.the_send S Ask Answer s q a),
          tt,
        ),
      ),
    ))
