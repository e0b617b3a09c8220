-- What a thread is given, and what it hands back, may go to it: a pass, and a turn.
use denote.Param.Send.{IsSend, sendable}
use denote.Param.SendFields.{declared_send}
use Rattle.turn_lock.specs.contracts.lock.Pass as passes
use Rattle.turn_lock.proofs.CrossingLemmas.{pass_send}
use Rattle.bridge_book.specs.contracts.shared.SharedNode as nodes
use Rattle.bridge_book.specs.contracts.shared.PortAsk as asks
use Rattle.bridge_book.specs.contracts.notice.Told as answers
use Rattle.bridge_book.specs.contracts.shared.SharedNodeSequential.TheImpl as steps
use Rattle.bridge_book.proofs.shared.SharedNode.TheSendSync as nodes_cross
use Rattle.bridge_book.proofs.shared.PortAsk.TheSendSync as asks_cross
use Rattle.bridge_book.proofs.notice.Told.TheSendSync as answers_cross
use Rattle.port_worker.specs.contracts.turn.Turn as turns

pub pass_crosses : IsSend (passes.the_row nodes.the_row asks.the_row answers.the_row steps.ghosts)
pass_crosses = pass_send nodes.the_row asks.the_row answers.the_row steps.ghosts nodes_cross.the_send asks_cross.the_send answers_cross.the_send

pub turn_crosses : IsSend turns.the_row
turn_crosses = declared_send turns.the_type (pass_crosses, (search sendable, tt))
