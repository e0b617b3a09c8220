-- The first frame of the queue whose turn it is, if it has one.
use Rattle.std.proofs.Common.{◌≡◌, ◌∙◌, ap, arith}
use Rattle.credit_shaper.specs.{head_index, turn_in}
use Rattle.credit_shaper.proofs.TraceLemmas.{frame_found, frame_missing}
use Rattle.credit_shaper.proofs.trace.PortTrace.next_frame.Goals as goal

pub returns-then-head-self-clause-value : goal.returns-then-head-self-clause-value
returns-then-head-self-clause-value c =
    let i : c.of-head.result ≡ head_index c.args.self.now.heads (turn_in c.args.self.now) =
    c.of-head.ensures ∙ ap (head_index c.args.self.now.heads) c.traffic_next.ensures in
    frame_found c.args.arrivals.now c.args.self.now c.of-head.result c.requires.heads c.requires.came (omega arith) i (omega arith)

pub returns-else-head-self-clause-value : goal.returns-else-head-self-clause-value
returns-else-head-self-clause-value c =
    let i : c.of-head.result ≡ head_index c.args.self.now.heads (turn_in c.args.self.now) =
    c.of-head.ensures ∙ ap (head_index c.args.self.now.heads) c.traffic_next.ensures in
    frame_missing c.args.arrivals.now c.args.self.now c.of-head.result c.requires.heads c.requires.came (omega arith) i (omega arith)
