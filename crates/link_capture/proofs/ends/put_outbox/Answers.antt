use Rattle.attribute_propagation.specs.Ports.{place_of}
use Rattle.std.proofs.Common.{ap, ◌∙◌}
use Rattle.node_core.specs.State.{NodeState, box_at}
use Rattle.link_capture.proofs.EndLemmas.{box_empty, outbox_back}
use Rattle.link_capture.proofs.ends.put_outbox.Goals as goal

pub put_back-requires-clause-empty : goal.put_back-requires-clause-empty
put_back-requires-clause-empty c =
    ap (λ (s : NodeState). box_at (place_of c.args.from.port) s.outboxes) c.take_out-wires.ensures.after ∙ box_empty c.args.node.now.state.outboxes (place_of c.args.from.port)

pub returns-clause-same : goal.returns-clause-same
returns-clause-same c =
    outbox_back (place_of c.args.from.port) c.take_out-wires.result c.args.node.now.state c.take_out-wires.new.self.state c.put_back.new.self.state c.take_out-wires.ensures.taken c.take_out-wires.ensures.after
    c.put_back.ensures
