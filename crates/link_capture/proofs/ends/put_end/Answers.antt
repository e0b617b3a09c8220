use Rattle.std.proofs.Common.{◌≡◌, ◌-◌, ◌++◌, List, subst}
use Rattle.std.specs.Prelude.{OnOk}
use Rattle.node_core.specs.declared.types.Wire.{Wire}
use Rattle.link_capture.specs.{sent_by, records_of}
use Rattle.link_capture.proofs.EndLemmas.{same_states, get_there, outbox_there}
use Rattle.link_capture.proofs.ends.put_end.Goals as goal

pub put_outbox-requires-clause-port : goal.put_outbox-requires-clause-port
put_outbox-requires-clause-port c =
    c.requires.stands.port c.index_mut.result.now.state
    (get_there c.args.from c.args.nodes.now.items c.from.result c.index_mut.result.now c.requires.stands c.from.ensures c.index_mut.ensures.value)

pub returns-clause-same : goal.returns-clause-same
returns-clause-same c =
    same_states c.args.nodes.now.items (c.from.result - 1) c.index_mut.result.now c.put_outbox.new.node c.index_mut.ensures.value c.put_outbox.ensures.same

pub returns-clause-put : goal.returns-clause-put
returns-clause-put c =
    subst (λ (wires : List Wire). OnOk c.put_outbox.result (c.put_outbox.new.out.items ≡ c.args.out.now.items ++ records_of (sent_by c.args.t c.args.from wires)))
    (outbox_there c.args.from c.args.nodes.now.items c.from.result c.index_mut.result.now c.requires.stands c.from.ensures c.index_mut.ensures.value) c.put_outbox.ensures.put
