use Rattle.srp_base.proofs.Arithmetic.{on_err}
use Rattle.attribute_propagation.specs.Ports.{place_of}
use Rattle.node_core.specs.Links.{repeated_at}
use Rattle.world_core.proofs.Happenings.{port_there, get_there, changed_here, done_there, same_states}
use Rattle.world_core.proofs.happen.repeat_at.Goals as goal

pub repeat-requires : goal.repeat-requires
repeat-requires c = port_there c.args.at c.args.nodes.now.items c.place.result c.index_mut.result.now c.requires.here c.place.ensures c.index_mut.ensures.value

pub returns-clause-ok : goal.returns-clause-ok
returns-clause-ok c =
    changed_here c.args.at (repeated_at (place_of c.args.at.port) c.args.index) c.args.nodes.now.items c.place.result c.index_mut.result.now c.repeat.new.self
    c.requires.here c.place.ensures c.index_mut.ensures.value
    (done_there c.index_mut.result.now.state c.repeat.new.self.state (place_of c.args.at.port) c.args.index (repeated_at (place_of c.args.at.port) c.args.index) c.in_ok-repeat.field-0
    (c.requires.there c.index_mut.result.now.state (get_there c.args.at c.args.nodes.now.items c.place.result c.index_mut.result.now c.requires.here c.place.ensures c.index_mut.ensures.value))
    c.in_ok-repeat.ensures.done c.in_ok-repeat.ensures.after)

pub returns-in_err-repeat-clause-err : goal.returns-in_err-repeat-clause-err
returns-in_err-repeat-clause-err c =
    on_err c.from_residual.result (same_states c.args.nodes.now.items c.place.result c.index_mut.result.now c.repeat.new.self c.index_mut.ensures.value c.in_err-repeat.ensures.err)
