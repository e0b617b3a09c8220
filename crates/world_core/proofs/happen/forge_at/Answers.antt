use Rattle.std.proofs.Common.{refl, ◌∙◌}
use Rattle.srp_base.proofs.Arithmetic.{on_err}
use Rattle.attribute_propagation.specs.Ports.{place_of}
use Rattle.node_core.specs.{Holding.states_in, Links.forged_at}
use Rattle.world_core.proofs.Happenings.{port_there, get_there, stands_still, reaches_is, changed_if, ports_if, same_states}
use Rattle.world_core.proofs.happen.forge_at.Goals as goal

pub forge-requires-clause-port : goal.forge-requires-clause-port
forge-requires-clause-port c = port_there c.args.at c.args.nodes.now.items c.place.result c.index_mut.result.now c.requires.here c.place.ensures c.index_mut.ensures.value

pub returns-clause-done : goal.returns-clause-done
returns-clause-done c = λ tree marks.
    c.in_ok-done.ensures.done
    ∙ reaches_is c.args.at c.args.index tree marks (states_in c.args.nodes.now.items) c.index_mut.result.now.state
    (get_there c.args.at c.args.nodes.now.items c.place.result c.index_mut.result.now c.requires.here c.place.ensures c.index_mut.ensures.value)

pub returns-clause-after : goal.returns-clause-after
returns-clause-after c =
    changed_if c.args.at (forged_at (place_of c.args.at.port) c.args.index c.args.wire) c.args.nodes.now.items c.place.result c.index_mut.result.now c.forge.new.self c.in_ok-done.done
    c.requires.here c.place.ensures c.index_mut.ensures.value c.in_ok-done.ensures.after

pub returns-clause-stand : goal.returns-clause-stand
returns-clause-stand c =
    stands_still c.args.at c.args.nodes.now.items c.place.result c.index_mut.result.now c.forge.new.self c.requires.here c.place.ensures c.index_mut.ensures.value
    (ports_if (forged_at (place_of c.args.at.port) c.args.index c.args.wire) c.index_mut.result.now.state c.forge.new.self.state c.in_ok-done.done refl c.in_ok-done.ensures.after)

pub returns-in_err-done-clause-err : goal.returns-in_err-done-clause-err
returns-in_err-done-clause-err c =
    on_err c.from_residual.result (same_states c.args.nodes.now.items c.place.result c.index_mut.result.now c.forge.new.self c.index_mut.ensures.value c.in_err-done.ensures.err)
