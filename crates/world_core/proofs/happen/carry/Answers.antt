use Rattle.std.proofs.Common.{◌≡◌, refl, ap, ◌∙◌}
use Rattle.attribute_propagation.specs.Ports.{place_of}
use Rattle.node_core.specs.{Holding.states_in, Links.with_outbox}
use Rattle.world_core.specs.{Done, nodes_with}
use Rattle.world_core.proofs.Happenings.{carry_nothing, empty_there, put_back_is}
use Rattle.world_core.proofs.happen.carry.Goals as goal

pub returns-then-is_empty-clause-ok : goal.returns-then-is_empty-clause-ok
returns-then-is_empty-clause-ok c = λ marks.
    ap (λ w. (w, Done))
    (carry_nothing c.args.at c.args.tree.now marks (states_in c.args.nodes.now.items) (states_in c.take-wires.new.nodes.items)
    c.take-wires.result c.take-wires.ensures.taken (c.if-is_empty.ensures.0 refl)
    c.take-wires.ensures.after)

pub put_back-requires-clause-empty : goal.put_back-requires-clause-empty
put_back-requires-clause-empty c = empty_there c.args.at (states_in c.args.nodes.now.items) (states_in c.give.new.nodes.items) (c.in-Err.ensures.err ∙ c.take-wires.ensures.after)

pub returns-in-Err-clause-err : goal.returns-in-Err-clause-err
returns-in-Err-clause-err c =
    put_back_is c.args.at (states_in c.args.nodes.now.items) (states_in c.take-wires.new.nodes.items) (states_in c.put_back.new.nodes.items) c.in-Err.wires
    (let back : c.in-Err.wires ≡ c.take-wires.result = c.in-Err.ensures.back in back ∙ c.take-wires.ensures.taken) c.take-wires.ensures.after
    (c.put_back.ensures ∙ ap (nodes_with c.args.at.node (with_outbox (place_of c.args.at.port) c.in-Err.wires)) c.in-Err.ensures.err)
