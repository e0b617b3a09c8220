use Rattle.std.proofs.Common.{◌∙◌, ap, sym}
use Rattle.std.specs.Prelude.{Option, option_map}
use Rattle.std.specs.Option.{option_map_or}
use Rattle.node_core.specs.declared.types.NodeEvent.TheVariants as node_events
use Rattle.node_core.specs.{State.NodeState, Step.node_step}
use Rattle.world_core.specs.declared.events.WorldReply.TheVariants.{Missed}
use Rattle.world_core.specs.{node_at, after_step}
use Rattle.world_core.proofs.Nodes.{node_same, node_other, stepped_is}
use Rattle.world_core.proofs.laws.a_step_is_of_its_node_alone.Goals as goal

pub returns-clause-own : goal.returns-clause-own
returns-clause-own c n port step w s at =
    let event = node_events.Port port step in
    let change = λ (x : NodeState). (node_step event x).0 in
    ap (node_at n) (sym (stepped_is n event w)) ∙ (node_same n change w ∙ ap (option_map change) at)

pub returns-clause-answer : goal.returns-clause-answer
returns-clause-answer c n port step w s at =
    ap (λ (o : Option NodeState). (option_map_or (λ x. after_step n (node_step (node_events.Port port step) x) w) o (w, Missed)).1) at

pub returns-clause-others : goal.returns-clause-others
returns-clause-others c n m port step w apart =
    let event = node_events.Port port step in
    ap (node_at m) (sym (stepped_is n event w)) ∙ node_other n (λ (x : NodeState). (node_step event x).0) w m apart
