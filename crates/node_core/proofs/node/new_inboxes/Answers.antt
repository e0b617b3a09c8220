use Rattle.std.proofs.Common.{List, [], ◌∷◌, ◌++◌, ◌+◌, map, drop, sym, ap, ◌∙◌, append_assoc}
use Rattle.std.proofs.lemmas.List.{at_drop_more}
use Rattle.srp_base.specs.declared.ports.PortSetup.{PortSetup}
use Rattle.node_core.specs.{Wire}
use Rattle.node_core.proofs.node.new_inboxes.Goals as goal

pub loop-port-preserved : goal.loop-port-preserved
loop-port-preserved c =
    let none : PortSetup → List Wire = λ p. [] in
    let ports = c.args.ports.now in
    let i = c.loop-port.port-index in
    let boxes = c.loop-port.boxes.items in
    ap (λ (bs : List (List Wire)). bs ++ map none (drop (i + 1) ports)) (c.in_ok-push.ensures.items ∙ ap (λ (b : List Wire). boxes ++ b ∷ []) c.new.ensures)
    ∙ (append_assoc boxes ([] ∷ []) (map none (drop (i + 1) ports))
    ∙ (sym (at_drop_more (λ (ps : List PortSetup). boxes ++ map none ps) ports i c.port-item.result c.loop-port-test.true) ∙ c.loop-port.invariant))
