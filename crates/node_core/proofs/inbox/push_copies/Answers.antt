use Rattle.std.proofs.Common.{List, [], ◌∷◌, ◌++◌, ◌+◌, drop, get_or, sym, ap, ◌∙◌, append_assoc}
use Rattle.std.proofs.lemmas.List.{at_drop_more}
use Rattle.node_core.specs.{Wire}
use Rattle.node_core.proofs.inbox.push_copies.Goals as goal

pub loop-wire-preserved : goal.loop-wire-preserved
loop-wire-preserved c =
    let wires = c.args.wires.now in
    let i = c.loop-wire.wire-index in
    let copies = c.loop-wire.copies.items in
    let wire : Wire = c.wire-item.result in
    ap (λ (ws : List Wire). ws ++ drop (i + 1) wires) (c.in_ok-push.ensures.items ∙ ap (λ (w : Wire). copies ++ w ∷ []) (c.in_ok-copied_wire.ensures ∙ c.wire-item.is))
    ∙ (append_assoc copies (get_or wires i wire ∷ []) (drop (i + 1) wires)
    ∙ (sym (at_drop_more (λ (ws : List Wire). copies ++ ws) wires i wire c.loop-wire-test.true) ∙ c.loop-wire.invariant))
