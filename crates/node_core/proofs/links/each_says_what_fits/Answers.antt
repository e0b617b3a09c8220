use Rattle.std.proofs.Common.{List, sym, subst}
use Rattle.std.proofs.lemmas.List.{at_drop_more}
use Rattle.node_core.specs.{Wire, AreProperWires, IsProperWire}
use Rattle.node_core.proofs.links.each_says_what_fits.Goals as goal

pub loop-wire-preserved : goal.loop-wire-preserved
loop-wire-preserved c =
    let wires = c.args.wires.now in
    let i = c.loop-wire.wire-index in
    let wire : Wire = c.wire-item.result in
    let fits = subst IsProperWire c.wire-item.is (c.octets_say_what_fits.ensures wire c.keeps.ensures) in
    λ rest. c.loop-wire.invariant (subst AreProperWires (sym (at_drop_more (λ (ws : List Wire). ws) wires i wire c.loop-wire-test.true)) (fits, rest))
