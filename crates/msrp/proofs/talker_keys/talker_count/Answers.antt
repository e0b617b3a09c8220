use Rattle.std.proofs.Common.{◌≡◌, length, ap, refl, arith}
use Rattle.std.specs.List.{flat_map}
use Rattle.msrp.specs.Part.{Part}
use Rattle.msrp.specs.{PortHolding, ports_in, talker_keys_in}
use Rattle.msrp.proofs.Marking.{few_talkers, left_less, own_count}
use Rattle.msrp.proofs.talker_keys.talker_count.Goals as goal

pub loop-port-init : goal.loop-port-init
loop-port-init c = omega (arith, own_count c.args.talks.now c.args.ports.now)

pub loop-port-preserved : goal.loop-port-preserved
loop-port-preserved c =
    let rows = few_talkers c.port-item.result.state.part in
    let part : length c.part.result.now.state.rows ≡ length c.port-item.result.state.part.rows = ap (λ (s : Part). length s.rows) c.part.ensures in
    let left = left_less (λ ps. flat_map (λ p. talker_keys_in p.part) (ports_in ps))
    (λ (p : PortHolding). talker_keys_in p.state.part) c.args.ports.now c.loop-port.port-index c.port-item.result (λ p ps. refl) c.loop-port-test.true in
    let item = ap (λ (p : PortHolding). length (talker_keys_in p.state.part)) c.port-item.is in
    omega (arith, c.loop-port.invariant, left, item, rows, part, c.rows.ensures, c.in_ok-count.ensures)
