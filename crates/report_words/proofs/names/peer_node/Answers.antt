use Rattle.std.proofs.Common.{◌≡◌, ◌≤◌, ◌-◌, ℕ, sym, ap, ◌∙◌, arith}
use Rattle.std.specs.Prelude.{slice_index}
use Rattle.std.proofs.lemmas.Bool.{false≢true}
use Rattle.srp_base.specs.declared.numbers.EgressPort.{EgressPort}
use Rattle.tree_topology.specs.{Topology.HasPort, Ports.neighbours, Ports.far_node}
use Rattle.report_words.proofs.PeerLemmas.{no-far-node}
use Rattle.report_words.proofs.names.peer_node.Goals as goal

pub returns-else-has_port : goal.returns-else-has_port
returns-else-has_port c =
    let tree = c.args.tree.now in
    let p : EgressPort = record { node = c.args.at.node; port = record { 0 = c.max.result } } in
    let none : HasPort tree p → ⊥ = λ h. false≢true (sym c.if-has_port.false ∙ c.has_port.ensures.1 h) in
    let some : 1 ≤ c.max.result = omega (arith, c.max.ensures) in
    let place : c.args.at.port.0 - 1 ≡ c.max.result - 1 = omega (arith, c.max.ensures) in
    let nowhere : far_node tree.links c.args.at ≡ 0
    = ap (slice_index (neighbours tree.links c.args.at.node.0)) place ∙ no-far-node tree p c.keeps.ensures.accepted some none in
    ap (λ (n : ℕ). record { 0 = n }) (sym nowhere)
