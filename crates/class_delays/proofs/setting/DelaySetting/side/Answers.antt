use Rattle.std.proofs.Common.{◌≡◌, ◌+◌, ◌-◌, ◌≤◌, ℕ, inl, inr, true, length, sym, subst, ap, ◌∙◌, arith}
use Rattle.std.proofs.lemmas.Bool.{false≢true}
use Rattle.srp_base.specs.declared.numbers.EgressPort.{EgressPort}
use Rattle.tree_topology.specs.{Ports.neighbours, Walk.is_behind}
use Rattle.frame_flow.specs.Copies.{port_of}
use Rattle.class_delays.specs.{ClassSetting}
use Rattle.class_delays.proofs.setting.DelaySetting.side.Goals as goal

pub returns-clause-own : goal.returns-clause-own
returns-clause-own c =
    let links = c.args.self.now.setting.tree.links in
    let x = c.args.at.node.0 in
    let y = c.args.node.0 in
    elim (c.keeps.ensures.ports.some_port x y c.requires.port.0 c.requires.node) [
      | inl own ↦ sym own
      | inr (p, port, at, behind) ↦ absurd (
          let j = p.port.0 - 1 in
          let all : c.ports-k-end.result ≡ length (neighbours links x) =
          c.ports-k-end.ensures ∙ ap (λ (a : ClassSetting). length (neighbours a.setting.tree.links x)) c.self.view_is in
          let few : p.port.0 ≤ length (neighbours links x) = subst (λ (n : ℕ). p.port.0 ≤ length (neighbours links n)) at port.2 in
          let aside = c.loop-k.invariant j (omega (arith, all, few, port.1, c.loop-k-test.false)) in
          let same : port_of x (j + 1) ≡ p =
          ap (λ (k : ℕ). port_of x k) (let e : j + 1 ≡ p.port.0 = omega (arith, port.1) in e) ∙ ap (λ (n : ℕ). port_of n p.port.0) (sym at) in
          false≢true (sym aside ∙ subst (λ (t : EgressPort). is_behind links t y ≡ true) (sym same) behind))
    ]
