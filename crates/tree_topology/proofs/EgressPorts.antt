-- Ports are one where their numbers are; and which ports differ.
use Rattle.std.proofs.Common.{◌≡◌, ◌≢◌, ◌⊎◌, inl, inr, ℕ, ◌-◌, ap, subst, ◌∙◌, arith}
use Rattle.std.specs.Prelude.{IsTrue}
use Rattle.srp_base.proofs.Arithmetic.{decide}
use Rattle.srp_base.specs.declared.numbers.EgressPort.{EgressPort}
use Rattle.tree_topology.specs.{Topology.Topology, Topology.HasPort, Ports.peer_of, PortLaws.HasPortLaws, Walk.is_behind}

port_of : ℕ → ℕ → EgressPort
port_of x k = record { node = record { 0 = x }; port = record { 0 = k } }

pub same_numbers : (p e : EgressPort) → p.node.0 ≡ e.node.0 → p.port.0 ≡ e.port.0 → p ≡ e
unfolding port_of
same_numbers p e x k = ap (λ n. port_of n p.port.0) x ∙ ap (λ n. port_of e.node.0 n) k

pub decide_port : (p e : EgressPort) → (p ≡ e) ⊎ (p ≢ e)
decide_port p e = by (decide p.node.0 e.node.0) (decide p.port.0 e.port.0)
  where
    by : (p.node.0 ≡ e.node.0) ⊎ (p.node.0 ≢ e.node.0) → (p.port.0 ≡ e.port.0) ⊎ (p.port.0 ≢ e.port.0) → (p ≡ e) ⊎ (p ≢ e)
    by (inl x) (inl k) = inl (same_numbers p e x k)
    by (inl x) (inr k) = inr (λ i. k (ap (λ (r : EgressPort). r.port.0) i))
    by (inr x) k = inr (λ i. x (ap (λ (r : EgressPort). r.node.0) i))

-- those of one node that differ have other places
pub other_place : (tree : Topology) (p e : EgressPort) → HasPort tree p → HasPort tree e → e.node.0 - 1 ≡ p.node.0 - 1 → p ≢ e → e.port.0 - 1 ≢ p.port.0 - 1
other_place tree p e hp he same ne is =
    let p1 = hp.0.0 in
    let e1 = he.0.0 in
    let p2 = hp.1 in
    let e2 = he.1 in
    ne (same_numbers p e (omega (arith, same, p1, e1)) (omega (arith, is, p2, e2)))

module _ (tree : Topology) (laws : HasPortLaws tree) where
  -- a port's peer is at another node
  pub other_node : (p : EgressPort) → HasPort tree p → (peer_of tree.links p).node.0 ≢ p.node.0
  other_node p has e = laws.own p has (subst (λ (x : ℕ). IsTrue (is_behind tree.links p x)) e (laws.far p has))

  pub other_end : (p : EgressPort) → HasPort tree p → peer_of tree.links p ≢ p
  other_end p has e = other_node p has (ap (λ (r : EgressPort). r.node.0) e)
