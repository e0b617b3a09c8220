-- What has no peer: a port that a tree hasn't.
use Rattle.std.proofs.Common.{◌≡◌, ℕ, ◌-◌, ◌≤◌, inl, inr, List, [], ◌∷◌, length, refl, ap, subst, arith}
use Rattle.std.specs.Prelude.{slice_index}
use Rattle.std.proofs.lemmas.{Bool.cases_lt, Bool.ne_eqb, List.get_or_past, List.Elements.All-head, List.Elements.All-tail}
use Rattle.srp_base.specs.declared.numbers.EgressPort.{EgressPort}
use Rattle.tree_topology.specs.declared.graph.Link.{Link}
use Rattle.tree_topology.specs.{Graph.IsNode, Graph.HasKnownEnds, Topology.Topology, Topology.HasPort, Topology.IsSound, Ports.far_node, Ports.neighbours}

-- what is no node has no neighbours
no-neighbours : (count : ℕ) (links : List Link) (x : ℕ) → HasKnownEnds count links → (IsNode count x → ⊥) → neighbours links x ≡ []
no-neighbours count [] x known none = refl
no-neighbours count (l ∷ links) x known none =
    let ends = All-head (λ (k : Link). IsNode count k.a.0 × IsNode count k.b.0) l links known in
    let rest = All-tail (λ (k : Link). IsNode count k.a.0 × IsNode count k.b.0) l links known in
    let not_a : (l.a.0 ≡ x) → ⊥ = λ e. none (subst (IsNode count) e ends.0) in
    let not_b : (l.b.0 ≡ x) → ⊥ = λ e. none (subst (IsNode count) e ends.1) in
    rw (ne_eqb l.a.0 x not_a, ne_eqb l.b.0 x not_b) (no-neighbours count links x rest none)

-- no node is at the far end of a port that the tree hasn't
pub no-far-node : (tree : Topology) (p : EgressPort) → IsSound tree → 1 ≤ p.port.0 → (HasPort tree p → ⊥) → far_node tree.links p ≡ 0
no-far-node tree p sound some none =
    elim (cases_lt p.node.0 1) [
      | inl few ↦ nowhere (λ h. omega (arith, h.0, few))
      | inr one ↦ elim (cases_lt (length tree.kinds) p.node.0) [
        | inl many ↦ nowhere (λ h. omega (arith, h.1, many))
        | inr known ↦ elim (cases_lt (p.port.0 - 1) (length (neighbours tree.links p.node.0))) [
          | inl lt ↦ absurd (none ((one, known), some, omega (arith, lt, some)))
          | inr past ↦ get_or_past (neighbours tree.links p.node.0) (p.port.0 - 1) 0 past
        ]
      ]
    ]
  where
    nowhere : (IsNode (length tree.kinds) p.node.0 → ⊥) → far_node tree.links p ≡ 0
    nowhere strange =
        ap (λ (xs : List ℕ). slice_index xs (p.port.0 - 1)) (no-neighbours (length tree.kinds) tree.links p.node.0 sound.tree.graph.known strange)
