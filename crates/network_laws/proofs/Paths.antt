-- The ports of a path one by one, and nodes number by number.
use Rattle.std.proofs.Common.{◌≡◌, ℕ, zero, suc, ◌+◌, ◌-◌, ◌<◌, Bool, false, List, [], ◌∷◌, refl, sym, ap, subst, ◌∙◌, arith}
use Rattle.std.specs.Prelude.{find}
use Rattle.std.specs.List.{AllByRecursion, range_with_len}
use Rattle.srp_base.specs.declared.numbers.EgressPort.{EgressPort}
use Rattle.tree_topology.specs.{Graph.Joined, Graph.IsWalk, Topology.Topology, Topology.HasPort, Ports.egress_ports, Ports.IsPortPath, PortLaws.HasPortLaws}
use Rattle.world_core.specs.World.{WorldState}

-- so far nothing is decided of all ports: what is asked of them is asked of those that are left, which exist
pub record Checked {A : Type 0} (w : WorldState) (asked : List EgressPort → A) (all left : List EgressPort) : Type 0 where
  pub same : asked all ≡ asked left
  pub exist : AllByRecursion (HasPort w.tree) left

-- the ports of a walk exist
walk-ports : (tree : Topology) → HasPortLaws tree → (x : ℕ) (walk : List ℕ) (y : ℕ) → IsWalk (Joined tree.links) x walk y → AllByRecursion (HasPort tree) (egress_ports tree.links x walk)
walk-ports tree laws x [] y h = tt
walk-ports tree laws x (v ∷ walk) y h = (laws.joined_port x v h.0, walk-ports tree laws v walk y h.1)

pub path-ports : (tree : Topology) → HasPortLaws tree → (x y : ℕ) (ports : List EgressPort) → IsPortPath tree.links x y ports → AllByRecursion (HasPort tree) ports
path-ports tree laws x y ports h =
    subst (λ (ps : List EgressPort). AllByRecursion (HasPort tree) ps) (sym h.2) (walk-ports tree laws x h.0 y h.1.0)

pub find-later : (test : ℕ → Bool) (a n : ℕ) → 0 < n → test a ≡ false → find test (range_with_len a n) ≡ find test (range_with_len (a + 1) (n - 1))
find-later test a zero lt h = absurd (omega arith)
find-later test a (suc n) lt h =
    let less : n ≡ suc n - 1 = omega arith in
    let next : find test (range_with_len a (suc n)) ≡ find test (range_with_len (a + 1) n) = rw h refl in
    next ∙ ap (λ k. find test (range_with_len (a + 1) k)) less

-- the ports of a path that was found in the same tree exist
pub found-ports : (tree same : Topology) → same ≡ tree → HasPortLaws tree → (x y : ℕ) (path ports : List EgressPort)
    → IsPortPath same.links x y path → ports ≡ path → AllByRecursion (HasPort tree) ports
found-ports tree same e laws x y path ports h f =
    subst (λ (ps : List EgressPort). AllByRecursion (HasPort tree) ps) (sym f)
    (path-ports tree laws x y path (subst (λ (t : Topology). IsPortPath t.links x y path) e h))
