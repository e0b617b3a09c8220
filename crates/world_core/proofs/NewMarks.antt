-- The marks of a new network: none is set, and each port of the tree has its own.
use Rattle.std.proofs.Common.{◌≡◌, ℕ, zero, suc, ◌+◌, ◌-◌, ◌<◌, ◌≤◌, List, [], ◌∷◌, ◌++◌, length, replicate, drop, refl, sym, ap, subst, ◌∙◌, append_assoc, arith}
use Rattle.std.specs.Prelude.{slice_get, Option, Some, None}
use Rattle.std.specs.Option.{option_map_or, option_and_then}
use Rattle.srp_base.specs.declared.{numbers.EgressPort.EgressPort, mrp.App.App, mrp.App.TheVariants.Mvrp, mrp.App.TheVariants.Msrp}
use Rattle.tree_topology.specs.declared.{graph.Link.Link, graph.NodeKind.NodeKind}
use Rattle.tree_topology.specs.{Topology.Topology, Topology.HasPort, Ports.neighbours}
use Rattle.attribute_propagation.specs.Ports.{place_of}
use Rattle.world_core.specs.{EndMark, EndMarks, IsOfTree, of_app, no_mark, no_marks, rows_from, new_marks, mark_at}

none_in : (app : App) (n at : ℕ) → option_map_or (of_app app) (slice_get (replicate n no_marks) at) no_mark ≡ no_mark
none_in app zero at = refl
none_in Mvrp (suc n) zero = refl
none_in Msrp (suc n) zero = refl
none_in app (suc n) (suc at) = none_in app n at

none_from : (app : App) (links : List Link) (x : ℕ) (kinds : List NodeKind) (i at : ℕ)
    → option_map_or (of_app app) (option_and_then (λ row. slice_get row at) (slice_get (rows_from links x kinds) i)) no_mark ≡ no_mark
none_from app links x [] i at = refl
none_from app links x (kind ∷ kinds) zero at = none_in app (length (neighbours links x)) at
none_from app links x (kind ∷ kinds) (suc i) at = none_from app links (x + 1) kinds i at

pub mark_none : (app : App) (tree : Topology) (p : EgressPort) → mark_at app p (new_marks tree) ≡ no_mark
mark_none app tree p = none_from app tree.links 1 tree.kinds (p.node.0 - 1) (place_of p.port)

there_in : (n at : ℕ) → at < n → slice_get (replicate n no_marks) at ≡ Some no_marks
there_in zero at below = absurd (omega (arith, below))
there_in (suc n) zero below = refl
there_in (suc n) (suc at) below = there_in n at (omega (arith, below))

there_from : (links : List Link) (x : ℕ) (kinds : List NodeKind) (i at : ℕ) → i < length kinds → at < length (neighbours links (x + i))
    → option_and_then (λ row. slice_get row at) (slice_get (rows_from links x kinds) i) ≡ Some no_marks
there_from links x [] i at node port = absurd (omega (arith, node))
there_from links x (kind ∷ kinds) zero at node port =
    there_in (length (neighbours links x)) at
    (subst (λ (k : ℕ). at < length (neighbours links k)) (let same : x + 0 ≡ x = omega arith in same) port)
there_from links x (kind ∷ kinds) (suc i) at node port =
    there_from links (x + 1) kinds i at (omega (arith, node))
    (subst (λ (k : ℕ). at < length (neighbours links k)) (let same : x + suc i ≡ (x + 1) + i = omega arith in same) port)

pub new_of : (tree : Topology) → IsOfTree (new_marks tree)
new_of tree = record {
  there = λ p has. (
    no_marks,
    there_from tree.links 1 tree.kinds (p.node.0 - 1) (place_of p.port)
        (let some = has.0.0 in let few = has.0.1 in omega (arith, some, few))
        (subst (λ (k : ℕ). place_of p.port < length (neighbours tree.links k))
        (let some = has.0.0 in let same : p.node.0 ≡ 1 + (p.node.0 - 1) = omega (arith, some) in same)
        (let first = has.1 in let last = has.2 in omega (arith, first, last))),
  );
}

-- the ports of one more node
rows_more : (links : List Link) (x i : ℕ) (kinds : List NodeKind) → i < length kinds
    → rows_from links x (drop i kinds) ≡ replicate (length (neighbours links x)) no_marks ∷ rows_from links (x + 1) (drop (suc i) kinds)
rows_more links x i [] below = absurd (omega (arith, below))
rows_more links x zero (kind ∷ kinds) below = refl
rows_more links x (suc i) (kind ∷ kinds) below = rows_more links x i kinds (omega (arith, below))

-- a row more is that of the next node
pub row_pushed : (links : List Link) (i : ℕ) (kinds : List NodeKind) (rows new : List (List EndMarks)) (row : List EndMarks) → i < length kinds
    → new ≡ rows ++ (row ∷ []) → row ≡ replicate (length (neighbours links (i + 1))) no_marks
    → rows ++ rows_from links (i + 1) (drop i kinds) ≡ rows_from links 1 kinds
    → new ++ rows_from links (i + 1 + 1) (drop (i + 1) kinds) ≡ rows_from links 1 kinds
row_pushed links i kinds rows new row below pushed is before =
    let rest : List (List EndMarks) = rows_from links (i + 1 + 1) (drop (i + 1) kinds) in
    let next : rows_from links (i + 1 + 1) (drop (suc i) kinds) ≡ rest =
    ap (λ (k : ℕ). rows_from links (i + 1 + 1) (drop k kinds)) (let one : suc i ≡ i + 1 = omega arith in one) in
    let full : List EndMarks = replicate (length (neighbours links (i + 1))) no_marks in
    ap (λ (t : List (List EndMarks)). t ++ rest) pushed
    ∙ (append_assoc rows (row ∷ []) rest
    ∙ (ap (λ (r : List EndMarks). rows ++ (r ∷ rest)) is
    ∙ (ap (λ (t : List (List EndMarks)). rows ++ (full ∷ t)) (sym next)
    ∙ (ap (λ (t : List (List EndMarks)). rows ++ t) (sym (rows_more links (i + 1) i kinds below)) ∙ before))))
