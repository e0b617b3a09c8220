-- The carrying at the end of a tick, link by link.
use Rattle.std.proofs.Common.{◌≡◌, ℕ, suc, ◌+◌, ◌-◌, ◌<◌, List, [], ◌∷◌, length, map, drop, get_or, sym, ap, ◌∙◌, arith}
use Rattle.std.specs.List.{flat_map}
use Rattle.std.proofs.Math.Seq.{drop-cons}
use Rattle.srp_base.specs.declared.numbers.EgressPort.{EgressPort}
use Rattle.tree_topology.specs.declared.graph.Link.{Link}
use Rattle.tree_topology.specs.{Topology.Topology, Topology.link_ports, Ports.port_to, Ports.ends_of}
use Rattle.world_core.specs.{Carry, WorldReply, WorldState, Happened, world_step, world_after, carried_ends}

-- both ends of a link, one after the other
pub both_carried : (tree : Topology) (n : ℕ) (ends : EgressPort × EgressPort) (w v u : WorldState) (first second : WorldReply) → ends ≡ ends_of tree.links n
    → world_step (Carry ends.0) w ≡ (v, first) → world_step (Carry ends.1) v ≡ (u, second) → u ≡ world_after (carried_ends tree n) w
both_carried tree n ends w v u first second are one two =
    ap (λ (h : Happened). h.0) (sym {A = Happened} two)
    ∙ (ap (λ (h : Happened). (world_step (Carry ends.1) h.0).0) (sym {A = Happened} one)
    ∙ ap (λ (e : EgressPort × EgressPort). (world_step (Carry e.1) (world_step (Carry e.0) w).0).0) are)

-- the first n links have been carried
pub record IsCarriedTo (n : ℕ) (start w : WorldState) : Type 0 where
  pub after : world_after (map Carry (flat_map (λ l. port_to start.tree.links l.a.0 l.b.0 ∷ port_to start.tree.links l.b.0 l.a.0 ∷ []) (drop n start.tree.links))) w
      ≡ world_after (map Carry (link_ports start.tree)) start
  pub tree : w.tree ≡ start.tree

pub one_carried : (n : ℕ) (start w v : WorldState) → n < length start.tree.links → v ≡ world_after (carried_ends w.tree (n + 1)) w → v.tree ≡ w.tree
    → IsCarriedTo n start w → IsCarriedTo (n + 1) start v
one_carried n start w v lt after tree c =
    let links : List Link = start.tree.links in
    let none : Link = record { a = record { 0 = 0 }; b = record { 0 = 0 } } in
    let ports : List Link → List EgressPort = λ ls. flat_map (λ l. port_to links l.a.0 l.b.0 ∷ port_to links l.b.0 l.a.0 ∷ []) ls in
    let less : n + 1 - 1 ≡ n = omega arith in
    let next : suc n ≡ n + 1 = omega arith in
    let cut : drop n links ≡ get_or links (n + 1 - 1) none ∷ drop (n + 1) links =
    drop-cons links n none lt ∙ (ap (λ (k : ℕ). get_or links k none ∷ drop (suc n) links) (sym less) ∙ ap (λ (k : ℕ). get_or links (n + 1 - 1) none ∷ drop k links) next)
    in
    record {
      after =
          ap (λ (u : WorldState). world_after (map Carry (ports (drop (n + 1) links))) u) (after ∙ ap (λ (t : Topology). world_after (carried_ends t (n + 1)) w) c.tree)
          ∙ (ap (λ (ls : List Link). world_after (map Carry (ports ls)) w) (sym cut) ∙ c.after);
      tree = tree ∙ c.tree;
    }
