-- The changes of a run in a list for each port: what is joined of them, and what noting makes of them.
use Rattle.std.proofs.Common.{◌≡◌, ℕ, zero, suc, ◌+◌, ◌-◌, ◌<◌, ◌≤◌, Bool, true, false, cond, List, [], ◌∷◌, ◌++◌, length, get_or, set, map, take, inl, inr, Option, Some, None, refl, sym, ap, subst, ◌∙◌, arith}
use Rattle.std.specs.Prelude.{flat_map, ◌==◌, ◌&&◌, ◌||◌, nat_le}
use Rattle.std.specs.{List.AllByRecursion, List.range_with_len, List.list_any, Option.option_map_or, Cmp.Lexicographic.pointwise_decides}
use Rattle.std.proofs.lemmas.{Bool.cond-true, Bool.cond-false, Bool.cond_both, Bool.cases_Bool, Bool.eqb-true, Bool.eq-eqb, Bool.and_from, Bool.le-leb, List.take_more, List.map-append, List.Concat.flat_map-append, List.Folds.list_any-append, List.Elements.recursion_from_All}
use Rattle.srp_base.proofs.Lists.{each_append, Each-map as each_weaker, each_filter, range-push as range_push}
use Rattle.srp_base.specs.declared.{numbers.NodeNo.NodeNo, numbers.EgressPort.EgressPort, ports.PortChange.PortChange}
use Rattle.tree_topology.specs.declared.graph.Link.{Link}
use Rattle.tree_topology.specs.{Topology.Topology, Topology.HasNode, Topology.HasPort, Ports.neighbours}
use Rattle.frame_flow.specs.{Force.is_port, Force.changes_at, Force.last_upto, Force.in_force, Copies.ports_at, Copies.port_of}
use Rattle.attribute_propagation.specs.Ports.{place_of}
use Rattle.node_core.specs.State.{NodeState}
use Rattle.world_core.specs.{NodeSteps, WorldState, node_at, no_reservation, said_by, is_same, are_same_streams, are_same_vids, change_of, node_force, force_at, lacking, changes_noted, tree_ports, with_notes, AreChanges, Says, by_port, joined_ports, all_changes_of, IsByPort, ComeUpTo, is_act, acts_at, has_acted, act_noted, acts_noted, node_noted, ports_noted}
use Rattle.world_core.specs.Reservation.{Reservation}
use Rattle.world_core.proofs.{PortOrder.AreAt, PortOrder.are_at, PortOrder.flat_at, PortOrder.same_flat, PortOrder.one_more_from, Noting.same_stream, Noting.same_vid, Noting.tree_ports_ascend, Noting.has_port_in, Noting.each_port_has, Noting.lacking_at, Noting.lacks_none}

-- ---- lists for each port

ports_joined : (own : EgressPort → List PortChange) (ps : List EgressPort) → joined_ports (map own ps) ≡ flat_map own ps
ports_joined own [] = refl
ports_joined own (p ∷ ps) = ap (λ (cs : List PortChange). own p ++ cs) (ports_joined own ps)

nodes_joined : (own : EgressPort → List PortChange) (at : ℕ → List EgressPort) (xs : List ℕ) → all_changes_of (map (λ x. map own (at x)) xs) ≡ flat_map own (flat_map at xs)
nodes_joined own at [] = refl
nodes_joined own at (x ∷ xs) =
    ap (λ (cs : List PortChange). cs ++ all_changes_of (map (λ y. map own (at y)) xs)) (ports_joined own (at x))
    ∙ ap (λ (cs : List PortChange). flat_map own (at x) ++ cs) (nodes_joined own at xs) ∙ sym (flat_map-append own (at x) (flat_map at xs))

pub all_joined : (tree : Topology) (own : EgressPort → List PortChange) → all_changes_of (by_port tree own) ≡ flat_map own (tree_ports tree)
all_joined tree own = nodes_joined own (ports_at tree.links) (range_with_len 1 (length tree.kinds))

nodes_long : (f : ℕ → List (List PortChange)) (a n : ℕ) → length (map f (range_with_len a n)) ≡ n
nodes_long f a zero = refl
nodes_long f a (suc n) = ap suc (nodes_long f (a + 1) n)

pub by_port_long : (tree : Topology) (own : EgressPort → List PortChange) → length (by_port tree own) ≡ length tree.kinds
by_port_long tree own = nodes_long (λ x. map own (ports_at tree.links x)) 1 (length tree.kinds)

-- what holds of each holds of one that is read
pub each_read : {X : Type 0} (P : X → Type 0) (xs : List X) (i : ℕ) (x : X) → AllByRecursion P xs → i < length xs → x ≡ get_or xs i x → P x
each_read P [] i x each lt at = absurd (omega (arith, lt))
each_read P (y ∷ xs) zero x each lt at = subst P (sym at) each.0
each_read P (y ∷ xs) (suc i) x each lt at = each_read P xs i x each.1 (omega (arith, lt)) at

-- two that are the same at each port
same_ports : (own other : EgressPort → List PortChange) (ps rest : List EgressPort) → AllByRecursion (λ p. own p ≡ other p) (ps ++ rest)
    → (map own ps ≡ map other ps) × AllByRecursion (λ p. own p ≡ other p) rest
same_ports own other [] rest h = (refl, h)
same_ports own other (p ∷ ps) rest h =
    let later = same_ports own other ps rest h.1 in
    (ap (λ (cs : List PortChange). cs ∷ map own ps) h.0 ∙ ap (λ (css : List (List PortChange)). other p ∷ css) later.0, later.1)

same_nodes : (own other : EgressPort → List PortChange) (at : ℕ → List EgressPort) (xs : List ℕ) → AllByRecursion (λ p. own p ≡ other p) (flat_map at xs)
    → map (λ x. map own (at x)) xs ≡ map (λ x. map other (at x)) xs
same_nodes own other at [] h = refl
same_nodes own other at (x ∷ xs) h =
    let both = same_ports own other (at x) (flat_map at xs) h in
    ap (λ (css : List (List PortChange)). css ∷ map (λ y. map own (at y)) xs) both.0
    ∙ ap (λ (rest : List (List (List PortChange))). map other (at x) ∷ rest) (same_nodes own other at xs both.1)

pub same_by_port : (tree : Topology) (own other : EgressPort → List PortChange) → AllByRecursion (λ p. own p ≡ other p) (tree_ports tree) → by_port tree own ≡ by_port tree other
same_by_port tree own other h = same_nodes own other (ports_at tree.links) (range_with_len 1 (length tree.kinds)) h

pub each_same : (own other : EgressPort → List PortChange) → ((p : EgressPort) → own p ≡ other p) → (ps : List EgressPort) → AllByRecursion (λ p. own p ≡ other p) ps
each_same own other same [] = tt
each_same own other same (p ∷ ps) = (same p, each_same own other same ps)

-- lists that have just the changes of their port
pub is_by_port : (tree : Topology) (own : EgressPort → List PortChange) → ((p : EgressPort) → AreAt p (own p)) → IsByPort tree (by_port tree own)
is_by_port tree own at =
    same_by_port tree own (changes_at (all_changes_of (by_port tree own)))
    (each_weaker (HasPort tree) (λ (p : EgressPort). own p ≡ changes_at (all_changes_of (by_port tree own)) p)
    (λ p has. sym (ap (λ (cs : List PortChange). changes_at cs p) (all_joined tree own) ∙ flat_at own at (tree_ports tree) (tree_ports_ascend tree) p (has_port_in tree p has)))
    (tree_ports tree) (each_port_has tree))

-- ---- none at the start

abbrev pub no_change : EgressPort → List PortChange
no_change p = []

none_of : (ps : List EgressPort) → flat_map no_change ps ≡ []
none_of [] = refl
none_of (p ∷ ps) = none_of ps

pub none_joined : (tree : Topology) → all_changes_of (by_port tree (λ p. [])) ≡ []
none_joined tree = all_joined tree no_change ∙ none_of (tree_ports tree)

-- one port more, and one node
pub port_pushed : (x k : ℕ) (css : List (List PortChange)) → css ≡ map no_change (map (port_of x) (range_with_len 1 k)) → css ++ [] ∷ [] ≡ map no_change (map (port_of x) (range_with_len 1 (k + 1)))
port_pushed x k css before =
    ap (λ (ds : List (List PortChange)). ds ++ [] ∷ []) before
    ∙ sym (ap (λ (ks : List ℕ). map no_change (map (port_of x) ks)) (range_push 1 k) ∙ ap (map no_change) (map-append (port_of x) (range_with_len 1 k) ((1 + k) ∷ []))
    ∙ map-append no_change (map (port_of x) (range_with_len 1 k)) (port_of x (1 + k) ∷ []))

pub node_pushed : (f : ℕ → List (List PortChange)) (k : ℕ) (nodes : List (List (List PortChange))) (node : List (List PortChange)) → nodes ≡ map f (range_with_len 1 k) → node ≡ f (k + 1)
    → nodes ++ node ∷ [] ≡ map f (range_with_len 1 (k + 1))
node_pushed f k nodes node before is =
    ap (λ (all : List (List (List PortChange))). all ++ node ∷ []) before ∙ ap (λ (css : List (List PortChange)). map f (range_with_len 1 k) ++ css ∷ []) is
    ∙ sym (ap (map f) (range_push 1 k) ∙ map-append f (range_with_len 1 k) ((1 + k) ∷ []) ∙ ap (λ (j : ℕ). map f (range_with_len 1 k) ++ f j ∷ []) (let e : 1 + k ≡ k + 1 = omega arith in e))

-- ---- noting a port

same_self : (f : Reservation) → is_same f f ≡ true
same_self f =
    let s = are_same_streams f.booked f.booked in
    let a = f.slope_a == f.slope_a in
    let b = f.slope_b == f.slope_b in
    let v = are_same_vids f.vids f.vids in
    and_from (s && a && b) v
    (and_from (s && a) b (and_from s a ((pointwise_decides same_stream f.booked f.booked).1 refl) (eq-eqb f.slope_a f.slope_a refl)) (eq-eqb f.slope_b f.slope_b refl))
    ((pointwise_decides same_vid f.vids f.vids).1 refl)

-- where the changes say it, nothing is lacking
pub says_noted : (tick : ℕ) (p : EgressPort) (f : Reservation) (cs : List PortChange) → said_by (in_force tick cs) ≡ f → cs ≡ changes_noted tick p f cs
says_noted tick p f cs says = lacks_none tick p f cs cs (ap (λ (g : Reservation). is_same g f) says ∙ same_self f)

-- once they are noted, they say it
noted_says : (tick : ℕ) (p : EgressPort) (f : Reservation) (cs : List PortChange) → changes_noted tick p f cs ≡ changes_noted tick p f (changes_noted tick p f cs)
noted_says tick p f cs =
    elim (cases_Bool (is_same (said_by (in_force tick cs)) f)) [
      | inl is ↦ (
          let same = lacks_none tick p f cs cs is in
          ap (changes_noted tick p f) same)
      | inr nay ↦ (
          let one = change_of tick p f in
          let now : changes_noted tick p f cs ≡ cs ++ one ∷ [] = ap (λ (ds : List PortChange). cs ++ ds) (cond-false (is_same (said_by (in_force tick cs)) f) [] (one ∷ []) nay) in
          says_noted tick p f (changes_noted tick p f cs) (ap (λ (ds : List PortChange). said_by (in_force tick ds)) now ∙ ap said_by (one_more_from tick cs one (omega arith))))
    ]

noted_upto : (tick : ℕ) (p : EgressPort) (f : Reservation) (cs : List PortChange) → ComeUpTo tick cs → ComeUpTo tick (changes_noted tick p f cs)
noted_upto tick p f cs upto =
    each_append (λ (c : PortChange). c.tick ≤ tick) cs (lacking tick p f cs) upto
    (cond_both (is_same (said_by (in_force tick cs)) f) [] (change_of tick p f ∷ []) (AllByRecursion (λ (c : PortChange). c.tick ≤ tick)) (λ is. tt) (λ nay. (omega arith, tt)))

-- ---- noting the ports of a node

module _ (tick : ℕ) (s : NodeState) (n : NodeNo) where
  abbrev port_noted : ℕ → List PortChange → List PortChange
  port_noted k cs = changes_noted tick (port_of n.0 k) (node_force (place_of (port_of n.0 k).port) s) cs

  -- one more of them
  next_port : (k count : ℕ) (ports : List (List PortChange)) (cs : List PortChange) → count < length ports → cs ≡ get_or (ports_noted tick s n k count ports) count cs
      → set (ports_noted tick s n k count ports) count (port_noted (k + count) cs) ≡ ports_noted tick s n k (suc count) ports
  next_port k zero [] cs lt at = absurd (omega (arith, lt))
  next_port k zero (ds ∷ ports) cs lt at =
      ap (λ (es : List PortChange). port_noted (k + 0) es ∷ ports) at ∙ ap (λ (j : ℕ). port_noted j ds ∷ ports) (let e : k + 0 ≡ k = omega arith in e)
  next_port k (suc count) [] cs lt at = absurd (omega (arith, lt))
  next_port k (suc count) (ds ∷ ports) cs lt at =
      ap (λ (j : ℕ). port_noted k ds ∷ set (ports_noted tick s n (k + 1) count ports) count (port_noted j cs)) (let e : k + suc count ≡ k + 1 + count = omega arith in e)
      ∙ ap (λ (css : List (List PortChange)). port_noted k ds ∷ css) (next_port (k + 1) count ports cs (omega (arith, lt)) at)

  pub one_more_port : (count : ℕ) (ports : List (List PortChange)) (cs : List PortChange) → count < length ports → cs ≡ get_or (ports_noted tick s n 1 count ports) count cs
      → set (ports_noted tick s n 1 count ports) count (port_noted (count + 1) cs) ≡ ports_noted tick s n 1 (count + 1) ports
  one_more_port count ports cs lt at =
      ap (λ (j : ℕ). set (ports_noted tick s n 1 count ports) count (port_noted j cs)) (let e : count + 1 ≡ 1 + count = omega arith in e)
      ∙ next_port 1 count ports cs lt at ∙ ap (λ (j : ℕ). ports_noted tick s n 1 j ports) (let e : suc count ≡ count + 1 = omega arith in e)

  -- those behind are as they were
  pub port_left : (P : List PortChange → Type 0) (k count : ℕ) (ports : List (List PortChange)) (cs : List PortChange) → AllByRecursion P ports → count < length ports
      → cs ≡ get_or (ports_noted tick s n k count ports) count cs → P cs
  port_left P k zero [] cs each lt at = absurd (omega (arith, lt))
  port_left P k zero (ds ∷ ports) cs each lt at = subst P (sym at) each.0
  port_left P k (suc count) [] cs each lt at = absurd (omega (arith, lt))
  port_left P k (suc count) (ds ∷ ports) cs each lt at = port_left P (k + 1) count ports cs each.1 (omega (arith, lt)) at

  -- all of them
  pub all_ports : (own : EgressPort → List PortChange) (k count : ℕ)
      → ports_noted tick s n k count (map own (map (port_of n.0) (range_with_len k count)))
      ≡ map (λ p. changes_noted tick p (node_force (place_of p.port) s) (own p)) (map (port_of n.0) (range_with_len k count))
  all_ports own k zero = refl
  all_ports own k (suc count) = ap (λ (css : List (List PortChange)). port_noted k (own (port_of n.0 k)) ∷ css) (all_ports own (k + 1) count)

-- ---- noting a node

module _ (tick : ℕ) (n : NodeNo) (w : WorldState) (own : EgressPort → List PortChange) where
  abbrev after_node : EgressPort → List PortChange
  after_node p = node_noted tick n w p (own p)

  -- the ports of another node
  other_ports : (links : List Link) (x : ℕ) → (n.0 ≡ x → ⊥) → (ks : List ℕ) → map own (map (port_of x) ks) ≡ map after_node (map (port_of x) ks)
  other_ports links x differ [] = refl
  other_ports links x differ (k ∷ ks) =
      elim (cases_Bool (n.0 == x)) [
        | inl is ↦ absurd (differ (eqb-true n.0 x is))
        | inr nay ↦ ap (λ (cs : List PortChange). cs ∷ map own (map (port_of x) ks))
            (sym (cond-false (n.0 == x) (changes_noted tick (port_of x k) (force_at (port_of x k) w) (own (port_of x k))) (own (port_of x k)) nay))
            ∙ ap (λ (css : List (List PortChange)). after_node (port_of x k) ∷ css) (other_ports links x differ ks)
      ]

  -- and its own
  own_ports : (s : NodeState) → node_at n w ≡ Some s → (ks : List ℕ)
      → map (λ p. changes_noted tick p (node_force (place_of p.port) s) (own p)) (map (port_of n.0) ks) ≡ map after_node (map (port_of n.0) ks)
  own_ports s here [] = refl
  own_ports s here (k ∷ ks) =
      let p = port_of n.0 k in
      let force : node_force (place_of p.port) s ≡ force_at p w = sym (ap (λ (o : Option NodeState). option_map_or (node_force (place_of p.port)) o no_reservation) here) in
      let one = ap (λ (f : Reservation). changes_noted tick p f (own p)) force ∙ sym (cond-true (n.0 == n.0) (changes_noted tick p (force_at p w) (own p)) (own p) (eq-eqb n.0 n.0 refl)) in
      ap (λ (cs : List PortChange). cs ∷ map (λ q. changes_noted tick q (node_force (place_of q.port) s) (own q)) (map (port_of n.0) ks)) one
      ∙ ap (λ (css : List (List PortChange)). after_node p ∷ css) (own_ports s here ks)

  abbrev ports_by : (EgressPort → List PortChange) → List Link → ℕ → List (List PortChange)
  ports_by g links x = map g (ports_at links x)

  others_from : (links : List Link) (a count : ℕ) → n.0 < a → map (ports_by own links) (range_with_len a count) ≡ map (ports_by after_node links) (range_with_len a count)
  others_from links a zero lt = refl
  others_from links a (suc count) lt =
      ap (λ (css : List (List PortChange)). css ∷ map (ports_by own links) (range_with_len (a + 1) count))
      (other_ports links a (λ e. absurd (omega (arith, lt, e))) (range_with_len 1 (length (neighbours links a))))
      ∙ ap (λ (rest : List (List (List PortChange))). ports_by after_node links a ∷ rest) (others_from links (a + 1) count (omega (arith, lt)))

  -- one of the nodes from number a on is noted
  node_set : (links : List Link) (a count i : ℕ) (css : List (List PortChange)) → i < count → n.0 ≡ a + i → css ≡ ports_by after_node links n.0
      → set (map (ports_by own links) (range_with_len a count)) i css ≡ map (ports_by after_node links) (range_with_len a count)
  node_set links a zero i css lt at is = absurd (omega (arith, lt))
  node_set links a (suc count) zero css lt at is =
      ap (λ (ds : List (List PortChange)). ds ∷ map (ports_by own links) (range_with_len (a + 1) count)) (is ∙ ap (ports_by after_node links) (let e : n.0 ≡ a = omega (arith, at) in e))
      ∙ ap (λ (rest : List (List (List PortChange))). ports_by after_node links a ∷ rest) (others_from links (a + 1) count (omega (arith, at)))
  node_set links a (suc count) (suc i) css lt at is =
      ap (λ (ds : List (List PortChange)). ds ∷ set (map (ports_by own links) (range_with_len (a + 1) count)) i css)
      (other_ports links a (λ e. absurd (omega (arith, at, e))) (range_with_len 1 (length (neighbours links a))))
      ∙ ap (λ (rest : List (List (List PortChange))). ports_by after_node links a ∷ rest) (node_set links (a + 1) count i css (omega (arith, lt)) (omega (arith, at)) is)

  get_node : (links : List Link) (a count i : ℕ) (css : List (List PortChange)) → i < count → n.0 ≡ a + i → css ≡ get_or (map (ports_by own links) (range_with_len a count)) i css
      → css ≡ ports_by own links n.0
  get_node links a zero i css lt at is = absurd (omega (arith, lt))
  get_node links a (suc count) zero css lt at is = is ∙ ap (ports_by own links) (let e : a ≡ n.0 = omega (arith, at) in e)
  get_node links a (suc count) (suc i) css lt at is = get_node links (a + 1) count i css (omega (arith, lt)) (omega (arith, at)) is

  module _ (tree : Topology) (nodes : List (List (List PortChange))) (before : nodes ≡ by_port tree own) (has : HasNode tree n.0) where
    node_has : (i : ℕ) (css : List (List PortChange)) → i ≡ n.0 - 1 → css ≡ get_or nodes i css → css ≡ ports_by own tree.links n.0
    node_has i css at is =
        let some = has.0 in
        let few = has.1 in
        get_node tree.links 1 (length tree.kinds) i css (omega (arith, at, some, few)) (omega (arith, at, some)) (is ∙ ap (λ (all : List (List (List PortChange))). get_or all i css) before)

    -- a node has a list for each of its ports
    pub node_long : (i : ℕ) (css : List (List PortChange)) → i ≡ n.0 - 1 → css ≡ get_or nodes i css → length css ≡ length (neighbours tree.links n.0)
    node_long i css at is = ap (λ (ds : List (List PortChange)). length ds) (node_has i css at is) ∙ count_from 1 (length (neighbours tree.links n.0))
      where
        count_from : (a j : ℕ) → length (map own (map (port_of n.0) (range_with_len a j))) ≡ j
        count_from a zero = refl
        count_from a (suc j) = ap suc (count_from (a + 1) j)

    -- and they are noted
    pub node_is_noted : (i : ℕ) (s : NodeState) (css now : List (List PortChange)) → i ≡ n.0 - 1 → css ≡ get_or nodes i css → node_at n w ≡ Some s
        → now ≡ ports_noted tick s n 1 (length css) css → set nodes i now ≡ by_port tree after_node
    node_is_noted i s css now at is here noted_now =
        let some = has.0 in
        let few = has.1 in
        let count = length (neighbours tree.links n.0) in
        ap (λ (all : List (List (List PortChange))). set all i now) before
        ∙ node_set tree.links 1 (length tree.kinds) i now (omega (arith, at, some, few)) (omega (arith, at, some))
        (noted_now ∙ ap (λ (j : ℕ). ports_noted tick s n 1 j css) (node_long i css at is) ∙ ap (ports_noted tick s n 1 count) (node_has i css at is)
        ∙ all_ports tick s n own 1 count ∙ own_ports s here (range_with_len 1 count))

-- ---- noting the nodes that have acted

module _ (tick : ℕ) (w : WorldState) where
  any_more : (f : NodeSteps → Bool) (made : List NodeSteps) (one : NodeSteps) → list_any f (made ++ one ∷ []) ≡ (list_any f made || f one)
  any_more f made one = list_any-append f made (one ∷ []) ∙ ap (λ (b : Bool). list_any f made || b) (or_nothing (f one))
    where
      or_nothing : (b : Bool) → (b || false) ≡ b
      or_nothing true = refl
      or_nothing false = refl

  -- one more node has made steps: it has acted, or not
  pub one_more_act : (made : List NodeSteps) (one : NodeSteps) (p : EgressPort) (cs : List PortChange) → is_act one ≡ true
      → node_noted tick one.node w p (act_noted tick made w p cs) ≡ act_noted tick (made ++ one ∷ []) w p cs
  one_more_act made one p cs act =
      by (has_acted p.node made) (one.node.0 == p.node.0)
      ∙ ap (λ (b : Bool). cond b (now cs) cs)
      (ap (λ (b : Bool). has_acted p.node made || ((one.node.0 == p.node.0) && b)) (sym act) ∙ sym (any_more (acts_at p.node) made one))
    where
      now : List PortChange → List PortChange
      now ds = changes_noted tick p (force_at p w) ds

      and_true : (b : Bool) → (b && true) ≡ b
      and_true true = refl
      and_true false = refl

      by : (a b : Bool) → cond b (now (cond a (now cs) cs)) (cond a (now cs) cs) ≡ cond (a || (b && true)) (now cs) cs
      by true true = sym (noted_says tick p (force_at p w) cs)
      by true false = refl
      by false true = refl
      by false false = refl

  pub one_more_idle : (made : List NodeSteps) (one : NodeSteps) (p : EgressPort) (cs : List PortChange) → is_act one ≡ false
      → act_noted tick made w p cs ≡ act_noted tick (made ++ one ∷ []) w p cs
  one_more_idle made one p cs idle =
      ap (λ (b : Bool). cond b (changes_noted tick p (force_at p w) cs) cs)
      (by (has_acted p.node made) (one.node.0 == p.node.0) ∙ ap (λ (b : Bool). has_acted p.node made || ((one.node.0 == p.node.0) && b)) (sym idle) ∙ sym (any_more (acts_at p.node) made one))
    where
      by : (a b : Bool) → a ≡ (a || (b && false))
      by true b = refl
      by false true = refl
      by false false = refl

  -- none comes after the tick
  pub acts_upto : (made : List NodeSteps) (p : EgressPort) (cs : List PortChange) → ComeUpTo tick cs → ComeUpTo tick (act_noted tick made w p cs)
  acts_upto made p cs upto =
      cond_both (has_acted p.node made) (changes_noted tick p (force_at p w) cs) cs (ComeUpTo tick) (λ is. noted_upto tick p (force_at p w) cs upto) (λ nay. upto)

-- each list of a table comes up to a tick
table_ports : (tick : ℕ) (own : EgressPort → List PortChange) → ((p : EgressPort) → ComeUpTo tick (own p)) → (ps : List EgressPort) → AllByRecursion (ComeUpTo tick) (map own ps)
table_ports tick own upto [] = tt
table_ports tick own upto (p ∷ ps) = (upto p, table_ports tick own upto ps)

table_nodes : (tick : ℕ) (own : EgressPort → List PortChange) → ((p : EgressPort) → ComeUpTo tick (own p)) → (at : ℕ → List EgressPort) (xs : List ℕ)
    → AllByRecursion (AllByRecursion (ComeUpTo tick)) (map (λ x. map own (at x)) xs)
table_nodes tick own upto at [] = tt
table_nodes tick own upto at (x ∷ xs) = (table_ports tick own upto (at x), table_nodes tick own upto at xs)

pub table_upto : (tick : ℕ) (tree : Topology) (own : EgressPort → List PortChange) → ((p : EgressPort) → ComeUpTo tick (own p)) → AllByRecursion (AllByRecursion (ComeUpTo tick)) (by_port tree own)
table_upto tick tree own upto = table_nodes tick own upto (ports_at tree.links) (range_with_len 1 (length tree.kinds))

pub changes_upto : (tree : Topology) (tick : ℕ) (changes : List PortChange) → AreChanges tree tick changes → (p : EgressPort) → ComeUpTo tick (changes_at changes p)
changes_upto tree tick changes are p =
    each_filter (λ (c : PortChange). c.tick ≤ tick) (λ (c : PortChange). is_port c.at p) changes
    (each_weaker (λ (c : PortChange). c.tick < tick) (λ (c : PortChange). c.tick ≤ tick)
    (λ c lt. omega (arith, lt)) changes (recursion_from_All (λ (c : PortChange). c.tick < tick) changes are.before))

-- what is noted at a port is of it
acts_at_port : (tick : ℕ) (made : List NodeSteps) (w : WorldState) (p : EgressPort) (cs : List PortChange) → AreAt p cs → AreAt p (act_noted tick made w p cs)
acts_at_port tick made w p cs own =
    cond_both (has_acted p.node made) (changes_noted tick p (force_at p w) cs) cs (AreAt p)
    (λ is. each_append (λ (c : PortChange). c.at ≡ p) cs (lacking tick p (force_at p w) cs) own (lacking_at tick p (force_at p w) cs)) (λ nay. own)

pub acts_by_port : (tick : ℕ) (made : List NodeSteps) (w : WorldState) (tree : Topology) (changes : List PortChange)
    → IsByPort tree (by_port tree (λ p. act_noted tick made w p (changes_at changes p)))
acts_by_port tick made w tree changes =
    is_by_port tree (λ p. act_noted tick made w p (changes_at changes p)) (λ p. acts_at_port tick made w p (changes_at changes p) (are_at p changes))

-- ---- the nodes that have acted are all that have anything to note

pub acts_are_all : (tick : ℕ) (steps : List NodeSteps) (w : WorldState) (changes : List PortChange)
    → ((p : EgressPort) → HasPort w.tree p → has_acted p.node steps ≡ false → Says tick changes p (force_at p w)) → acts_noted tick steps w changes ≡ with_notes tick w changes
acts_are_all tick steps w changes says =
    let g : EgressPort → List PortChange = λ p. act_noted tick steps w p (changes_at changes p) in
    let h : EgressPort → List PortChange = λ p. changes_noted tick p (force_at p w) (changes_at changes p) in
    same_flat g h (tree_ports w.tree)
    (each_weaker (HasPort w.tree) (λ (p : EgressPort). g p ≡ h p)
    (λ p has. elim (cases_Bool (has_acted p.node steps)) [
      | inl is ↦ cond-true (has_acted p.node steps) (h p) (changes_at changes p) is
      | inr nay ↦ cond-false (has_acted p.node steps) (h p) (changes_at changes p) nay ∙ says_noted tick p (force_at p w) (changes_at changes p) (says p has nay)
    ])
    (tree_ports w.tree) (each_port_has w.tree))

-- ---- one step more of a tick

module _ (tick : ℕ) (w : WorldState) (tree : Topology) (own : EgressPort → List PortChange)
    (steps : List NodeSteps) (i : ℕ) (made : NodeSteps) (lt : i < length steps) (at : made ≡ get_or steps i made)
    (nodes : List (List (List PortChange))) (before : nodes ≡ by_port tree (λ p. act_noted tick (take i steps) w p (own p))) where
  cut : take (i + 1) steps ≡ take i steps ++ made ∷ []
  cut = take_more steps i made lt ∙ ap (λ (x : NodeSteps). take i steps ++ x ∷ []) (sym at)

  pub next_act : (now : List (List (List PortChange))) → ((g : EgressPort → List PortChange)
      → nodes ≡ by_port tree g → now ≡ by_port tree (λ p. node_noted tick made.node w p (g p))) → is_act made ≡ true
      → now ≡ by_port tree (λ p. act_noted tick (take (i + 1) steps) w p (own p))
  next_act now after act =
      after (λ p. act_noted tick (take i steps) w p (own p)) before
      ∙ same_by_port tree (λ p. node_noted tick made.node w p (act_noted tick (take i steps) w p (own p))) (λ p. act_noted tick (take (i + 1) steps) w p (own p))
      (each_same (λ p. node_noted tick made.node w p (act_noted tick (take i steps) w p (own p))) (λ p. act_noted tick (take (i + 1) steps) w p (own p))
      (λ p. one_more_act tick w (take i steps) made p (own p) act ∙ ap (λ (ss : List NodeSteps). act_noted tick ss w p (own p)) (sym cut)) (tree_ports tree))

  pub next_idle : is_act made ≡ false → nodes ≡ by_port tree (λ p. act_noted tick (take (i + 1) steps) w p (own p))
  next_idle idle =
      before
      ∙ same_by_port tree (λ p. act_noted tick (take i steps) w p (own p)) (λ p. act_noted tick (take (i + 1) steps) w p (own p))
      (each_same (λ p. act_noted tick (take i steps) w p (own p)) (λ p. act_noted tick (take (i + 1) steps) w p (own p))
      (λ p. one_more_idle tick w (take i steps) made p (own p) idle ∙ ap (λ (ss : List NodeSteps). act_noted tick ss w p (own p)) (sym cut)) (tree_ports tree))

-- ---- the last of changes is in force from then on

last_of_all : (tick : ℕ) (newest : Option PortChange) (cs : List PortChange) (n : ℕ) (last : PortChange)
    → length cs ≡ suc n → last ≡ get_or cs n last → ComeUpTo tick cs → last_upto tick newest cs ≡ Some last
last_of_all tick newest [] n last e at upto = absurd (omega (arith, e))
last_of_all tick newest (c ∷ []) zero last e at upto = cond-true (nat_le c.tick tick) (Some c) newest (le-leb c.tick tick upto.0) ∙ ap Some (sym at)
last_of_all tick newest (c ∷ []) (suc n) last e at upto = absurd (omega (arith, e))
last_of_all tick newest (c ∷ (d ∷ cs)) zero last e at upto = absurd (omega (arith, e))
last_of_all tick newest (c ∷ (d ∷ cs)) (suc n) last e at upto = last_of_all tick (cond (nat_le c.tick tick) (Some c) newest) (d ∷ cs) n last (omega (arith, e)) at upto.1

pub last_in_force : (tick : ℕ) (cs : List PortChange) (n : ℕ) (last : PortChange) → length cs ≡ suc n → last ≡ get_or cs n last → ComeUpTo tick cs → Some last ≡ in_force tick cs
last_in_force tick cs n last e at upto = sym (last_of_all tick None cs n last e at upto)
