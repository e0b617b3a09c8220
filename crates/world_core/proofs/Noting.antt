-- What the noting of a tick makes of changes: they stay in order, and say from that tick on what is in force.
use Rattle.std.proofs.Common.{◌≡◌, ℕ, zero, suc, ◌+◌, ◌<◌, ◌≤◌, inl, inr, true, List, [], ◌∷◌, ◌++◌, length, map, None, refl, sym, ◌∙◌, ap, subst, arith, append-nil, append_assoc}
use Rattle.std.specs.Prelude.{flat_map, ◌==◌, ◌&&◌}
use Rattle.std.specs.{List.AllByRecursion, List.range_with_len, Cmp.Lexicographic.pointwise_decides}
use Rattle.std.proofs.lemmas.{Bool.cond-true, Bool.cond_both, Bool.cases_Bool, Bool.eqb-true, Bool.eqb-false, Bool.eq-eqb, Bool.and_parts, List.map-append, List.Concat.flat_map-append, List.Elements.All-from_recursion, List.Elements.recursion_from_All}
use Rattle.srp_base.proofs.{Lists.range-push as range_push, Lists.each_of_map, Arithmetic.numbers as each_of_range, Lists.each_append, Lists.Each-map as each_weaker, Lists.each_filter}
use Rattle.srp_base.specs.declared.{numbers.EgressPort.EgressPort, numbers.StreamId.StreamId, ports.PortChange.PortChange}
use Rattle.tree_topology.specs.declared.graph.Link.{Link}
use Rattle.tree_topology.specs.{Topology.Topology, Topology.HasPort, Ports.neighbours}
use Rattle.frame_flow.specs.{Force.is_port, Force.changes_at, Force.in_force, Copies.ports_at, Copies.port_of, Given.IsEarlier}
use Rattle.world_core.specs.Reservation.{Reservation}
use Rattle.world_core.specs.{said_by, are_same_streams, are_same_vids, is_same, change_of, lacking, changes_noted, tree_ports, AreChanges, changes_among}
use Rattle.world_core.proofs.PortOrder.{IsBefore, Ascend, IsIn, AreAt, AreInOrder, each_flat, order_filter, order_from_pairs, pairs_from_order, earlier_tick, are_at, flat_at, flat_order, port_by_port, merged_flat, upto_all, one_more_before, one_more_from}

-- ---- the ports of a tree

ports_ascend : (x a n : ℕ) → Ascend (map (port_of x) (range_with_len a n))
ports_ascend x a zero = tt
ports_ascend x a (suc n) = (
  each_of_map (IsBefore (port_of x a)) (port_of x) (range_with_len (a + 1) n)
      (each_of_range (λ k. IsBefore (port_of x a) (port_of x k)) (a + 1) n (λ k from below. inr (refl, omega (arith, from)))),
  ports_ascend x (a + 1) n,
)

ascend_joined : (ps qs : List EgressPort) → Ascend ps → Ascend qs → AllByRecursion (λ p. AllByRecursion (IsBefore p) qs) ps → Ascend (ps ++ qs)
ascend_joined [] qs up later h = later
ascend_joined (p ∷ ps) qs up later h = (each_append (IsBefore p) ps qs up.0 h.0, ascend_joined ps qs up.1 later h.1)

ports_of_node : (links : List Link) (x : ℕ) → AllByRecursion (λ p. p.node.0 ≡ x) (ports_at links x)
ports_of_node links x =
    each_of_map (λ (p : EgressPort). p.node.0 ≡ x) (port_of x) (range_with_len 1 (length (neighbours links x)))
    (each_of_range (λ k. (port_of x k).node.0 ≡ x) 1 (length (neighbours links x)) (λ k from below. refl))

later_nodes : (links : List Link) (a n : ℕ) → AllByRecursion (λ p. a ≤ p.node.0) (flat_map (ports_at links) (range_with_len a n))
later_nodes links a n =
    each_flat (λ (p : EgressPort). a ≤ p.node.0) (λ x. a ≤ x) (ports_at links)
    (λ x le. each_weaker (λ (p : EgressPort). p.node.0 ≡ x) (λ (p : EgressPort). a ≤ p.node.0) (λ p e. omega arith) (ports_at links x) (ports_of_node links x)) (range_with_len a n)
    (each_of_range (λ x. a ≤ x) a n (λ k from below. from))

nodes_ascend : (links : List Link) (a n : ℕ) → Ascend (flat_map (ports_at links) (range_with_len a n))
nodes_ascend links a zero = tt
nodes_ascend links a (suc n) =
    ascend_joined (ports_at links a) (flat_map (ports_at links) (range_with_len (a + 1) n)) (ports_ascend a 1 (length (neighbours links a))) (nodes_ascend links (a + 1) n)
    (each_weaker (λ (p : EgressPort). p.node.0 ≡ a) (λ p. AllByRecursion (IsBefore p) (flat_map (ports_at links) (range_with_len (a + 1) n)))
    (λ p e. each_weaker (λ (q : EgressPort). a + 1 ≤ q.node.0) (IsBefore p) (λ q le. inl (omega arith)) (flat_map (ports_at links) (range_with_len (a + 1) n)) (later_nodes links (a + 1) n))
    (ports_at links a) (ports_of_node links a))

pub tree_ports_ascend : (tree : Topology) → Ascend (tree_ports tree)
tree_ports_ascend tree = nodes_ascend tree.links 1 (length tree.kinds)

in_left : (p : EgressPort) (ps qs : List EgressPort) → IsIn p ps → IsIn p (ps ++ qs)
in_left p [] qs there = absurd there
in_left p (q ∷ ps) qs there = elim there [ inl e ↦ inl e | inr later ↦ inr (in_left p ps qs later) ]

in_right : (p : EgressPort) (ps qs : List EgressPort) → IsIn p qs → IsIn p (ps ++ qs)
in_right p [] qs there = there
in_right p (q ∷ ps) qs there = inr (in_right p ps qs there)

in_ports : (p : EgressPort) (a n : ℕ) → a ≤ p.port.0 → p.port.0 < a + n → IsIn p (map (port_of p.node.0) (range_with_len a n))
in_ports p a zero from below = absurd (omega (arith, from, below))
in_ports p a (suc n) from below =
    elim (cases_Bool (a == p.port.0)) [
      | inl is ↦ inl (ap (λ (k : ℕ). port_of p.node.0 k) (eqb-true a p.port.0 is))
      | inr nay ↦ inr (in_ports p (a + 1) n (let differ : a ≡ p.port.0 → ⊥ = eqb-false a p.port.0 nay in omega arith) (omega arith))
    ]

in_nodes : (links : List Link) (p : EgressPort) (a n : ℕ) → a ≤ p.node.0 → p.node.0 < a + n → 1 ≤ p.port.0 → p.port.0 ≤ length (neighbours links p.node.0)
    → IsIn p (flat_map (ports_at links) (range_with_len a n))
in_nodes links p a zero from below some few = absurd (omega (arith, from, below))
in_nodes links p a (suc n) from below some few =
    elim (cases_Bool (a == p.node.0)) [
      | inl is ↦ in_left p (ports_at links a) (flat_map (ports_at links) (range_with_len (a + 1) n))
          (subst (λ (x : ℕ). IsIn p (ports_at links x)) (sym (eqb-true a p.node.0 is)) (in_ports p 1 (length (neighbours links p.node.0)) some (omega arith)))
      | inr nay ↦ in_right p (ports_at links a) (flat_map (ports_at links) (range_with_len (a + 1) n))
          (in_nodes links p (a + 1) n (let differ : a ≡ p.node.0 → ⊥ = eqb-false a p.node.0 nay in omega arith) (omega arith) some few)
    ]

pub has_port_in : (tree : Topology) (p : EgressPort) → HasPort tree p → IsIn p (tree_ports tree)
has_port_in tree p has =
    let some = has.0.0 in
    let few = has.0.1 in
    in_nodes tree.links p 1 (length tree.kinds) some (omega arith) has.1 has.2

pub each_port_has : (tree : Topology) → AllByRecursion (HasPort tree) (tree_ports tree)
each_port_has tree =
    each_flat (HasPort tree) (λ x. (1 ≤ x) × (x ≤ length tree.kinds)) (ports_at tree.links)
    (λ x here. each_of_map (HasPort tree) (port_of x) (range_with_len 1 (length (neighbours tree.links x)))
    (each_of_range (λ k. HasPort tree (port_of x k)) 1 (length (neighbours tree.links x)) (λ k from below. (here, from, omega (arith, below)))))
    (range_with_len 1 (length tree.kinds)) (each_of_range (λ x. (1 ≤ x) × (x ≤ length tree.kinds)) 1 (length tree.kinds) (λ k from below. (from, omega (arith, below))))

-- ---- what changes lack

pub same_stream : (x y : StreamId) → ((x.0 == y.0) ≡ true → x ≡ y) × (x ≡ y → (x.0 == y.0) ≡ true)
same_stream x y =
    (λ is. ap (λ (n : ℕ). record { 0 = n }) (eqb-true x.0 y.0 is), λ e. eq-eqb x.0 y.0 (ap (λ (s : StreamId). s.0) e))

pub same_vid : (x y : ℕ) → ((x == y) ≡ true → x ≡ y) × (x ≡ y → (x == y) ≡ true)
same_vid x y = (eqb-true x y, eq-eqb x y)

pub same_is : (f g : Reservation) → is_same f g ≡ true → f ≡ g
same_is f g is =
    let s = are_same_streams f.booked g.booked in
    let a = f.slope_a == g.slope_a in
    let b = f.slope_b == g.slope_b in
    let v = are_same_vids f.vids g.vids in
    let last = and_parts (s && a && b) v is in
    let third = and_parts (s && a) b last.0 in
    let two = and_parts s a third.0 in
    let booked = (pointwise_decides same_stream f.booked g.booked).0 two.0 in
    let vids = (pointwise_decides same_vid f.vids g.vids).0 last.1 in
    ap (λ (x : List StreamId). record { booked = x; slope_a = f.slope_a; slope_b = f.slope_b; vids = f.vids }) booked
    ∙ ap (λ (x : ℕ). record { booked = g.booked; slope_a = x; slope_b = f.slope_b; vids = f.vids }) (eqb-true f.slope_a g.slope_a two.1)
    ∙ ap (λ (x : ℕ). record { booked = g.booked; slope_a = g.slope_a; slope_b = x; vids = f.vids }) (eqb-true f.slope_b g.slope_b third.1)
    ∙ ap (λ (x : List ℕ). record { booked = g.booked; slope_a = g.slope_a; slope_b = g.slope_b; vids = x }) vids

pub lacking_at : (tick : ℕ) (p : EgressPort) (f : Reservation) (cs : List PortChange) → AreAt p (lacking tick p f cs)
lacking_at tick p f cs =
    cond_both (is_same (said_by (in_force tick cs)) f) [] (change_of tick p f ∷ []) (AreAt p) (λ is. tt) (λ nay. (refl, tt))

pub lacks_none : (tick : ℕ) (p : EgressPort) (f : Reservation) (cs items : List PortChange) → is_same (said_by (in_force tick cs)) f ≡ true → items ≡ items ++ lacking tick p f cs
lacks_none tick p f cs items is =
    sym (ap (λ (ds : List PortChange). items ++ ds) (cond-true (is_same (said_by (in_force tick cs)) f) [] (change_of tick p f ∷ []) is) ∙ append-nil items)

-- ---- the changes of one tick more

abbrev pub noted_by : ℕ → (EgressPort → Reservation) → List EgressPort → List PortChange → List PortChange
noted_by tick force ports changes = flat_map (λ p. changes_noted tick p (force p) (changes_at changes p)) ports

module _ (tick : ℕ) (force : EgressPort → Reservation) (changes : List PortChange) where
  abbrev of_port : EgressPort → List PortChange
  of_port p = changes_at changes p ++ lacking tick p (force p) (changes_at changes p)

  own : (p : EgressPort) → AreAt p (of_port p)
  own p = each_append (λ (c : PortChange). c.at ≡ p) (changes_at changes p) (lacking tick p (force p) (changes_at changes p)) (are_at p changes) (lacking_at tick p (force p) (changes_at changes p))

  pub noted_at : (ps : List EgressPort) → Ascend ps → (p : EgressPort) → IsIn p ps → changes_at (noted_by tick force ps changes) p ≡ of_port p
  noted_at ps up p there = flat_at of_port own ps up p there

  -- what was in force before stays
  pub force_before : (ps : List EgressPort) → Ascend ps → (p : EgressPort) → IsIn p ps → (t : ℕ) → t < tick
      → in_force t (changes_at (noted_by tick force ps changes) p) ≡ in_force t (changes_at changes p)
  force_before ps up p there t lt =
      ap (in_force t) (noted_at ps up p there)
      ∙ cond_both (is_same (said_by (in_force tick (changes_at changes p))) (force p)) [] (change_of tick p (force p) ∷ [])
      (λ (ds : List PortChange). in_force t (changes_at changes p ++ ds) ≡ in_force t (changes_at changes p))
      (λ is. ap (in_force t) (append-nil (changes_at changes p)))
      (λ nay. one_more_before t (changes_at changes p) (change_of tick p (force p)) lt)

  module _ (before : AllByRecursion (λ c. c.tick < tick) changes) where
    -- and from that tick on it is what the ports have
    pub force_from : (ps : List EgressPort) → Ascend ps → (p : EgressPort) → IsIn p ps → (t : ℕ) → tick ≤ t
        → said_by (in_force t (changes_at (noted_by tick force ps changes) p)) ≡ force p
    force_from ps up p there t le =
        let cs = changes_at changes p in
        ap (λ (ds : List PortChange). said_by (in_force t ds)) (noted_at ps up p there)
        ∙ cond_both (is_same (said_by (in_force tick cs)) (force p)) [] (change_of tick p (force p) ∷ [])
        (λ (ds : List PortChange). said_by (in_force t (cs ++ ds)) ≡ force p)
        (λ is. ap (λ (ds : List PortChange). said_by (in_force t ds)) (append-nil cs)
        ∙ ap said_by (upto_all tick t None cs le (each_filter (λ (c : PortChange). c.tick < tick) (λ (c : PortChange). is_port c.at p) changes before))
        ∙ same_is (said_by (in_force tick cs)) (force p) is)
        (λ nay. ap said_by (one_more_from t cs (change_of tick p (force p)) le))

    order_push : (p : EgressPort) (cs : List PortChange) (d : PortChange) → AreAt p cs → AllByRecursion (λ c. c.tick < d.tick) cs → d.at ≡ p → AreInOrder cs → AreInOrder (cs ++ d ∷ [])
    order_push p [] d own early e up = (tt, tt)
    order_push p (c ∷ cs) d own early e up =
        (each_append (IsEarlier c) cs (d ∷ []) up.0 (earlier_tick c d (own.0 ∙ sym e) early.0, tt), order_push p cs d own.1 early.1 e up.1)

    of_port_order : AreInOrder changes → (p : EgressPort) → AreInOrder (of_port p)
    of_port_order up p =
        let cs = changes_at changes p in
        let here = order_filter (λ (c : PortChange). is_port c.at p) changes up in
        cond_both (is_same (said_by (in_force tick cs)) (force p)) [] (change_of tick p (force p) ∷ [])
        (λ (ds : List PortChange). AreInOrder (cs ++ ds))
        (λ is. subst AreInOrder (sym (append-nil cs)) here)
        (λ nay. order_push p cs (change_of tick p (force p)) (are_at p changes) (each_filter (λ (c : PortChange). c.tick < tick) (λ (c : PortChange). is_port c.at p) changes before) refl here)

    -- they ascend
    pub noted_order : AreInOrder changes → (ps : List EgressPort) → Ascend ps → AreInOrder (noted_by tick force ps changes)
    noted_order order ps up = flat_order of_port own (of_port_order order) ps up

    of_port_before : (p : EgressPort) → AllByRecursion (λ c. c.tick < suc tick) (of_port p)
    of_port_before p =
        let cs = changes_at changes p in
        each_append (λ (c : PortChange). c.tick < suc tick) cs (lacking tick p (force p) cs)
        (each_weaker (λ (c : PortChange). c.tick < tick) (λ (c : PortChange). c.tick < suc tick) (λ c lt. omega arith) cs
        (each_filter (λ (c : PortChange). c.tick < tick) (λ (c : PortChange). is_port c.at p) changes before))
        (cond_both (is_same (said_by (in_force tick cs)) (force p)) [] (change_of tick p (force p) ∷ []) (AllByRecursion (λ (c : PortChange). c.tick < suc tick))
        (λ is. tt) (λ nay. (omega arith, tt)))

    pub noted_before : (ps : List EgressPort) → AllByRecursion (λ c. c.tick < suc tick) (noted_by tick force ps changes)
    noted_before [] = tt
    noted_before (p ∷ ps) = each_append (λ (c : PortChange). c.tick < suc tick) (of_port p) (noted_by tick force ps changes) (of_port_before p) (noted_before ps)

  -- they are of those ports
  pub noted_ports : (P : EgressPort → Type 0) (ps : List EgressPort) → AllByRecursion P ps → AllByRecursion (λ c. P c.at) (noted_by tick force ps changes)
  noted_ports P ps each =
      each_flat (λ (c : PortChange). P c.at) P of_port (λ p here. each_weaker (λ (c : PortChange). c.at ≡ p) (λ (c : PortChange). P c.at) (λ c e. subst P (sym e) here) (of_port p) (own p)) ps each

  -- what is lacking, put among them
  pub merged_noted : (ps : List EgressPort) → Ascend ps → AreInOrder changes → AllByRecursion (λ c. IsIn c.at ps) changes
      → changes_among changes (flat_map (λ p. lacking tick p (force p) (changes_at changes p)) ps) ≡ noted_by tick force ps changes
  merged_noted ps up order each =
      let lack : EgressPort → List PortChange = λ p. lacking tick p (force p) (changes_at changes p) in
      ap (λ (cs : List PortChange). changes_among cs (flat_map lack ps)) (port_by_port ps up changes order each)
      ∙ merged_flat (changes_at changes) lack (λ p. are_at p changes) (λ p. lacking_at tick p (force p) (changes_at changes p)) ps up

-- so it is at the ports of a tree
module _ (tree : Topology) (tick : ℕ) (force : EgressPort → Reservation) (changes : List PortChange) (are : AreChanges tree tick changes) where
  order : AreInOrder changes
  order = order_from_pairs changes are.ascend

  early : AllByRecursion (λ c. c.tick < tick) changes
  early = recursion_from_All (λ (c : PortChange). c.tick < tick) changes are.before

  pub tree_noted : AreChanges tree (suc tick) (noted_by tick force (tree_ports tree) changes)
  tree_noted =
      record {
        ascend = pairs_from_order (noted_by tick force (tree_ports tree) changes) (noted_order tick force changes early order (tree_ports tree) (tree_ports_ascend tree));
        ports = All-from_recursion (λ (c : PortChange). HasPort tree c.at) (noted_by tick force (tree_ports tree) changes)
            (noted_ports tick force changes (HasPort tree) (tree_ports tree) (each_port_has tree));
        before = All-from_recursion (λ (c : PortChange). c.tick < suc tick) (noted_by tick force (tree_ports tree) changes) (noted_before tick force changes early (tree_ports tree));
      }

  pub tree_before : (p : EgressPort) → HasPort tree p → (t : ℕ) → t < tick → in_force t (changes_at (noted_by tick force (tree_ports tree) changes) p) ≡ in_force t (changes_at changes p)
  tree_before p has t lt = force_before tick force changes (tree_ports tree) (tree_ports_ascend tree) p (has_port_in tree p has) t lt

  pub tree_from : (p : EgressPort) → HasPort tree p → (t : ℕ) → tick ≤ t → said_by (in_force t (changes_at (noted_by tick force (tree_ports tree) changes) p)) ≡ force p
  tree_from p has t le = force_from tick force changes early (tree_ports tree) (tree_ports_ascend tree) p (has_port_in tree p has) t le

  pub tree_merged : changes_among changes (flat_map (λ p. lacking tick p (force p) (changes_at changes p)) (tree_ports tree)) ≡ noted_by tick force (tree_ports tree) changes
  tree_merged =
      merged_noted tick force changes (tree_ports tree) (tree_ports_ascend tree) order
      (each_weaker (λ (c : PortChange). HasPort tree c.at) (λ (c : PortChange). IsIn c.at (tree_ports tree)) (λ c has. has_port_in tree c.at has) changes
      (recursion_from_All (λ (c : PortChange). HasPort tree c.at) changes are.ports))

-- ---- what is lacking, node by node and port by port

flat_one : {X : Type 0} (f : X → List PortChange) (x : X) → flat_map f (x ∷ []) ≡ f x
flat_one f x = append-nil (f x)

module _ (f : EgressPort → List PortChange) where
  pub more_of_port : (n k : ℕ) (start items more : List PortChange) → items ≡ start ++ flat_map f (map (port_of n) (range_with_len 1 k)) → more ≡ items ++ f (port_of n (k + 1))
      → more ≡ start ++ flat_map f (map (port_of n) (range_with_len 1 (k + 1)))
  more_of_port n k start items more before now =
      let done = map (port_of n) (range_with_len 1 k) in
      let q = port_of n (k + 1) in
      let grown : map (port_of n) (range_with_len 1 (k + 1)) ≡ done ++ q ∷ [] =
      ap (map (port_of n)) (range_push 1 k) ∙ map-append (port_of n) (range_with_len 1 k) ((1 + k) ∷ []) ∙ ap (λ (j : ℕ). done ++ port_of n j ∷ []) (let e : 1 + k ≡ k + 1 = omega arith in e) in
      now ∙ ap (λ (cs : List PortChange). cs ++ f q) before ∙ append_assoc start (flat_map f done) (f q)
      ∙ sym (ap (λ (ps : List EgressPort). start ++ flat_map f ps) grown
      ∙ ap (λ (cs : List PortChange). start ++ cs) (flat_map-append f done (q ∷ []) ∙ ap (λ (cs : List PortChange). flat_map f done ++ cs) (flat_one f q)))

  pub more_of_node : (links : List Link) (x : ℕ) (items more : List PortChange)
      → items ≡ flat_map f (flat_map (ports_at links) (range_with_len 1 x)) → more ≡ items ++ flat_map f (ports_at links (x + 1))
      → more ≡ flat_map f (flat_map (ports_at links) (range_with_len 1 (x + 1)))
  more_of_node links x items more before now =
      let P : ℕ → List EgressPort = ports_at links in
      let done = range_with_len 1 x in
      let grown : flat_map P (range_with_len 1 (x + 1)) ≡ flat_map P done ++ P (x + 1) =
      ap (flat_map P) (range_push 1 x) ∙ flat_map-append P done ((1 + x) ∷ []) ∙ ap (λ (ps : List EgressPort). flat_map P done ++ ps) (append-nil (P (1 + x)))
      ∙ ap (λ (j : ℕ). flat_map P done ++ P j) (let e : 1 + x ≡ x + 1 = omega arith in e) in
      now ∙ ap (λ (cs : List PortChange). cs ++ flat_map f (P (x + 1))) before ∙ sym (ap (flat_map f) grown ∙ flat_map-append f (flat_map P done) (P (x + 1)))
