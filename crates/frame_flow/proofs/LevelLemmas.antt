-- Why one order over the ports serves: what comes in over a port's own link never leaves by it, so the
-- flow at a port depends on those of lower levels alone.
use Rattle.std.proofs.Common.{◌≡◌, ◌≢◌, ℕ, zero, suc, ◌+◌, ◌-◌, ◌<◌, ◌≤◌, inl, inr, true, false, List, [], ◌∷◌, length, get_or, set, map, Some, refl, sym, ◌∙◌, ap, subst, arith}
use Rattle.std.specs.Prelude.{All, ◌==◌}
use Rattle.std.specs.List.{range_with_len}
use Rattle.std.proofs.lemmas.{Bool.cond-true, Bool.cond-false, Bool.cases_Bool, Bool.cases_lt, Bool.cases_eq, Bool.eq-eqb, Bool.eqb-true, Bool.and_from, Bool.and_parts, Bool.false≢true, List.get_or-map, List.get_or-set_same, List.get_or-set_other, List.get_or_default, List.length-map, List.map-set, List.set-get_or, List.same_lists, List.set_past, List.Elements.All-nil, List.Elements.All-cons, List.Elements.All-head, List.Elements.All-tail, List.Elements.All-map, List.Elements.All-weaker, List.Folds.find_past, List.FromFn.get_or-range_with_len, List.FromFn.length-range_with_len, List.Sums.count_by-le-length}
use Rattle.srp_base.proofs.Lists.{map-same, All-flat_map}
use Rattle.srp_base.specs.declared.{numbers.EgressPort.EgressPort, bandwidth.Rate.Rate, bandwidth.Rate.TheVariants.M100}
use Rattle.tree_topology.specs.{Topology.Topology, Topology.HasNode, Topology.HasLink, Topology.HasPort, Ports.neighbours, Ports.far_node, Ports.peer_of, Ports.ends_of, Walk.is_behind, PortLaws.HasPortLaws}
use Rattle.frame_flow.specs.{PortFlow, Place, FrameCopy, is_port, changes_at, all_places, places_of_link, ports_at, port_of, flow_at, Setting, IsFlow, port_flow, flow_of_copies, level_at, level_of, ArePorts, AreAt, AreDoneBefore, IsGoneOverBefore}
use Rattle.frame_flow.proofs.CopyLemmas.{arriving-same}

-- ---- ports

pub same-port : (p q : EgressPort) → is_port p q ≡ true → p ≡ q
same-port p q is =
    let parts = and_parts (p.node.0 == q.node.0) (p.port.0 == q.port.0) is in
    let to : ℕ → ℕ → EgressPort = λ x k. record { node = record { 0 = x }; port = record { 0 = k } } in
    ap (λ (x : ℕ). to x p.port.0) (eqb-true p.node.0 q.node.0 parts.0) ∙ ap (λ (k : ℕ). to q.node.0 k) (eqb-true p.port.0 q.port.0 parts.1)

pub port-itself : (p : EgressPort) → is_port p p ≡ true
port-itself p =
    and_from (p.node.0 == p.node.0) (p.port.0 == p.port.0) (eq-eqb p.node.0 p.node.0 refl) (eq-eqb p.port.0 p.port.0 refl)

-- ports of two levels are two
apart : (tree : Topology) (p q : EgressPort) → level_at tree q < level_at tree p → is_port p q ≡ false
apart tree p q lt =
    elim (cases_Bool (is_port p q)) [
      | inl is ↦ absurd (let same : level_at tree p ≡ level_at tree q = ap (λ (t : EgressPort). level_at tree t) (same-port p q is) in omega (arith, lt, same))
      | inr nay ↦ nay
    ]

-- a node's ports are ports
abbrev pub IsPortOf : Topology → ℕ → EgressPort → Type 0
IsPortOf tree x r = HasPort tree r × (r.node.0 ≡ x)

pub ports-are : (tree : Topology) (x : ℕ) → HasNode tree x → All (IsPortOf tree x) (ports_at tree.links x)
ports-are tree x node =
    let n = length (neighbours tree.links x) in
    let P : ℕ → Type 0 = λ k. IsPortOf tree x (port_of x k) in
    All-map (IsPortOf tree x) (port_of x) (range_with_len 1 n)
    (λ i d below.
    let few : i < n = omega (arith, below, length-range_with_len 1 n) in
    subst P (sym (get_or-range_with_len 1 n i d few)) ((node, omega arith, omega (arith, few)), refl))

-- what sends over another link of a port's node is of a lower level
pub source-below : (tree : Topology) → HasPortLaws tree → (p r : EgressPort) → HasPort tree p → HasPort tree r → r.node.0 ≡ p.node.0 → is_port r p ≡ false
    → HasPort tree (peer_of tree.links r) × (level_at tree (peer_of tree.links r) < level_at tree p)
source-below tree laws p r here there node other =
    let q = peer_of tree.links r in
    let port = laws.peer_port r there in
    let far : p.node.0 ≡ far_node tree.links q = sym (laws.peer_back r there ∙ node) in
    let ne : p ≢ peer_of tree.links q =
    λ e. (let same : is_port r p ≡ true = subst (λ (t : EgressPort). is_port r t ≡ true) (sym (e ∙ laws.peer_twice r there)) (port-itself r) in
    false≢true (sym other ∙ same)) in
    (port, laws.back_falls q p port here far ne)

-- ---- the flow at a port depends on lower levels alone

abbrev pub AgreeBelow : Topology → ℕ → List PortFlow → List PortFlow → Type 0
AgreeBelow tree m one other = (q : EgressPort) → HasPort tree q → level_at tree q < m → flow_at one q ≡ flow_at other q

pub port_flow-same : (s : Setting) → HasPortLaws s.tree → (place : Place) (one other : List PortFlow) → HasPort s.tree place.at
    → AgreeBelow s.tree (level_of s.tree place) one other → port_flow s one place ≡ port_flow s other place
port_flow-same s laws place one other port agree =
    let links = s.tree.links in
    let p = place.at in
    let A : EgressPort → Type 0 = λ r. is_port r p ≡ false → flow_at one (peer_of links r) ≡ flow_at other (peer_of links r) in
    let each = All-weaker (IsPortOf s.tree p.node.0) A
    (λ r h nay. let below = source-below s.tree laws p r port h.0 h.1 nay in agree (peer_of links r) below.0 below.1)
    (ports_at links p.node.0) (ports-are s.tree p.node.0 port.0) in
    ap (λ (t : List FrameCopy). flow_of_copies s.ticks place (changes_at s.changes p) t) (arriving-same links s.frames s.ticks one other place each)

-- ---- all places are ports

place-ports : (tree : Topology) (rates : List Rate) → HasPortLaws tree → (n : ℕ) → HasLink tree n → ArePorts tree (places_of_link tree.links rates n)
place-ports tree rates laws n link =
    let P : Place → Type 0 = λ x. HasPort tree x.at in
    let ends = ends_of tree.links n in
    let rate = get_or rates (n - 1) M100 in
    let a : Place = record { at = ends.0; rate = rate } in
    let b : Place = record { at = ends.1; rate = rate } in
    All-cons P a (b ∷ []) (laws.end_a n link) (All-cons P b [] (laws.end_b n link) (All-nil P))

pub places-are : (tree : Topology) (rates : List Rate) → HasPortLaws tree → ArePorts tree (all_places tree.links rates)
places-are tree rates laws =
    let n = length tree.links in
    let H : ℕ → Type 0 = λ k. HasLink tree k in
    All-flat_map H (λ x. HasPort tree x.at) (places_of_link tree.links rates) (λ k h. place-ports tree rates laws k h) (range_with_len 1 n)
    (λ i d below.
    let few : i < n = omega (arith, below, length-range_with_len 1 n) in
    subst H (sym (get_or-range_with_len 1 n i d few)) (omega arith, omega (arith, few)))

-- ---- the flows that are there, and one more

pub at-index : (places : List Place) (flows : List PortFlow) (k : ℕ) (place : Place) (x : PortFlow) → AreAt places flows → k < length places
    → (get_or flows k x).at ≡ (get_or places k place).at
at-index places flows k place x at below =
    let size : length flows ≡ length places = sym (length-map flows (λ y. y.at)) ∙ ap length at ∙ length-map places (λ y. y.at) in
    sym (get_or-map (λ y. y.at) flows k x place.at (omega (arith, size, below)))
    ∙ ap (λ (t : List EgressPort). get_or t k place.at) at ∙ get_or-map (λ y. y.at) places k place place.at below

pub size-at : (places : List Place) (flows : List PortFlow) → AreAt places flows → length flows ≡ length places
size-at places flows at = sym (length-map flows (λ y. y.at)) ∙ ap length at ∙ length-map places (λ y. y.at)

-- a flow that is put in at its port leaves the lower levels
pub set-apart : (tree : Topology) (flows : List PortFlow) (k : ℕ) (x : PortFlow) (p : EgressPort) → (get_or flows k x).at ≡ p → x.at ≡ p
    → (q : EgressPort) → level_at tree q < level_at tree p → flow_at flows q ≡ flow_at (set flows k x) q
set-apart tree flows k x p old new q lt =
    let apart_q = apart tree p q lt in
    let N : EgressPort → Type 0 = λ t. is_port t q ≡ false in
    sym (find_past (λ y. is_port y.at q) flows k x x (subst N (sym old) apart_q) (subst N (sym new) apart_q))

set-agrees : (tree : Topology) (flows : List PortFlow) (k : ℕ) (x : PortFlow) (p : EgressPort) → (get_or flows k x).at ≡ p → x.at ≡ p
    → AgreeBelow tree (level_at tree p) flows (set flows k x)
set-agrees tree flows k x p old new q port lt = set-apart tree flows k x p old new q lt

pub set-at : (places : List Place) (flows : List PortFlow) (k : ℕ) (x : PortFlow) → (get_or flows k x).at ≡ x.at → AreAt places flows → AreAt places (set flows k x)
set-at places flows k x same at =
    let to : PortFlow → EgressPort = λ y. y.at in
    elim (cases_lt k (length flows)) [
      | inl below ↦ (
          let here : get_or (map to flows) k x.at ≡ x.at = get_or-map to flows k x x.at below ∙ same in
          map-set to flows k x ∙ ap (λ (t : EgressPort). set (map to flows) k t) (sym here) ∙ set-get_or (map to flows) k x.at ∙ at)
      | inr past ↦ ap (λ (t : List PortFlow). map to t) (set_past flows k x past) ∙ at
    ]

-- which place stands for one past the end doesn't matter
before-same : (tree : Topology) (level node k : ℕ) (places : List Place) (j : ℕ) (one other : Place) → j < length places
    → IsGoneOverBefore tree level node k (get_or places j one) j → IsGoneOverBefore tree level node k (get_or places j other) j
before-same tree level node k places j one other few is =
    subst (λ (t : Place). IsGoneOverBefore tree level node k t j) (get_or_default places j one other few) is

-- what is gone over before is of no higher level
before-level : (tree : Topology) (level node k : ℕ) (place : Place) (j : ℕ) → IsGoneOverBefore tree level node k place j → level_of tree place ≤ level
before-level tree level node k place j (inl lower) = omega (arith, lower)
before-level tree level node k place j (inr tied) = omega (arith, tied.0)

-- one more of a node's ports: the others that are gone over before it were so before
before-one-more : (tree : Topology) (level node k : ℕ) (place : Place) (j : ℕ) → j ≢ k → IsGoneOverBefore tree level node (k + 1) place j → IsGoneOverBefore tree level node k place j
before-one-more tree level node k place j ne (inl lower) = inl lower
before-one-more tree level node k place j ne (inr tied) =
    elim tied.1 [ inl below ↦ inr (tied.0, inl below) | inr here ↦ inr (tied.0, inr (here.0, omega (arith, here.1, ne))) ]

pub done-more : (s : Setting) → HasPortLaws s.tree → (places : List Place) (flows : List PortFlow) (level node k : ℕ) (place : Place) (x : PortFlow)
    → ArePorts s.tree places → AreAt places flows → k < length places → level_of s.tree (get_or places k place) ≡ level
    → x ≡ port_flow s flows (get_or places k place) → AreDoneBefore s level node k places flows → AreDoneBefore s level node (k + 1) places (set flows k x)
done-more s laws places flows level node k place x ports at below lvl is done j other few upto y e =
    let here = get_or places k place in
    let size = size-at places flows at in
    let new : x.at ≡ here.at = ap (λ (t : PortFlow). t.at) is in
    let agree : AgreeBelow s.tree (level_of s.tree here) flows (set flows k x) =
    set-agrees s.tree flows k x here.at (at-index places flows k place x at below) new in
    elim (cases_eq j k) [
      | inl same ↦ (
          let F : ℕ → Type 0 = λ i. get_or (set flows k x) i y ≡ port_flow s (set flows k x) (get_or places i e) in
          subst F (sym same)
          (get_or-set_same flows k x y (omega (arith, size, below))
          ∙ is ∙ port_flow-same s laws here flows (set flows k x) (ports k place below) agree
          ∙ ap (λ (t : Place). port_flow s (set flows k x) t) (get_or_default places k place e below)))
      | inr ne ↦ (
          let there = get_or places j e in
          let before = before-one-more s.tree level node k (get_or places j other) j ne upto in
          let low : level_of s.tree there ≤ level = before-level s.tree level node k there j (before-same s.tree level node k places j other e few before) in
          let agree_there : AgreeBelow s.tree (level_of s.tree there) flows (set flows k x) =
          λ q port lt. agree q port (omega (arith, lt, low, lvl)) in
          get_or-set_other flows k j x y ne ∙ done j other few before y e
          ∙ port_flow-same s laws there flows (set flows k x) (ports j e few) agree_there)
    ]

-- it is of another level, or of another node
pub done-skip : (s : Setting) (places : List Place) (flows : List PortFlow) (level node k : ℕ) (place : Place)
    → (level_of s.tree (get_or places k place) ≡ level → (get_or places k place).at.node.0 ≢ node)
    → AreDoneBefore s level node k places flows → AreDoneBefore s level node (k + 1) places flows
done-skip s places flows level node k place unlike done j other few upto =
    elim (cases_eq j k) [
      | inr ne ↦ done j other few (before-one-more s.tree level node k (get_or places j other) j ne upto)
      | inl same ↦ elim upto [
        | inl lower ↦ done j other few (inl lower)
        | inr tied ↦ elim tied.1 [
          | inl below ↦ done j other few (inr (tied.0, inl below))
          | inr here ↦ (
              let F : ℕ → Type 0 = λ i. (level_of s.tree (get_or places i other) ≡ level) × ((get_or places i other).at.node.0 ≡ node) in
              let G : Place → Type 0 = λ t. (level_of s.tree t ≡ level) × (t.at.node.0 ≡ node) in
              let both : F k = subst F same (tied.0, here.0) in
              let now : G (get_or places k place) = subst G (get_or_default places k other place (omega (arith, same, few))) both in absurd (unlike now.0 now.1))
        ]
      ]
    ]

-- all ports of a node are done, and the next node's follow
pub done-node : (s : Setting) (places : List Place) (flows : List PortFlow) (level node : ℕ) → AreDoneBefore s level node (length places) places flows
    → AreDoneBefore s level (node + 1) 0 places flows
done-node s places flows level node done j other few (inl lower) = done j other few (inl lower)
done-node s places flows level node done j other few (inr tied) =
    elim tied.1 [
      | inr none ↦ absurd (omega (arith, none.1))
      | inl upto ↦ elim (cases_lt (get_or places j other).at.node.0 node) [
        | inl below ↦ done j other few (inr (tied.0, inl below))
        | inr here ↦ done j other few (inr (tied.0, inr (omega (arith, upto, here), few)))
      ]
    ]

-- all nodes are done, and the next level follows
pub done-level : (s : Setting) (places : List Place) (flows : List PortFlow) (level node : ℕ) → ArePorts s.tree places → length s.tree.kinds < node
    → AreDoneBefore s level node 0 places flows → AreDoneBefore s (level + 1) 0 0 places flows
done-level s places flows level node ports all done j other few (inl lower) =
    elim (cases_lt (level_of s.tree (get_or places j other)) level) [
      | inl less ↦ done j other few (inl less)
      | inr more ↦ done j other few (inr (omega (arith, lower, more), inl (omega (arith, all, (ports j other few).0.1))))
    ]
done-level s places flows level node ports all done j other few (inr tied) =
    elim tied.1 [ inl below ↦ absurd (omega (arith, below)) | inr none ↦ absurd (omega (arith, none.1)) ]

-- a port's level is at most the number of nodes
level-few : (tree : Topology) (p : EgressPort) → level_at tree p ≤ length tree.kinds
level-few tree p =
    let n = length tree.kinds in
    omega (arith, count_by-le-length (λ y. is_behind tree.links (peer_of tree.links p) y) (range_with_len 1 n), length-range_with_len 1 n)

pub done-all : (s : Setting) (flows : List PortFlow) → AreAt (all_places s.tree.links s.rates) flows
    → AreDoneBefore s (length s.tree.kinds + 1) 0 0 (all_places s.tree.links s.rates) flows → IsFlow s flows
done-all s flows at done =
    let places = all_places s.tree.links s.rates in
    let size = size-at places flows at in
    record {
      each = same_lists flows (map (port_flow s flows) places) (size ∙ sym (length-map places (port_flow s flows)))
          (λ k d below.
          let few : k < length places = omega (arith, size, below) in
          let place : Place = record { at = d.at; rate = M100 } in
          done k place few (inl (omega (arith, level-few s.tree (get_or places k place).at))) d place
          ∙ sym (get_or-map (port_flow s flows) places k place d few));
    }

-- ---- the code's steps

pub level-read : (tree : Topology) (places : List Place) (levels : List ℕ) (k : ℕ) (place : Place) → levels ≡ map (level_of tree) places → k < length places
    → get_or levels k 0 ≡ level_of tree (get_or places k place)
level-read tree places levels k place are below =
    ap (λ (t : List ℕ). get_or t k 0) are ∙ get_or-map (level_of tree) places k place 0 below

-- the flow of this index is put in, which is of the level
pub step-done : (s : Setting) → HasPortLaws s.tree → (places : List Place) (levels : List ℕ) (flows after : List PortFlow) (level node k : ℕ) (place : Place)
    → places ≡ all_places s.tree.links s.rates → levels ≡ map (level_of s.tree) places → AreAt places flows → k < length places → get_or levels k 0 ≡ level
    → after ≡ set flows k (port_flow s flows (get_or places k place)) → AreDoneBefore s level node k places flows
    → AreAt places after × AreDoneBefore s level node (k + 1) places after
step-done s laws places levels flows after level node k place all are at below is made done =
    let x = port_flow s flows (get_or places k place) in
    let ports = subst (λ (t : List Place). ArePorts s.tree t) (sym all) (places-are s.tree s.rates laws) in
    let lvl = sym (level-read s.tree places levels k place are below) ∙ is in
    let put_at = set-at places flows k x (at-index places flows k place x at below) at in
    let put_done = done-more s laws places flows level node k place x ports at below lvl refl done in (
      subst (λ (t : List PortFlow). AreAt places t) (sym made) put_at,
      subst (λ (t : List PortFlow). AreDoneBefore s level node (k + 1) places t) (sym made) put_done,
    )

-- it is of another level or node
pub step-skip : (s : Setting) (places : List Place) (levels : List ℕ) (flows : List PortFlow) (level node k : ℕ) (place : Place) → levels ≡ map (level_of s.tree) places
    → k < length places → (get_or levels k 0 ≡ level → (get_or places k place).at.node.0 ≢ node)
    → AreDoneBefore s level node k places flows → AreDoneBefore s level node (k + 1) places flows
step-skip s places levels flows level node k place are below other done =
    done-skip s places flows level node k place (λ e. other (level-read s.tree places levels k place are below ∙ e)) done

pub all-done : (s : Setting) (places : List Place) (flows : List PortFlow) (level : ℕ) → places ≡ all_places s.tree.links s.rates
    → level ≡ length s.tree.kinds + 1 → AreAt places flows → AreDoneBefore s level 0 0 places flows → IsFlow s flows
all-done s places flows level all last at done =
    done-all s flows (subst (λ (t : List Place). AreAt t flows) all at)
    (subst (λ (n : ℕ). AreDoneBefore s n 0 0 (all_places s.tree.links s.rates) flows) last (subst (λ (t : List Place). AreDoneBefore s level 0 0 t flows) all done))

-- ---- two flows are one

find-map-same : (one other : Place → PortFlow) (q : EgressPort) → ((x : Place) → (one x).at ≡ x.at) → ((x : Place) → (other x).at ≡ x.at) → (places : List Place)
    → All (λ x. is_port x.at q ≡ true → one x ≡ other x) places → flow_at (map one places) q ≡ flow_at (map other places) q
find-map-same one other q at_one at_other [] all = refl
find-map-same one other q at_one at_other (x ∷ xs) all =
    let A : Place → Type 0 = λ y. is_port y.at q ≡ true → one y ≡ other y in
    let rest = find-map-same one other q at_one at_other xs (All-tail A x xs all) in
    let test_one : is_port (one x).at q ≡ is_port x.at q = ap (λ (t : EgressPort). is_port t q) (at_one x) in
    let test_other : is_port (other x).at q ≡ is_port x.at q = ap (λ (t : EgressPort). is_port t q) (at_other x) in
    elim (cases_Bool (is_port x.at q)) [
      | inl is ↦ cond-true (is_port (one x).at q) (Some (one x)) (flow_at (map one xs) q) (test_one ∙ is)
          ∙ ap (λ (t : PortFlow). Some t) (All-head A x xs all is)
          ∙ sym (cond-true (is_port (other x).at q) (Some (other x)) (flow_at (map other xs) q) (test_other ∙ is))
      | inr nay ↦ cond-false (is_port (one x).at q) (Some (one x)) (flow_at (map one xs) q) (test_one ∙ nay) ∙ rest
          ∙ sym (cond-false (is_port (other x).at q) (Some (other x)) (flow_at (map other xs) q) (test_other ∙ nay))
    ]

agree-all : (s : Setting) → HasPortLaws s.tree → (one other : List PortFlow) → IsFlow s one → IsFlow s other → (m : ℕ) → AgreeBelow s.tree m one other
agree-all s laws one other is_one is_other zero q port lt = absurd (omega (arith, lt))
agree-all s laws one other is_one is_other (suc m) q port lt =
    let places = all_places s.tree.links s.rates in
    let before = agree-all s laws one other is_one is_other m in
    let A : Place → Type 0 = λ x. is_port x.at q ≡ true → port_flow s one x ≡ port_flow s other x in
    let each = All-weaker (λ x. HasPort s.tree x.at) A
    (λ x h is.
    let same : level_of s.tree x ≡ level_at s.tree q = ap (λ (t : EgressPort). level_at s.tree t) (same-port x.at q is) in
    port_flow-same s laws x one other h (λ r there less. before r there (omega (arith, less, same, lt)))) places (places-are s.tree s.rates laws) in
    ap (λ (t : List PortFlow). flow_at t q) is_one.each
    ∙ find-map-same (port_flow s one) (port_flow s other) q (λ x. refl) (λ x. refl) places each
    ∙ sym (ap (λ (t : List PortFlow). flow_at t q) is_other.each)

pub one_flow : (s : Setting) → HasPortLaws s.tree → (one other : List PortFlow) → IsFlow s one → IsFlow s other → one ≡ other
one_flow s laws one other is_one is_other =
    let places = all_places s.tree.links s.rates in
    let E : Place → Type 0 = λ x. port_flow s one x ≡ port_flow s other x in
    is_one.each
    ∙ map-same (port_flow s one) (port_flow s other) places
    (All-weaker (λ x. HasPort s.tree x.at) E (λ x h. port_flow-same s laws x one other h (agree-all s laws one other is_one is_other (level_of s.tree x))) places (places-are s.tree s.rates laws))
    ∙ sym is_other.each

-- ---- and there is one: what each port's flow is once those of lower levels are

-- the flows by those of the round before, of which the first has none
flows_after : Setting → ℕ → List PortFlow
flows_after s zero = []
flows_after s (suc n) = map (port_flow s (flows_after s n)) (all_places s.tree.links s.rates)

-- in a round the flows of one level more are as in the next
agree-next : (s : Setting) → HasPortLaws s.tree → (one other : List PortFlow) (m : ℕ) → AgreeBelow s.tree m one other
    → AgreeBelow s.tree (suc m) (map (port_flow s one) (all_places s.tree.links s.rates)) (map (port_flow s other) (all_places s.tree.links s.rates))
agree-next s laws one other m before q port lt =
    let places = all_places s.tree.links s.rates in
    let A : Place → Type 0 = λ x. is_port x.at q ≡ true → port_flow s one x ≡ port_flow s other x in
    let each = All-weaker (λ x. HasPort s.tree x.at) A
    (λ x h is.
    let same : level_of s.tree x ≡ level_at s.tree q = ap (λ (t : EgressPort). level_at s.tree t) (same-port x.at q is) in
    port_flow-same s laws x one other h (λ r there less. before r there (omega (arith, less, same, lt)))) places (places-are s.tree s.rates laws) in
    find-map-same (port_flow s one) (port_flow s other) q (λ x. refl) (λ x. refl) places each

agree-after : (s : Setting) → HasPortLaws s.tree → (n : ℕ) → AgreeBelow s.tree n (flows_after s n) (flows_after s (suc n))
unfolding flows_after
agree-after s laws zero = λ q port lt. absurd (omega (arith, lt))
agree-after s laws (suc n) = agree-next s laws (flows_after s n) (flows_after s (suc n)) n (agree-after s laws n)

-- after as many rounds as there are levels nothing changes
pub some_flow : (s : Setting) → HasPortLaws s.tree → (flows : List PortFlow) × IsFlow s flows
unfolding flows_after
some_flow s laws =
    let n = length s.tree.kinds + 1 in
    let places = all_places s.tree.links s.rates in
    let one = flows_after s n in
    let other = map (port_flow s one) places in
    let E : Place → Type 0 = λ x. port_flow s one x ≡ port_flow s other x in
    let agree : AgreeBelow s.tree n one other = agree-after s laws n in
    let each = All-weaker (λ x. HasPort s.tree x.at) E
    (λ x h. port_flow-same s laws x one other h (λ q port lt. agree q port (omega (arith, lt, level-few s.tree x.at)))) places (places-are s.tree s.rates laws) in
    (other, record { each = map-same (port_flow s one) (port_flow s other) places each })
