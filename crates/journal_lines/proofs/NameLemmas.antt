-- The names of two ports of a node differ, and no name has a space or a line feed in it.
use Rattle.std.proofs.Common.{◌≡◌, ◌≢◌, inl, inr, ℕ, suc, ◌-◌, ◌<◌, ◌≤◌, Bool, true, false, ◌&&◌, List, [], ◌∷◌, ◌++◌, length, get_or, refl, sym, ap, subst, ◌∙◌, append_assoc, arith}
use Rattle.std.specs.Prelude.{slice_get, Option, ◌==◌, if◌then◌else◌, codes}
use Rattle.std.specs.{Option.option_map_or, List.AllByRecursion, List.list_all}
use Rattle.std.proofs.lemmas.{Bool.Decides.nat_tests, Bool.cases_lt, List.append-nil, Option.slice_get-get_or}
use Rattle.srp_base.proofs.Lists.{behind_same}
use Rattle.srp_base.specs.Text.{whole_of}
use Rattle.srp_base.specs.declared.{numbers.NodeNo.NodeNo, numbers.EgressPort.EgressPort}
use Rattle.tree_topology.specs.declared.graph.Link.{Link}
use Rattle.tree_topology.specs.{Topology.Topology, Topology.HasPort, Ports.peer_of, Ports.port_to, Ports.far_node, PortLaws.HasPortLaws}
use Rattle.topology_file.specs.declared.entries.NodeEntry.{NodeEntry}
use Rattle.topology_file.specs.{Entries.is_name_char, Plan.Plan, Scenario.KeepsRules, Scenario.node_kinds}
use Rattle.report_words.specs.Names.{name_of, port_name}

-- ---- texts without a certain octet

abbrev pub Lacks : ℕ → List ℕ → Type 0
Lacks c xs = AllByRecursion (λ x. x ≢ c) xs

-- two texts that end before the first octet of a kind are one where what begins with them is
cut_same : (c : ℕ) (xs ys a b : List ℕ) → Lacks c xs → Lacks c ys → xs ++ c ∷ a ≡ ys ++ c ∷ b → xs ≡ ys
cut_same c [] [] a b no_x no_y e = refl
cut_same c [] (y ∷ ys) a b no_x no_y e = let same : c ≡ y = cc in absurd (no_y.0 (sym same))
cut_same c (x ∷ xs) [] a b no_x no_y e = let same : x ≡ c = cc in absurd (no_x.0 same)
cut_same c (x ∷ xs) (y ∷ ys) a b no_x no_y e =
    let first : x ≡ y = cc in
    let rest : xs ++ c ∷ a ≡ ys ++ c ∷ b = cc in
    let later = cut_same c xs ys a b no_x.1 no_y.1 rest in
    cc

-- ---- names

-- no octet of a name is a space or a line feed
char_is : (c : ℕ) → is_name_char c ≡ true → (c ≢ 32) × (c ≢ 10)
char_is c h = ((λ e. grind (arith, nat_tests, h, e)), (λ e. grind (arith, nat_tests, h, e)))

chars_are : (xs : List ℕ) → list_all is_name_char xs ≡ true → Lacks 32 xs × Lacks 10 xs
chars_are [] h = (tt, tt)
chars_are (x ∷ xs) h =
    let both = and_true (is_name_char x) (list_all is_name_char xs) h in
    let here = char_is x both.0 in
    let later = chars_are xs both.1 in
    ((here.0, later.0), (here.1, later.1))
  where
    and_true : (a b : Bool) → (a && b) ≡ true → (a ≡ true) × (b ≡ true)
    and_true true b h = (refl, h)
    and_true false b h = cc

named : (nodes : List NodeEntry) (x : NodeNo) → 1 ≤ x.0 → x.0 ≤ length nodes → (e : NodeEntry) → name_of nodes x ≡ (get_or nodes (x.0 - 1) e).name
named nodes x first last e =
    let other : (x.0 == 0) ≡ false = grind (arith, nat_tests, first) in
    ap (λ (b : Bool). if b then [] else option_map_or (λ (n : NodeEntry). n.name) (slice_get nodes (x.0 - 1)) []) other
    ∙ ap (λ (o : Option NodeEntry). option_map_or (λ (n : NodeEntry). n.name) o []) (slice_get-get_or nodes (x.0 - 1) e (omega (arith, first, last)))

some_entry : (nodes : List NodeEntry) → 1 ≤ length nodes → NodeEntry
some_entry [] h = absurd (omega (arith, h))
some_entry (n ∷ nodes) h = n

module _ (plan : Plan) (rules : KeepsRules plan) where
  -- a name of a node that there is
  name_chars : (x : NodeNo) → 1 ≤ x.0 → x.0 ≤ length plan.nodes → Lacks 32 (name_of plan.nodes x) × Lacks 10 (name_of plan.nodes x)
  name_chars x first last =
      let e : NodeEntry = some_entry plan.nodes (omega (arith, first, last)) in
      let lt : x.0 - 1 < length plan.nodes = omega (arith, first, last) in
      let form = rules.node_forms (x.0 - 1) e lt in
      let own = get_or plan.nodes (x.0 - 1) e in
      let chars = chars_are own.name (second _ _ form) in
      let is = sym (named plan.nodes x first last e) in
      (subst (Lacks 32) is chars.0, subst (Lacks 10) is chars.1)
    where
      second : (a b : Bool) → (a && b) ≡ true → b ≡ true
      second true b h = h
      second false b h = cc

  names_tell : (x y : NodeNo) → 1 ≤ x.0 → x.0 ≤ length plan.nodes → 1 ≤ y.0 → y.0 ≤ length plan.nodes
      → name_of plan.nodes x ≡ name_of plan.nodes y → x.0 ≡ y.0
  names_tell x y first last first' last' e =
      let d : NodeEntry = some_entry plan.nodes (omega (arith, first, last)) in
      let same = sym (named plan.nodes x first last d) ∙ (e ∙ named plan.nodes y first' last' d) in
      elim (cases_lt x.0 y.0) [
        | inl lt ↦ absurd (rules.names (x.0 - 1) (y.0 - 1) d (omega (arith, lt, first)) (omega (arith, first', last')) same)
        | inr ge ↦ elim (cases_lt y.0 x.0) [
          | inl lt ↦ absurd (rules.names (y.0 - 1) (x.0 - 1) d (omega (arith, lt, first')) (omega (arith, first, last)) (sym same))
          | inr le ↦ omega (arith, ge, le)
        ]
      ]

  kinds_are : length plan.tree.kinds ≡ length plan.nodes
  kinds_are = ap (λ (r : Topology). length r.kinds) rules.tree ∙ many plan.nodes
    where
      many : (nodes : List NodeEntry) → length (node_kinds nodes) ≡ length nodes
      many [] = refl
      many (n ∷ nodes) = ap suc (many nodes)

  module _ (laws : HasPortLaws plan.tree) where
    -- the number of a port's peer is that of a node
    peer_known : (p : EgressPort) → HasPort plan.tree p → (1 ≤ (peer_of plan.tree.links p).node.0) × ((peer_of plan.tree.links p).node.0 ≤ length plan.nodes)
    peer_known p has =
        let there = laws.peer_port p has in
        let many = kinds_are in
        let last = there.0.1 in
        (there.0.0, omega (arith, last, many))

    own_known : (p : EgressPort) → HasPort plan.tree p → (1 ≤ p.node.0) × (p.node.0 ≤ length plan.nodes)
    own_known p has =
        let many = kinds_are in
        let last = has.0.1 in
        (has.0.0, omega (arith, last, many))

    -- no name of a port has a line feed
    pub port_plain : (p : EgressPort) → HasPort plan.tree p → Lacks 10 (port_name plan.nodes plan.tree.links p)
    port_plain p has =
        let k = own_known p has in
        let l = peer_known p has in
        plain_three (name_of plan.nodes p.node) (name_of plan.nodes (peer_of plan.tree.links p).node) (name_chars p.node k.0 k.1).1 (name_chars (peer_of plan.tree.links p).node l.0 l.1).1
      where
        append : (xs ys : List ℕ) → Lacks 10 xs → Lacks 10 ys → Lacks 10 (xs ++ ys)
        append [] ys h k = k
        append (x ∷ xs) ys h k = (h.0, append xs ys h.1 k)

        plain_three : (near far : List ℕ) → Lacks 10 near → Lacks 10 far → Lacks 10 (whole_of (near ∷ codes ">" ∷ far ∷ []))
        plain_three near far h k = append near (codes ">" ++ (far ++ [])) h ((λ e. absurd (omega (arith, e))), subst (Lacks 10) (sym (append-nil far)) k)

    -- ports of one node with one name are one, whatever follows a space behind the name
    pub ports_tell : (p q : EgressPort) (a b : List ℕ) → HasPort plan.tree p → HasPort plan.tree q → p.node ≡ q.node
        → port_name plan.nodes plan.tree.links p ++ 32 ∷ a ≡ port_name plan.nodes plan.tree.links q ++ 32 ∷ b → p ≡ q
    ports_tell p q a b has has' same e =
        let links : List Link = plan.tree.links in
        let far : List ℕ = name_of plan.nodes (peer_of links p).node in
        let far' : List ℕ = name_of plan.nodes (peer_of links q).node in
        let near : List ℕ = name_of plan.nodes p.node in
        let left : port_name plan.nodes links p ++ 32 ∷ a ≡ near ++ (62 ∷ (far ++ 32 ∷ a)) = spelled near far (32 ∷ a) in
        let right : port_name plan.nodes links q ++ 32 ∷ b ≡ near ++ (62 ∷ (far' ++ 32 ∷ b)) =
        spelled (name_of plan.nodes q.node) far' (32 ∷ b) ∙ ap (λ (n : NodeNo). name_of plan.nodes n ++ (62 ∷ (far' ++ 32 ∷ b))) (sym same)
        in
        let behind : 62 ∷ (far ++ 32 ∷ a) ≡ 62 ∷ (far' ++ 32 ∷ b) = behind_same near _ _ (sym left ∙ (e ∙ right)) in
        let rest : far ++ 32 ∷ a ≡ far' ++ 32 ∷ b = cc in
        let k = peer_known p has in
        let k' = peer_known q has' in
        let names : far ≡ far' = cut_same 32 far far' a b (name_chars (peer_of links p).node k.0 k.1).0 (name_chars (peer_of links q).node k'.0 k'.1).0 rest in
        let number : far_node links p ≡ far_node links q = names_tell (peer_of links p).node (peer_of links q).node k.0 k.1 k'.0 k'.1 names in
        laws.port_is p has
        ∙ (ap (λ (n : NodeNo). port_to links n.0 (far_node links p)) same
        ∙ (ap (λ (v : ℕ). port_to links q.node.0 v) number ∙ sym (laws.port_is q has')))
      where
        spelled : (near far rest : List ℕ) → whole_of (near ∷ codes ">" ∷ far ∷ []) ++ rest ≡ near ++ (62 ∷ (far ++ rest))
        spelled near far rest =
            append_assoc near (codes ">" ++ (far ++ [])) rest
            ∙ ap (λ (xs : List ℕ). near ++ (62 ∷ (xs ++ rest))) (append-nil far)
