-- What every scenario keeps of its nodes, links and tree, from the rules that its table passed.
use Rattle.std.proofs.Common.{◌≡◌, ◌≢◌, ◌⊎◌, inl, inr, ℕ, ◌+◌, ◌-◌, ◌*◌, ◌^◌, ◌<◌, ◌≤◌, Bool, true, false, ◌&&◌, List, [], Option, Some, None, option_map, Ok, refl, sym, ap, subst, ◌∙◌, length, get_or, take, get_or-take, eqb, leb-true, ltb-false, IfSome, IfOk, arith}
use Rattle.std.proofs.lemmas.{Bool.and_parts, Bool.false≢true, Bool.Decides.nat_tests, List.length-take-le, List.Elements.All-weaker, List.Folds.list_any_at, Map.Lookups.exact_bytes}
use Rattle.std.specs.{declared.cmp.Ordering.Ordering, declared.cmp.Ordering.TheVariants.Less, declared.cmp.Ordering.TheVariants.Equal, declared.cmp.Ordering.TheVariants.Greater, Ordering.nat_cmp, Ordering.match_ordering, Cmp.Lexicographic.pointwise, Cmp.Lexicographic.slice_cmp, Cmp.Lexicographic.bytes_decides, List.All, List.list_any}
use Rattle.std.specs.Prelude.{AllPairs, ◌↔◌, nat_le, nat_eq, codes}
use Rattle.srp_base.proofs.Options.{opened as some-says}
use Rattle.srp_base.specs.declared.numbers.NodeNo.{NodeNo}
use Rattle.srp_base.specs.{Firsts.first_where, Hexadecimal.hex16}
use Rattle.srp_base.proofs.FirstLemmas.{where-some, where-none}
use Rattle.toml.specs.Data.{Data, Members, no_members, member, get_member, as_str}
use Rattle.toml_rules.specs.{Fields.or_default, Fields.number_or, Fields.text, Fields.is_known, Fields.has_only, Rules.each_entry, Shares.share_at, Shares.shares_at}
use Rattle.tree_topology.specs.{Topology.Topology, Topology.IsSound, Graph.IsNode, Ports.neighbours, Refusal.refusal, Refusal.is_station}
use Rattle.tree_topology.specs.declared.{graph.Link.Link, graph.TreeErr.TreeErr}
use Rattle.topology_file.specs.{DomainWord, Both, NodeEntry, LinkEntry, is_name, name_of_text, name_at, kind_at, id_of_data, id_at, domain_of_data, domain_at, node_keys, node_entry, has_name, node_no, node_named, station_named, link_keys, rate_at, latency_at, link_between, link_form, IsStationNumber, has_name_of, has_id_of, is_small, nodes_of, links_of, tree_links, node_kinds, topology_of, unless_refused, tree_of, is_crowded}
use Rattle.topology_file.proofs.{Chains.and_then-if, Chains.when-if, Chains.within-range, Chains.chain-if, Chains.chain-holds, Chains.chain-none, Chains.ok-says, Chains.an_element, Chains.ok-both, Chains.each-all, Chains.each-numbered, HexRanges.hex16-range}

-- no condition on an entry
abbrev pub Any : {A : Type 0} → A → Type 0
Any x = Unit {0}

pub all-any : {A : Type 0} (xs : List A) → All (λ (x : A). Any x) xs
all-any xs i d lt = tt

-- ---- nodes

pub name-form : (key : List ℕ) (ms : Members) → IfSome (name_at key ms) (λ name. is_name name ≡ true)
name-form key ms =
    and_then-if (λ name. is_name name ≡ true) name_of_text (text key ms) (λ word is.
    when-if (λ name. is_name name ≡ true) (is_name word) (Some word) (λ e. e))

node-form : (domains : Bool) (n : ℕ) (ms : Members) → IfSome (node_entry domains n ms) (λ x. is_name x.name ≡ true)
node-form domains n ms =
    let P : NodeEntry → Type 0 = λ x. is_name x.name ≡ true in
    when-if P (has_only (node_keys domains) ms) _ (λ _.
    and_then-if P _ (name_at (codes "name") ms) (λ name en.
    and_then-if P _ (kind_at ms) (λ kind ek.
    and_then-if P _ (id_at n ms) (λ id ei.
    and_then-if P _ (domain_at ms) (λ domain ed.
    some-says (λ w. is_name w ≡ true) (name_at (codes "name") ms) name en (name-form (codes "name") ms))))))

-- a table of known keys alone has nothing at another key
member-known : (known : List (List ℕ)) (key : List ℕ) (ms : Members) → is_known known key ≡ false → has_only known ms ≡ true → get_member key ms ≡ None
member-known known key no_members other only = refl
member-known known key (member k d ms) other only =
    let p = and_parts (is_known known k) (has_only known ms) only in
    by (slice_cmp nat_cmp key k) refl p.0 (member-known known key ms other p.1)
  where
    by : (o : Ordering) → slice_cmp nat_cmp key k ≡ o → is_known known k ≡ true → get_member key ms ≡ None → match_ordering o (get_member key ms) (Some d) (get_member key ms) ≡ None
    by Less is has rest = rest
    by Equal is has rest =
        let same : key ≡ k = exact_bytes key k is in
        let F : List ℕ → Type 0 = λ c. is_known known c ≡ true in
        absurd (false≢true (sym other ∙ subst F (sym same) has))
    by Greater is has rest = rest

-- without domains a node has no word of its own
node-word : (domains : Bool) (n : ℕ) (ms : Members) → IfSome (node_entry domains n ms) (λ x. domains ≡ false → x.domain ≡ Both)
node-word domains n ms =
    let P : NodeEntry → Type 0 = λ x. domains ≡ false → x.domain ≡ Both in
    when-if P (has_only (node_keys domains) ms) _ (λ only.
    and_then-if P _ (name_at (codes "name") ms) (λ name en.
    and_then-if P _ (kind_at ms) (λ kind ek.
    and_then-if P _ (id_at n ms) (λ id ei.
    and_then-if P _ (domain_at ms) (λ domain ed off.
    (let F : Bool → Type 0 = λ d. has_only (node_keys d) ms ≡ true in
    let missing = member-known (node_keys false) (codes "domain") ms refl (subst F off only) in
    let read : Option Data → Option DomainWord = λ o. or_default Both domain_of_data o in
    let one : domain_at ms ≡ Some Both = ap read missing in
    let same : Some domain ≡ Some Both = sym ed ∙ one in
    cc))))))

-- an id is that of its digits, or the entry's number
abbrev IsIdOf : ℕ → NodeEntry → Type 0
IsIdOf n x = (x.id.0 < 2 ^ 64) ⊎ (x.id.0 < n)

id-later : (j k : ℕ) (x : NodeEntry) → j ≤ k → IsIdOf j x → IsIdOf k x
id-later j k x le (inl small) = inl small
id-later j k x le (inr below) = inr (omega (arith, le, below))

node-id : (domains : Bool) (n : ℕ) (ms : Members) → IfSome (node_entry domains n ms) (IsIdOf (n + 1))
node-id domains n ms =
    when-if (IsIdOf (n + 1)) (has_only (node_keys domains) ms) _ (λ _.
    and_then-if (IsIdOf (n + 1)) _ (name_at (codes "name") ms) (λ name en.
    and_then-if (IsIdOf (n + 1)) _ (kind_at ms) (λ kind ek.
    and_then-if (IsIdOf (n + 1)) _ (id_at n ms) (λ id ei.
    and_then-if (IsIdOf (n + 1)) _ (domain_at ms) (λ domain ed.
    some-says (λ i. (i < 2 ^ 64) ⊎ (i < n + 1)) (id_at n ms) id ei (by (get_member (codes "id") ms)))))))
  where
    by : (o : Option Data) → IfSome (or_default n id_of_data o) (λ i. (i < 2 ^ 64) ⊎ (i < n + 1))
    by None = inr (omega arith)
    by (Some d) = and_then-if (λ i. (i < 2 ^ 64) ⊎ (i < n + 1)) hex16 (as_str d) (λ digits e. below (hex16 digits) (hex16-range digits))
      where
        below : (o : Option ℕ) → IfSome o (λ i. i < 2 ^ 64) → IfSome o (λ i. (i < 2 ^ 64) ⊎ (i < n + 1))
        below None h = tt
        below (Some i) h = inl h

id-fits : (n : ℕ) (x : NodeEntry) → n ≤ 65 → IsIdOf n x → x.id.0 < 2 ^ 64
id-fits n x few (inl small) = small
id-fits n x few (inr below) = omega (arith, few, below)

pub record NodesKeep (ticks : ℕ) (domains : Bool) (nodes : List NodeEntry) : Type 0 where
  pub forms : All (λ x. is_name x.name ≡ true) nodes
  pub words : All (λ x. domains ≡ false → x.domain ≡ Both) nodes
  pub numbers : All (IsIdOf (1 + length nodes)) nodes
  pub small : is_small ticks nodes ≡ true
  pub names : first_where has_name_of [] nodes ≡ None
  pub ids : first_where has_id_of [] nodes ≡ None

pub nodes-keep : (ticks : ℕ) (domains : Bool) (entries : List Members) → IfOk (nodes_of ticks domains entries) (NodesKeep ticks domains)
nodes-keep ticks domains entries =
    let P = NodesKeep ticks domains in
    let F : NodeEntry → Type 0 = λ x. is_name x.name ≡ true in
    let W : NodeEntry → Type 0 = λ x. domains ≡ false → x.domain ≡ Both in
    let N : List NodeEntry → Type 0 = λ nodes. All (IsIdOf (1 + length nodes)) nodes in
    let forms = each_entry 4 (node_entry domains) 1 entries in
    chain-if P (λ nodes. All F nodes × (All W nodes × N nodes)) forms _
    (ok-both (All F) (λ nodes. All W nodes × N nodes) forms
    (each-all Any F 4 (node_entry domains) (λ n x _. node-form domains n x) 1 entries (all-any entries))
    (ok-both (All W) N forms
    (each-all Any W 4 (node_entry domains) (λ n x _. node-word domains n x) 1 entries (all-any entries))
    (each-numbered IsIdOf 4 (node_entry domains) id-later (node-id domains) 1 entries))) (λ nodes forms.
    chain-holds P 5 (is_small ticks nodes) _ (λ small.
    chain-none P 6 (first_where has_name_of [] nodes) _ (λ names.
    chain-none P 7 (first_where has_id_of [] nodes) _ (λ ids. record { forms = forms.0; words = forms.1.0; numbers = forms.1.1; small = small; names = names; ids = ids }))))

pub small-parts : (ticks : ℕ) (nodes : List NodeEntry) → is_small ticks nodes ≡ true
    → (2 ≤ length nodes) × (length nodes ≤ 64) × (length nodes * ticks ≤ 400000)
small-parts ticks nodes e =
    let n = length nodes in
    let p = and_parts (nat_le 2 n && nat_le n 64) (nat_le (n * ticks) 400000) e in
    let q = and_parts (nat_le 2 n) (nat_le n 64) p.0 in
    (leb-true 2 n q.0, leb-true n 64 q.1, leb-true (n * ticks) 400000 p.1)

-- no more nodes are read than a scenario may have
pub few-nodes : (ticks : ℕ) (domains : Bool) (nodes : List NodeEntry) (entries : List Members) → nodes_of ticks domains entries ≡ Ok nodes → length nodes ≤ 64
few-nodes ticks domains nodes entries is =
    let keep = ok-says (NodesKeep ticks domains) (nodes_of ticks domains entries) nodes is (nodes-keep ticks domains entries) in
    (small-parts ticks nodes keep.small).1

-- few nodes have ids of 64 bits
pub ids-fit : (ticks : ℕ) (domains : Bool) (nodes : List NodeEntry) → NodesKeep ticks domains nodes → All (λ x. x.id.0 < 2 ^ 64) nodes
ids-fit ticks domains nodes n =
    let few = (small-parts ticks nodes n.small).1 in
    All-weaker (IsIdOf (1 + length nodes)) (λ x. x.id.0 < 2 ^ 64) (λ x h. id-fits (1 + length nodes) x (omega (arith, few)) h) nodes n.numbers

pub eqb-same : (a b : ℕ) → a ≡ b → eqb a b ≡ true
eqb-same a b e = grind (arith, nat_tests)

-- where no earlier element passes a test with an element, no two elements pass it
pub pairs-none : {A : Type 0} (test : A → A → Bool) (xs : List A) → first_where (λ earlier x. list_any (λ y. test y x) earlier) [] xs ≡ None
    → (i j : ℕ) (d : A) → i < j → j < length xs → test (get_or xs i d) (get_or xs j d) ≢ true
pairs-none test xs e i j d lt inside t =
    let x = get_or xs j d in
    let none = where-none (λ earlier x. list_any (λ y. test y x) earlier) xs e j d inside in
    let short : i < length (take j xs) = omega (arith, lt, length-take-le j xs (omega (arith, inside))) in
    let at : get_or (take j xs) i d ≡ get_or xs i d = get_or-take j xs i d lt in
    false≢true (sym none ∙ list_any_at (λ y. test y x) (take j xs) i d short (ap (λ y. test y x) at ∙ t))

pub names-differ : (nodes : List NodeEntry) → first_where has_name_of [] nodes ≡ None → AllPairs (λ x y. x.name ≢ y.name) nodes
names-differ nodes e i j d lt inside same =
    pairs-none (λ (y x : NodeEntry). pointwise nat_eq y.name x.name) nodes e i j d lt inside ((bytes_decides (get_or nodes i d).name (get_or nodes j d).name).1 same)

pub ids-differ : (nodes : List NodeEntry) → first_where has_id_of [] nodes ≡ None → AllPairs (λ x y. x.id.0 ≢ y.id.0) nodes
ids-differ nodes e i j d lt inside same =
    pairs-none (λ (y x : NodeEntry). eqb y.id.0 x.id.0) nodes e i j d lt inside (eqb-same (get_or nodes i d).id.0 (get_or nodes j d).id.0 same)

-- ---- links

shares-together : (ms : Members) → IfSome (shares_at ms) (λ s. s.0 + s.1 ≤ 90)
shares-together ms =
    let P : ℕ × ℕ → Type 0 = λ s. s.0 + s.1 ≤ 90 in
    and_then-if P _ (share_at (codes "delta_a") 75 ms) (λ a ea.
    and_then-if P _ (share_at (codes "delta_b") 0 ms) (λ b eb.
    when-if P (nat_le (a + b) 90) (Some (a, b)) (λ e. leb-true (a + b) 90 e)))

latency-range : (ms : Members) → IfSome (latency_at ms) (λ n. (0 ≤ n) × (n ≤ 4294967295))
latency-range ms = within-range 0 4294967295 (number_or (codes "latency") 0 ms)

-- the range of a link's numbers
abbrev pub HasShares : LinkEntry → Type 0
HasShares l = (l.delta_a + l.delta_b ≤ 90) × (l.latency < 2 ^ 32)

-- the number of a name is a node of this name
pub name-first : (test : NodeEntry → Bool) (nodes : List NodeEntry) (o : Option ℕ) → first_where (λ earlier x. test x) [] nodes ≡ o
    → IfSome (option_map node_no o) (λ x. IsNode (length nodes) x.0 × ((d : NodeEntry) → test (get_or nodes (x.0 - 1) d) ≡ true))
name-first test nodes None e = tt
name-first test nodes (Some n) e =
    let f = where-some (λ (earlier : List NodeEntry) (x : NodeEntry). test x) nodes n e in
    let back : f.place ≡ n - 1 = omega (arith, f.number) in
    ((omega (arith, f.number), omega (arith, f.number, f.inside)), (λ d. ap (λ (i : ℕ). test (get_or nodes i d)) (sym back) ∙ f.passes d))

pub node-known : (name : List ℕ) (nodes : List NodeEntry) → IfSome (node_named nodes name) (λ x. IsNode (length nodes) x.0)
node-known name nodes = first-part _ (name-first (has_name name) nodes (first_where (λ earlier x. has_name name x) [] nodes) refl)
  where
    first-part : (o : Option NodeNo) → IfSome o (λ x. IsNode (length nodes) x.0 × ((d : NodeEntry) → has_name name (get_or nodes (x.0 - 1) d) ≡ true)) → IfSome o (λ x. IsNode (length nodes) x.0)
    first-part None h = tt
    first-part (Some x) h = h.0

pub station-known : (name : List ℕ) (nodes : List NodeEntry) → IfSome (station_named nodes name) (λ x. IsStationNumber nodes x.0)
station-known name nodes = by _ (name-first (λ x. has_name name x && is_station x.kind) nodes (first_where (λ earlier x. has_name name x && is_station x.kind) [] nodes) refl)
  where
    by : (o : Option NodeNo)
        → IfSome o (λ x. IsNode (length nodes) x.0 × ((d : NodeEntry) → (has_name name (get_or nodes (x.0 - 1) d) && is_station (get_or nodes (x.0 - 1) d).kind) ≡ true))
        → IfSome o (λ x. IsStationNumber nodes x.0)
    by None h = tt
    by (Some x) h = (h.0, (λ d. (and_parts (has_name name (get_or nodes (x.0 - 1) d)) (is_station (get_or nodes (x.0 - 1) d).kind) (h.1 d)).1))

-- the facts of a link between nodes
abbrev pub IsKnownLink : List NodeEntry → LinkEntry → Type 0
IsKnownLink nodes l = HasShares l × IsNode (length nodes) l.a.0 × IsNode (length nodes) l.b.0

link-between : (nodes : List NodeEntry) (from to : List ℕ) (rate : _) (shares : ℕ × ℕ) (latency : ℕ) → shares.0 + shares.1 ≤ 90 → latency < 2 ^ 32
    → IfSome (link_between nodes from to rate shares latency) (IsKnownLink nodes)
link-between nodes from to rate shares latency s l =
    and_then-if (IsKnownLink nodes) _ (node_named nodes from) (λ a ea.
    and_then-if (IsKnownLink nodes) _ (node_named nodes to) (λ b eb. (
      (s, l),
      some-says (λ x. IsNode (length nodes) x.0) (node_named nodes from) a ea (node-known from nodes),
      some-says (λ x. IsNode (length nodes) x.0) (node_named nodes to) b eb (node-known to nodes),
    )))

link-form : (nodes : List NodeEntry) (n : ℕ) (ms : Members) → IfSome (link_form nodes n ms) (λ o. IfSome o (IsKnownLink nodes))
link-form nodes n ms =
    let P : Option LinkEntry → Type 0 = λ o. IfSome o (IsKnownLink nodes) in
    when-if P (has_only link_keys ms) _ (λ _.
    and_then-if P _ (name_at (codes "a") ms) (λ a ea.
    and_then-if P _ (name_at (codes "b") ms) (λ b eb.
    and_then-if P _ (rate_at ms) (λ rate er.
    and_then-if P _ (shares_at ms) (λ shares es.
    and_then-if P _ (latency_at ms) (λ latency el.
    (let m = some-says (λ n. (0 ≤ n) × (n ≤ 4294967295)) (latency_at ms) latency el (latency-range ms) in
    link-between nodes a b rate shares latency (some-says (λ s. s.0 + s.1 ≤ 90) (shares_at ms) shares es (shares-together ms)) (omega (arith, m.1)))))))))

pub links-keep : (nodes : List NodeEntry) (entries : List Members) → IfOk (links_of nodes entries) (All (IsKnownLink nodes))
links-keep nodes entries =
    let P : List LinkEntry → Type 0 = λ ls. All (IsKnownLink nodes) ls in
    let F : Option LinkEntry → Type 0 = λ o. IfSome o (IsKnownLink nodes) in
    chain-if P (All F) (each_entry 8 (link_form nodes) 1 entries) _ (each-all Any F 8 (link_form nodes) (λ n x _. link-form nodes n x) 1 entries (all-any entries)) (λ forms known.
    each-all F (IsKnownLink nodes) 9 (λ n form. form) (λ n form h. h) 1 forms known)

-- the links that were read lead to nodes
pub links-known : (nodes : List NodeEntry) (links : List LinkEntry) (entries : List Members) → links_of nodes entries ≡ Ok links
    → All (λ l. IsNode (length nodes) l.a.0 × IsNode (length nodes) l.b.0) links
links-known nodes links entries is =
    let all = ok-says (All (IsKnownLink nodes)) (links_of nodes entries) links is (links-keep nodes entries) in
    All-weaker (IsKnownLink nodes) (λ l. IsNode (length nodes) l.a.0 × IsNode (length nodes) l.b.0) (λ l h. (h.1, h.2)) links all

-- ---- the tree

-- what the tree's crate says of a tree that isn't refused
abbrev pub AcceptedLaw : Type 0
AcceptedLaw = (tree : Topology) → refusal tree.kinds tree.links ≡ None ↔ IsSound tree

tree-passed : (tree : Topology) (o : Option TreeErr) → IfOk (unless_refused tree o) (λ t. (t ≡ tree) × (o ≡ None))
tree-passed tree None = (refl, refl)
tree-passed tree (Some e) = tt

pub tree-keeps : (nodes : List NodeEntry) (links : List LinkEntry)
    → IfOk (tree_of nodes links) (λ t. (t ≡ topology_of nodes links) × (refusal (node_kinds nodes) (tree_links links) ≡ None))
tree-keeps nodes links = tree-passed (topology_of nodes links) (refusal (node_kinds nodes) (tree_links links))

-- the number behind those before a node
place-of : (nodes : List NodeEntry) (x : ℕ) → IsNode (length nodes) x → length (take (x - 1) nodes) + 1 ≡ x
place-of nodes x k = let short : x - 1 ≤ length nodes = omega (arith, k.0, k.1) in omega (arith, length-take-le (x - 1) nodes short, k.0)

pub few-links : (nodes : List NodeEntry) (links : List Link) → first_where (is_crowded links) [] nodes ≡ None
    → (x : ℕ) → IsNode (length nodes) x → length (neighbours links x) ≤ 16
few-links nodes links e x k =
    let i = x - 1 in
    let inside : i < length nodes = omega (arith, k.0, k.1) in
    let d = an_element nodes i inside in
    let F : ℕ → Type 0 = λ t. length (neighbours links t) ≤ 16 in
    subst F (place-of nodes x k) (ltb-false 16 (length (neighbours links (length (take i nodes) + 1))) (where-none (is_crowded links) nodes e i d inside))
