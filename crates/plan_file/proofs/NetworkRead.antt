-- The tables of nodes and links are read as these nodes and links.
use Rattle.std.proofs.Common.{◌≡◌, ◌≢◌, ◌∙◌, ℕ, ◌+◌, ◌-◌, ◌<◌, ◌≤◌, ◌^◌, Bool, true, false, nat_le, List, [], ◌∷◌, map, length, Option, Some, None, option_and_then, Ok, refl, sym, ap, le-leb, arith}
use Rattle.std.specs.List.{All}
use Rattle.std.specs.Prelude.{AllPairs, codes}
use Rattle.srp_base.specs.Bandwidth.{rate_of_mbit}
use Rattle.srp_base.specs.declared.bandwidth.{Rate.Rate, Rate.TheVariants.M100, Rate.TheVariants.G1, Rate.TheVariants.G10}
use Rattle.srp_base.specs.declared.numbers.NodeNo.{NodeNo}
use Rattle.toml.specs.Data.{Members}
use Rattle.toml_rules.specs.{Fields.has_only, Fields.text, Rules.each_entry, Shares.share_at, Shares.shares_at}
use Rattle.tree_topology.specs.Graph.{IsNode}
use Rattle.tree_topology.specs.declared.graph.NodeKind.{NodeKind, TheVariants.Station, TheVariants.Bridge}
use Rattle.topology_file.specs.{declared.entries.DomainWord.TheVariants.Both, declared.entries.DomainWord.DomainWord, declared.entries.LinkEntry.LinkEntry, declared.entries.NodeEntry.NodeEntry, Entries.domain_at, Entries.domain_of_text, Entries.id_at, Entries.is_name, Entries.kind_at, Entries.kind_of_text, Entries.known_link, Entries.known_node, Entries.latency_at, Entries.link_form, Entries.link_keys, Scenario.links_of, Entries.name_at, Entries.node_entry, Entries.node_keys, Entries.node_named, Entries.rate_at}
use Rattle.topology_file.specs.declared.entries.DomainWord.TheVariants as words
use Rattle.topology_file.proofs.Chains.{an_element}
use Rattle.plan_file.specs.{domain_word, kind_word, link_members, mbit_of, node_members, node_name}
use Rattle.plan_file.proofs.{Digits.id-back, Digits.name-back, Lookups.node-found, Lookups.node-name-at, Readings.each-made, Readings.then-some, Readings.within-some, Readings.when-true}

-- ---- nodes

-- what a node has that is written and read back
pub record IsWritable (domains : Bool) (x : NodeEntry) : Type 0 where
  pub name : is_name x.name ≡ true
  pub id : x.id.0 < 2 ^ 64
  pub word : domains ≡ false → x.domain ≡ Both

kind-back : (kind : NodeKind) → kind_of_text (kind_word kind) ≡ Some kind
kind-back Station = refl
kind-back Bridge = refl

domain-back : (word : DomainWord) → domain_of_text (domain_word word) ≡ Some word
domain-back words.Both = refl
domain-back words.OnlyA = refl
domain-back words.Nothing = refl

only-node-keys : (domains : Bool) (x : NodeEntry) → has_only (node_keys domains) (node_members domains x) ≡ true
only-node-keys true x = refl
only-node-keys false x = refl

node-back : (domains : Bool) (n : ℕ) (x : NodeEntry) → IsWritable domains x → node_entry domains n (node_members domains x) ≡ Some x
node-back domains n x w =
    when-true (has_only (node_keys domains) ms) _ _ (only-node-keys domains x)
    ∙ then-some _ (name_at (codes "name") ms) x.name (name domains)
    ∙ then-some _ (kind_at ms) x.kind (kind domains)
    ∙ then-some _ (id_at n ms) x.id.0 (id domains)
    ∙ then-some _ (domain_at ms) x.domain (domain domains w.word)
  where
    ms : Members
    ms = node_members domains x

    name : (d : Bool) → name_at (codes "name") (node_members d x) ≡ Some x.name
    name true = name-back x.name w.name
    name false = name-back x.name w.name

    kind : (d : Bool) → kind_at (node_members d x) ≡ Some x.kind
    kind true = kind-back x.kind
    kind false = kind-back x.kind

    id : (d : Bool) → id_at n (node_members d x) ≡ Some x.id.0
    id true = id-back x.id.0 w.id
    id false = id-back x.id.0 w.id

    domain : (d : Bool) → (d ≡ false → x.domain ≡ Both) → domain_at (node_members d x) ≡ Some x.domain
    domain true h = domain-back x.domain
    domain false h = ap Some (sym (h refl))

pub nodes-back : (domains : Bool) (nodes : List NodeEntry) → All (IsWritable domains) nodes
    → each_entry 4 (node_entry domains) 1 (map (node_members domains) nodes) ≡ Ok nodes
nodes-back domains nodes all =
    each-made (IsWritable domains) 4 (length nodes) (node_entry domains) (node_members domains) (λ x. x) (λ n x _ w. node-back domains n x w) 1 nodes (omega arith) all
    ∙ ap Ok (map-id nodes)
  where
    map-id : (xs : List NodeEntry) → map (λ x. x) xs ≡ xs
    map-id [] = refl
    map-id (x ∷ xs) = ap (λ t. x ∷ t) (map-id xs)

-- ---- links

-- what a link has that is written and read back
pub record JoinsWritable (nodes : List NodeEntry) (l : LinkEntry) : Type 0 where
  pub a : IsNode (length nodes) l.a.0
  pub b : IsNode (length nodes) l.b.0
  pub shares : l.delta_a + l.delta_b ≤ 90
  pub latency : l.latency < 2 ^ 32

rate-back : (rate : Rate) → rate_of_mbit (mbit_of rate) ≡ Some rate
rate-back M100 = refl
rate-back G1 = refl
rate-back G10 = refl

module _ (nodes : List NodeEntry) (names : AllPairs (λ x y. x.name ≢ y.name) nodes) (forms : All (λ x. is_name x.name ≡ true) nodes) where
  -- the name of a node is a name
  pub node-text : (x : NodeNo) → IsNode (length nodes) x.0 → is_name (node_name nodes x) ≡ true
  node-text x k =
      let lt : x.0 - 1 < length nodes = omega (arith, k.0, k.1) in
      let d = an_element nodes (x.0 - 1) lt in
      ap is_name (node-name-at nodes names x d k) ∙ forms (x.0 - 1) d lt

  shares-back : (l : LinkEntry) → JoinsWritable nodes l → shares_at (link_members nodes l) ≡ Some (l.delta_a, l.delta_b)
  shares-back l j =
      let ms = link_members nodes l in
      then-some _ (share_at (codes "delta_a") 75 ms) l.delta_a (within-some 0 90 l.delta_a (omega arith) (omega (arith, j.shares)))
      ∙ then-some _ (share_at (codes "delta_b") 0 ms) l.delta_b (within-some 0 90 l.delta_b (omega arith) (omega (arith, j.shares)))
      ∙ when-true (nat_le (l.delta_a + l.delta_b) 90) _ _ (le-leb (l.delta_a + l.delta_b) 90 j.shares)

  pub link-back : (n : ℕ) (l : LinkEntry) → JoinsWritable nodes l → link_form nodes n (link_members nodes l) ≡ Some (Some l)
  link-back n l j =
      let ms = link_members nodes l in
      then-some _ (name_at (codes "a") ms) (node_name nodes l.a) (name-back (node_name nodes l.a) (node-text l.a j.a))
      ∙ then-some _ (name_at (codes "b") ms) (node_name nodes l.b) (name-back (node_name nodes l.b) (node-text l.b j.b))
      ∙ then-some _ (rate_at ms) l.rate (rate-back l.rate)
      ∙ then-some _ (shares_at ms) (l.delta_a, l.delta_b) (shares-back l j)
      ∙ then-some _ (latency_at ms) l.latency (within-some 0 4294967295 l.latency (omega arith) (omega (arith, j.latency)))
      ∙ ap Some (then-some _ (node_named nodes (node_name nodes l.a)) l.a (node-found nodes names l.a j.a)
      ∙ then-some _ (node_named nodes (node_name nodes l.b)) l.b (node-found nodes names l.b j.b))
