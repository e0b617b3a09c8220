-- The entry of a name is found at its number.
use Rattle.std.proofs.Common.{◌≡◌, ◌≢◌, ◌∙◌, ℕ, zero, suc, ◌+◌, ◌-◌, ◌<◌, ◌≤◌, Bool, true, false, ◌&&◌, List, [], ◌∷◌, length, get_or, take, drop, Option, Some, None, option_map, refl, sym, ap, subst, slice_get, arith}
use Rattle.std.proofs.lemmas.{List.get_or_default}
use Rattle.std.specs.{Cmp.Lexicographic.pointwise, Cmp.Lexicographic.bytes_decides, Option.option_map_or}
use Rattle.std.specs.Prelude.{AllPairs, nat_eq}
use Rattle.srp_base.specs.declared.numbers.NodeNo.{NodeNo}
use Rattle.srp_base.specs.Firsts.{first_where}
use Rattle.srp_base.proofs.FirstLemmas.{where-here, where-later}
use Rattle.tree_topology.specs.{Graph.IsNode, Refusal.is_station}
use Rattle.topology_file.specs.{Kinds.IsStationNumber, declared.entries.NodeEntry.NodeEntry, declared.entries.StreamEntry.StreamEntry, Entries.has_name, Streams.is_stream_named, Entries.node_named, Entries.node_no, Entries.station_named, Streams.stream_named}
use Rattle.topology_file.proofs.Chains.{an_element}
use Rattle.plan_file.specs.{node_name}

pub never-true : (b : Bool) → b ≢ true → b ≡ false
never-true true n = absurd (n refl)
never-true false n = refl

-- the search comes to the first element that passes
search-from : {A : Type 0} (test : A → Bool) (xs : List A) (i : ℕ) → i < length xs → ((d : A) → test (get_or xs i d) ≡ true)
    → ((j : ℕ) (d : A) → j < i → test (get_or xs j d) ≡ false) → (k j : ℕ) → k + j ≡ i
    → first_where (λ (earlier : List A) (x : A). test x) (take j xs) (drop j xs) ≡ Some (i + 1)
search-from {A = A} test xs i inside here before zero j e =
    let same : j ≡ i = omega (arith, e) in
    let F : ℕ → Type 0 = λ m. first_where (λ (earlier : List A) (x : A). test x) (take m xs) (drop m xs) ≡ Some (i + 1) in
    let d = an_element xs i inside in
    subst F (sym same) (where-here (λ (earlier : List A) (x : A). test x) xs i d inside (here d))
search-from {A = A} test xs i inside here before (suc k) j e =
    let d = an_element xs i inside in
    where-later (λ (earlier : List A) (x : A). test x) xs j d (omega (arith, e, inside)) (before j d (omega (arith, e)))
    ∙ search-from test xs i inside here before k (j + 1) (omega (arith, e))

pub found-at : {A : Type 0} (test : A → Bool) (xs : List A) (i : ℕ) → i < length xs → ((d : A) → test (get_or xs i d) ≡ true)
    → ((j : ℕ) (d : A) → j < i → test (get_or xs j d) ≡ false) → first_where (λ (earlier : List A) (x : A). test x) [] xs ≡ Some (i + 1)
found-at test xs i inside here before = search-from test xs i inside here before i 0 (omega arith)

-- the element at a place
pub slice-there : {A : Type 0} (xs : List A) (i : ℕ) (d : A) → i < length xs → slice_get xs i ≡ Some (get_or xs i d)
slice-there [] i d lt = absurd (omega (arith, lt))
slice-there (x ∷ xs) zero d lt = refl
slice-there (x ∷ xs) (suc i) d lt = slice-there xs i d (omega (arith, lt))

-- ---- nodes

module _ (nodes : List NodeEntry) (names : AllPairs (λ x y. x.name ≢ y.name) nodes) where
  pub node-name-at : (x : NodeNo) (d : NodeEntry) → IsNode (length nodes) x.0 → node_name nodes x ≡ (get_or nodes (x.0 - 1) d).name
  node-name-at x d k = ap (λ o. option_map_or (λ (node : NodeEntry). node.name) o []) (slice-there nodes (x.0 - 1) d (omega (arith, k.0, k.1)))

  same-name : (x : NodeNo) → IsNode (length nodes) x.0 → (d : NodeEntry) → has_name (node_name nodes x) (get_or nodes (x.0 - 1) d) ≡ true
  same-name x k d = (bytes_decides (get_or nodes (x.0 - 1) d).name (node_name nodes x)).1 (sym (node-name-at x d k))

  other-name : (x : NodeNo) → IsNode (length nodes) x.0 → (j : ℕ) (d : NodeEntry) → j < x.0 - 1 → has_name (node_name nodes x) (get_or nodes j d) ≡ false
  other-name x k j d lt =
      never-true (has_name (node_name nodes x) (get_or nodes j d)) (λ t.
      names j (x.0 - 1) d lt (omega (arith, k.0, k.1)) ((bytes_decides (get_or nodes j d).name (node_name nodes x)).0 t ∙ node-name-at x d k))

  back : (x : NodeNo) → 1 ≤ x.0 → node_no (x.0 - 1 + 1) ≡ x
  back x le = let e : x.0 - 1 + 1 ≡ x.0 = omega (arith, le) in ap node_no e

  pub node-found : (x : NodeNo) → IsNode (length nodes) x.0 → node_named nodes (node_name nodes x) ≡ Some x
  node-found x k =
      ap (option_map node_no) (found-at (has_name (node_name nodes x)) nodes (x.0 - 1) (omega (arith, k.0, k.1)) (same-name x k) (other-name x k)) ∙ ap Some (back x k.0)

  pub station-found : (x : NodeNo) → IsStationNumber nodes x.0 → station_named nodes (node_name nodes x) ≡ Some x
  station-found x s =
      let k = s.0 in
      ap (option_map node_no) (found-at (λ y. has_name (node_name nodes x) y && is_station y.kind) nodes (x.0 - 1) (omega (arith, k.0, k.1))
      (λ d. ap (λ b. b && is_station (get_or nodes (x.0 - 1) d).kind) (same-name x k d) ∙ s.1 d)
      (λ j d lt. ap (λ b. b && is_station (get_or nodes j d).kind) (other-name x k j d lt))) ∙ ap Some (back x k.0)
