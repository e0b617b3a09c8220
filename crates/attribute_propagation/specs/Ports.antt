-- The link ports of a node, and the keys that await settling at each, port by port.
use Rattle.std.specs.Prelude.{◌≡◌, ◌≤◌, ℕ, ◌+◌, ◌-◌, ◌==◌, Bool, not, ◌||◌, if◌then◌else◌, List, [], ◌∷◌, length, map, min, Option, Some, None, option_map, slice_get}
use Rattle.std.specs.{List.AllByRecursion, List.list_all, List.list_any, declared.cmp.Ordering.Ordering}
use Rattle.srp_base.specs.declared.{numbers.PortNo.PortNo, ports.PortSetup.PortSetup}
use Rattle.attribute_propagation.specs.Dirty.{KeySet, all_marked, is_awaiting}

-- the place of a link port in a list that has something for each, counted from 0
abbrev pub place_of : PortNo → ℕ
place_of port = port.0 - 1

-- the port is one of so many link ports
pub record IsLinkPort (port : PortNo) (count : ℕ) : Type 0 where
  pub some : 1 ≤ port.0
  pub within : port.0 ≤ count

-- a number as an answer of 32 bits, which stands still at its end
abbrev pub count_of : ℕ → ℕ
count_of n = min n 4294967295

-- ---- what awaits at each port

-- the keys of each of some sets
abbrev pub keys_in : {K : Type 0} → List (KeySet K) → List (List K)
keys_in sets = map (λ set. set.keys) sets

-- at each port there is room for so many more keys
abbrev pub HasRoom : {K : Type 0} → ℕ → List (KeySet K) → Type 0
HasRoom count sets = AllByRecursion (λ set. count ≤ set.spare) sets

-- at new ports no key awaits
abbrev pub new_sets : {K : Type 0} → List PortSetup → List (List K)
new_sets ports = map (λ _. []) ports

-- the keys of a set, or none where there is no set
abbrev pub keys_or_none : {K : Type 0} → Option (List K) → List K
keys_or_none None = []
keys_or_none (Some keys) = keys

-- the keys that await at a place
abbrev pub keys_at : {K : Type 0} → ℕ → List (List K) → List K
keys_at at sets = keys_or_none (slice_get sets at)

-- whether no key awaits at any port
abbrev pub none_awaits : {K : Type 0} → List (List K) → Bool
none_awaits sets = list_all (λ keys. length keys == 0) sets

-- whether a key awaits at some port
abbrev pub some_awaits : {K : Type 0} → List (List K) → Bool
some_awaits sets = list_any (λ keys. not (length keys == 0)) sets

-- the sets, the first of them at place n, with these keys put in everywhere but at one place
abbrev pub marked_from : {K : Type 0} → ℕ → (K → K → Ordering) → ℕ → List K → List (List K) → List (List K)
marked_from n cmp at keys [] = []
marked_from n cmp at keys (set ∷ sets) =
    (if n == at then set else all_marked cmp keys set) ∷ marked_from (n + 1) cmp at keys sets

-- these keys await at every port but the one at this place, counted from 0
abbrev pub marked_elsewhere : {K : Type 0} → (K → K → Ordering) → ℕ → List K → List (List K) → List (List K)
marked_elsewhere cmp at keys sets = marked_from 0 cmp at keys sets

-- these keys await at every port
abbrev pub marked_everywhere : {K : Type 0} → (K → K → Ordering) → List K → List (List K) → List (List K)
marked_everywhere cmp keys sets = map (all_marked cmp keys) sets

-- what keys that are told make of the sets of all ports, whatever the keys are: those await that
-- were told or awaited; each port but the one that told them, or each port, has them beside its
-- own; there are as many sets; and where no key is told all stay
pub record HasTold {K : Type 0} (cmp : K → K → Ordering) : Type 0 where
  pub among : (k : K) (keys set : List K)
      → is_awaiting cmp k (all_marked cmp keys set) ≡ (is_awaiting cmp k keys || is_awaiting cmp k set)
  pub elsewhere : (at j : ℕ) (keys : List K) (sets : List (List K))
      → slice_get (marked_elsewhere cmp at keys sets) j
      ≡ option_map (λ set. if j == at then set else all_marked cmp keys set) (slice_get sets j)
  pub everywhere : (j : ℕ) (keys : List K) (sets : List (List K))
      → slice_get (marked_everywhere cmp keys sets) j ≡ option_map (all_marked cmp keys) (slice_get sets j)
  pub as_many_elsewhere : (at : ℕ) (keys : List K) (sets : List (List K))
      → length (marked_elsewhere cmp at keys sets) ≡ length sets
  pub as_many_everywhere : (keys : List K) (sets : List (List K))
      → length (marked_everywhere cmp keys sets) ≡ length sets
  pub none_elsewhere : (at : ℕ) (sets : List (List K)) → marked_elsewhere cmp at [] sets ≡ sets
  pub none_everywhere : (sets : List (List K)) → marked_everywhere cmp [] sets ≡ sets
