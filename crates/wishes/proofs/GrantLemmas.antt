-- What it means that a wish is granted.
use Rattle.std.proofs.Common.{◌≡◌, ℕ, Bool, true, false, ◌&&◌, if◌then◌else◌, List, [], ◌∷◌, length, Option, Some, None, refl, sym, ◌∙◌}
use Rattle.std.specs.Option.{option_map_or}
use Rattle.std.specs.List.{AllByRecursion, list_all}
use Rattle.std.proofs.lemmas.Bool.{and_parts}
use Rattle.srp_base.specs.declared.{numbers.EgressPort.EgressPort, numbers.StreamId.StreamId, streams.Failure.Failure}
use Rattle.tree_topology.specs.Walk.{path_between}
use Rattle.topology_file.specs.declared.entries.StreamEntry.{StreamEntry}
use Rattle.world_core.specs.World.{WorldState}
use Rattle.network_laws.specs.Streams.{has_booked, hears_ready, is_path_booked, talking_node}
use Rattle.network_laws.specs.Vlans.{is_registered}
use Rattle.wishes.specs.Wishes.{answer_by, answer_to, failure_to, grants, is_granted, way_to}
use Rattle.wishes.specs.declared.wish.Answer.TheVariants.{Granted}

without_grant : (w : WorldState) (stream : StreamId) (l : ℕ) (o : Option Failure) → grants (answer_by w stream l o) ≡ false
without_grant w stream l None = refl
without_grant w stream l (Some failure) = refl

-- an answer grants a wish exactly where it is granted
pub granted_is : (w : WorldState) (e : StreamEntry) (l : ℕ) → grants (answer_to w e l) ≡ is_granted w e.id l
granted_is w e l = by (is_granted w e.id l)
  where
    by : (b : Bool)
        → grants (if b then Granted (length (way_to w e.id l)) (list_all (is_registered w e.vid) (way_to w e.id l)) else answer_by w e.id l (failure_to w e.id l)) ≡ b
    by true = refl
    by false = without_grant w e.id l (failure_to w e.id l)

both_alike : (a b : Bool) → a ≡ b → (a && b) ≡ a
both_alike true b h = sym h
both_alike false b h = refl

pub granted_where_ready : (w : WorldState) (e : StreamEntry) (l : ℕ) → hears_ready w e.id l ≡ is_path_booked w e.id l → grants (answer_to w e l) ≡ hears_ready w e.id l
granted_where_ready w e l sides = granted_is w e l ∙ both_alike (hears_ready w e.id l) (is_path_booked w e.id l) sides

pub each_booked : (test : EgressPort → Bool) (ports : List EgressPort) → list_all test ports ≡ true → AllByRecursion (λ p. test p ≡ true) ports
each_booked test [] h = tt
each_booked test (p ∷ ports) h = let parts = and_parts (test p) (list_all test ports) h in (parts.0, each_booked test ports parts.1)

pub granted_hears : (w : WorldState) (e : StreamEntry) (l : ℕ) → grants (answer_to w e l) ≡ true → hears_ready w e.id l ≡ true
granted_hears w e l h = (and_parts (hears_ready w e.id l) (is_path_booked w e.id l) (sym (granted_is w e l) ∙ h)).0

pub granted_booked : (w : WorldState) (e : StreamEntry) (l : ℕ) → grants (answer_to w e l) ≡ true → AllByRecursion (λ p. has_booked w e.id p ≡ true) (way_to w e.id l)
granted_booked w e l h = by (talking_node w e.id) (and_parts (hears_ready w e.id l) (is_path_booked w e.id l) (sym (granted_is w e l) ∙ h)).1
  where
    by : (o : Option ℕ) → option_map_or (λ t. list_all (has_booked w e.id) (path_between w.tree.links t l)) o false ≡ true
        → AllByRecursion (λ p. has_booked w e.id p ≡ true) (option_map_or (λ t. path_between w.tree.links t l) o [])
    by None h = cc
    by (Some t) h = each_booked (has_booked w e.id) (path_between w.tree.links t l) h
