-- What a side keeps stays of its application's keys: a participant takes the place of another, and keys await.
use Rattle.std.proofs.Common.{◌≡◌, ◌≢◌, ◌⊎◌, inl, inr, ℕ, suc, Bool, true, false, ◌||◌, if◌then◌else◌, List, [], ◌∷◌, refl, sym, ap, subst, ◌∙◌, arith}
use Rattle.std.specs.Prelude.{slice_get, slice_set, Option, Some, None, option_map, option_and_then, IsSome, is_some, Contains, fold, ◌==◌}
use Rattle.std.specs.{declared.cmp.Ordering.Ordering, Ordering.is_eq}
use Rattle.srp_base.proofs.{Arithmetic.decide, Bools.or_true, Lists.get-set_same, Lists.get_set_other as get-set_other}
use Rattle.srp_base.specs.declared.{numbers.Cs.Cs, mrp.MrpEvent.MrpEvent}
use Rattle.mrp_participant.specs.declared.row.Row.{Row}
use Rattle.mrp_participant.specs.{Lookup.find, Lookup.same, Lookup.ChangesOnly, Row.is_leaving_in, Row.after_leave, Row.after_hear, Row.leave_all_row, Row.row_hearing, State.AreRows, State.registered_at}
use Rattle.attribute_propagation.specs.{Dirty.is_awaiting, Dirty.all_marked, Ports.marked_elsewhere, Ports.marked_everywhere}
use Rattle.flat_side.specs.Part.{Part}
use Rattle.flat_side.specs.{said_events, FlatState, with_part, with_told_part, with_part_at, left_key, SameDeclared, TellsEach, AreOfKeys, HasKeyRows, HasKeysAlone, IsProper}
use Rattle.flat_side.proofs.Keeping.{KeyLaws, same_key, kept-retold}

-- what holds of each element holds where one is set
pub set-each : {X : Type 0} (P : X → Type 0) (xs : List X) (at : ℕ) (t : X) → P t → ((j : ℕ) (p : X) → slice_get xs j ≡ Some p → P p)
    → (j : ℕ) (p : X) → slice_get (slice_set xs at t) j ≡ Some p → P p
set-each P xs at t h hs j p get = by (decide at j)
  where
    by : (at ≡ j) ⊎ (at ≢ j) → P p
    by (inl e) = subst P (get-set_same xs at t p (ap (λ k. slice_get (slice_set xs at t) k) e ∙ get)) h
    by (inr ne) = hs j p (sym (get-set_other xs at j t ne) ∙ get)

module _ {K : Type 0} (cmp : K → K → Ordering) (laws : KeyLaws cmp) (IsKey : K → Type 0) where
  -- a key that is among some was told, or is one of the keys that awaited
  pub both_alone : (told set : List K) → HasKeysAlone cmp IsKey told → HasKeysAlone cmp IsKey set → HasKeysAlone cmp IsKey (all_marked cmp told set)
  both_alone told set h k key is = by (or_true (is_awaiting cmp key told) (is_awaiting cmp key set) (sym (laws.told.among key told set) ∙ is))
    where
      by : (is_awaiting cmp key told ≡ true) ⊎ (is_awaiting cmp key set ≡ true) → IsKey key
      by (inl e) = h key e
      by (inr e) = k key e

  elsewhere_alone : (at : ℕ) (told : List K) (sets : List (List K)) → HasKeysAlone cmp IsKey told
      → ((j : ℕ) (keys : List K) → slice_get sets j ≡ Some keys → HasKeysAlone cmp IsKey keys)
      → (j : ℕ) (keys : List K) → slice_get (marked_elsewhere cmp at told sets) j ≡ Some keys → HasKeysAlone cmp IsKey keys
  elsewhere_alone at told sets h hs j keys get = by (slice_get sets j) refl (sym (laws.told.elsewhere at j told sets) ∙ get)
    where
      picked : (b : Bool) (set : List K) → HasKeysAlone cmp IsKey set → HasKeysAlone cmp IsKey (if b then set else all_marked cmp told set)
      picked true set k = k
      picked false set k = both_alone told set h k

      by : (o : Option (List K)) → slice_get sets j ≡ o → option_map (λ set. if j == at then set else all_marked cmp told set) o ≡ Some keys → HasKeysAlone cmp IsKey keys
      by None is e = cc
      by (Some set) is e = let become : (if j == at then set else all_marked cmp told set) ≡ keys = cc in subst (HasKeysAlone cmp IsKey) become (picked (j == at) set (hs j set is))

  pub everywhere_alone : (told : List K) (sets : List (List K)) → HasKeysAlone cmp IsKey told
      → ((j : ℕ) (keys : List K) → slice_get sets j ≡ Some keys → HasKeysAlone cmp IsKey keys)
      → (j : ℕ) (keys : List K) → slice_get (marked_everywhere cmp told sets) j ≡ Some keys → HasKeysAlone cmp IsKey keys
  everywhere_alone told sets h hs j keys get = by (slice_get sets j) refl (sym (laws.told.everywhere j told sets) ∙ get)
    where
      by : (o : Option (List K)) → slice_get sets j ≡ o → option_map (all_marked cmp told) o ≡ Some keys → HasKeysAlone cmp IsKey keys
      by None is e = cc
      by (Some set) is e = let become : all_marked cmp told set ≡ keys = cc in subst (HasKeysAlone cmp IsKey) become (both_alone told set h (hs j set is))

  module _ (side : FlatState K) (proper : IsProper cmp IsKey side) (at : ℕ) (s : Part K) (here : slice_get side.parts at ≡ Some s) where
    -- a participant takes the place of another, and tells keys
    pub proper-retold : (t : Part K) (told : List K) → AreRows cmp t.rows → SameDeclared cmp s t → TellsEach cmp told s t
        → HasKeyRows cmp IsKey t → HasKeysAlone cmp IsKey told → IsProper cmp IsKey (with_told_part cmp at t told side)
    proper-retold t told rows same tells own alone =
        record {
          kept = kept-retold cmp laws side proper.kept at s here t told same tells rows;
          keys = record {
            parts = set-each (HasKeyRows cmp IsKey) side.parts at t own proper.keys.parts;
            awaiting = elsewhere_alone at told side.awaiting alone proper.keys.awaiting;
            own = proper.keys.own;
          };
        }

    -- or tells none
    pub proper-replaced : (t : Part K) → AreRows cmp t.rows → SameDeclared cmp s t
        → ((key : K) → registered_at cmp key t ≡ registered_at cmp key s) → HasKeyRows cmp IsKey t → IsProper cmp IsKey (with_part_at at t side)
    proper-replaced t rows same stays own =
        let P : List (List K) → Type 0 = λ sets. IsProper cmp IsKey (record (with_part_at at t side) { awaiting = sets }) in
        subst P (laws.told.none_elsewhere at side.awaiting)
        (proper-retold t [] rows same (λ key. inr (stays key)) own (λ key e. absurd (cc)))

  pub proper-at : (side : FlatState K) (make : Part K → FlatState K) (o : Option (Part K)) → IsProper cmp IsKey side
      → ((s : Part K) → o ≡ Some s → IsProper cmp IsKey (make s)) → IsProper cmp IsKey (with_part o make side)
  proper-at side make None proper h = proper
  proper-at side make (Some s) proper h = h s refl

  -- ---- which keys have rows after a call

  some_from_map : {X Y : Type 0} (f : X → Y) (o : Option X) → IsSome (option_map f o) → IsSome o
  some_from_map f None h = h
  some_from_map f (Some x) h = refl

  some_from_then : {X Y : Type 0} (f : X → Option Y) (o : Option X) → IsSome (option_and_then f o) → IsSome o
  some_from_then f None h = h
  some_from_then f (Some x) h = refl

  some_leaving : (o : Option (Row K (Unit {0}))) → is_leaving_in o ≡ true → IsSome o
  some_leaving None h = cc
  some_leaving (Some r) h = refl

  some_left : (o : Option (Row K (Unit {0}))) → IsSome (after_leave o) → IsSome o
  some_left None h = h
  some_left (Some r) h = refl

  pub rows-mapped : (s t : Part K) → HasKeyRows cmp IsKey s → (f : Row K (Unit {0}) → Row K (Unit {0}))
      → ((k : K) → find cmp k t.rows ≡ option_map f (find cmp k s.rows)) → HasKeyRows cmp IsKey t
  rows-mapped s t h f law key is = h key (some_from_map f _ (sym (ap is_some (law key)) ∙ is))

  pub rows-filtered : (s t : Part K) → HasKeyRows cmp IsKey s → (f : Row K (Unit {0}) → Option (Row K (Unit {0})))
      → ((k : K) → find cmp k t.rows ≡ option_and_then f (find cmp k s.rows)) → HasKeyRows cmp IsKey t
  rows-filtered s t h f law key is = h key (some_from_then f _ (sym (ap is_some (law key)) ∙ is))

  pub rows-both : (s t : Part K) → HasKeyRows cmp IsKey s → (f : Row K (Unit {0}) → Option (Row K (Unit {0}))) (g : Row K (Unit {0}) → Row K (Unit {0}))
      → ((k : K) → find cmp k t.rows ≡ option_map g (option_and_then f (find cmp k s.rows))) → HasKeyRows cmp IsKey t
  rows-both s t h f g law key is = h key (some_from_then f _ (some_from_map g _ (sym (ap is_some (law key)) ∙ is)))

  -- one key changes, and is one of the application where it has a row afterwards
  pub rows-changed : (s t : Part K) (key : K) (new : Option (Row K (Unit {0}))) → HasKeyRows cmp IsKey s → (IsSome new → IsKey key) → ChangesOnly cmp key new s.rows t.rows → HasKeyRows cmp IsKey t
  rows-changed s t key new h own law v is = by (same cmp key v) refl (sym (ap is_some (law v)) ∙ is)
    where
      by : (b : Bool) → same cmp key v ≡ b → is_some (if b then new else find cmp v s.rows) ≡ true → IsKey v
      by true e i = subst IsKey (same_key cmp laws key v e) (own i)
      by false e i = h v i

  pub rows-left : (s t : Part K) (key : K) → HasKeyRows cmp IsKey s → ChangesOnly cmp key (after_leave (find cmp key s.rows)) s.rows t.rows → HasKeyRows cmp IsKey t
  rows-left s t key h law = rows-changed s t key (after_leave (find cmp key s.rows)) h (λ is. h key (some_left _ is)) law

  -- what left was one of its keys
  pub left-alone : (s : Part K) (key : K) → HasKeyRows cmp IsKey s → HasKeysAlone cmp IsKey (left_key cmp key s)
  left-alone s key h v is = by (is_leaving_in (find cmp key s.rows)) refl is
    where
      first : (a : Bool) → is_eq (cmp key v) ≡ a → (a || false) ≡ true → key ≡ v
      first true e i = same_key cmp laws key v e
      first false e i = cc

      by : (b : Bool) → is_leaving_in (find cmp key s.rows) ≡ b → is_awaiting cmp v (if b then key ∷ [] else []) ≡ true → IsKey v
      by true e i = subst IsKey (first (is_eq (cmp key v)) refl i) (h key (some_leaving _ e))
      by false e i = cc

  -- keys that have rows are keys of the application
  contains : (key : K) (keys : List K) → is_awaiting cmp key keys ≡ true → Contains keys key
  contains key [] h = cc
  contains key (k ∷ keys) h = by (is_eq (cmp k key)) refl h (contains key keys)
    where
      later : Contains keys key → Contains (k ∷ keys) key
      later (i, below, at) = (suc i, omega (arith, below), at)

      by : (a : Bool) → is_eq (cmp k key) ≡ a → (a || is_awaiting cmp key keys) ≡ true → (is_awaiting cmp key keys ≡ true → Contains keys key) → Contains (k ∷ keys) key
      by true e i rest = (0, omega arith, same_key cmp laws k key e)
      by false e i rest = later (rest i)

  pub told-alone : (t : Part K) (keys all : List K) → HasKeyRows cmp IsKey t → ((k : K) → Contains keys k → Contains all k)
      → ((k : K) → Contains all k → IsSome (find cmp k t.rows)) → HasKeysAlone cmp IsKey keys
  told-alone t keys all h told place key is = h key (place key (told key (contains key keys is)))

  -- ---- receiving

  some_begun : (leave_all : Bool) (leave : Cs) (o : Option (Row K (Unit {0}))) → IsSome (if leave_all then option_map (leave_all_row leave) o else o) → IsSome o
  some_begun true leave o h = some_from_map (leave_all_row leave) o h
  some_begun false leave o h = h

  heard : (leave : Cs) (k : K) (es : List (MrpEvent × K)) (o : Option (Row K (Unit {0}))) → AreOfKeys IsKey es → (IsSome o → IsKey k)
      → IsSome (fold (row_hearing cmp leave k) o (said_events es)) → IsKey k
  heard leave k [] o keys own is = own is
  heard leave k (e ∷ es) o keys own is = heard leave k es (row_hearing cmp leave k o (e.0, e.1, tt)) keys.1 after is
    where
      after : IsSome (row_hearing cmp leave k o (e.0, e.1, tt)) → IsKey k
      after i = by (same cmp e.1 k) refl
        where
          by : (b : Bool) → same cmp e.1 k ≡ b → IsKey k
          by true at = subst IsKey (same_key cmp laws e.1 k at) keys.0
          by false at = own (sym (ap (λ b. is_some (if b then after_hear e.0 e.1 tt leave o else o)) at) ∙ i)

  pub rows-received : (s t : Part K) (leave : Cs) (leave_all : Bool) (es : List (MrpEvent × K)) → HasKeyRows cmp IsKey s → AreOfKeys IsKey es
      → ((k : K) → find cmp k t.rows ≡ fold (row_hearing cmp leave k) (if leave_all then option_map (leave_all_row leave) (find cmp k s.rows) else find cmp k s.rows) (said_events es))
      → HasKeyRows cmp IsKey t
  rows-received s t leave leave_all es h keys law key is =
      heard leave key es (if leave_all then option_map (leave_all_row leave) (find cmp key s.rows)
      else find cmp key s.rows) keys (λ i. h key (some_begun leave_all leave _ i)) (sym (ap is_some (law key)) ∙ is)
