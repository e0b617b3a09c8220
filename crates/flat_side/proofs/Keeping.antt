-- What every side keeps stays so: a participant takes the place of another, keys are settled, the
-- application declares or withdraws.
use Rattle.std.proofs.Common.{◌≡◌, ◌≢◌, ◌⊎◌, inl, inr, ℕ, zero, suc, ◌<◌, Bool, true, false, not, ◌&&◌, ◌||◌, if◌then◌else◌, List, [], ◌∷◌, length, map, refl, sym, ap, subst, ◌∙◌, arith}
use Rattle.std.specs.Prelude.{slice_get, slice_set, slice_index_or, Option, Some, None, option_map, Contains, is_some, ◌==◌}
use Rattle.std.specs.{Cmp.IsTotalOrder, List.AllByRecursion, declared.cmp.Ordering.Ordering, declared.cmp.Ordering.TheVariants.Less, declared.cmp.Ordering.TheVariants.Equal, declared.cmp.Ordering.TheVariants.Greater, Ordering.is_eq, Ordering.ordering_reverse}
use Rattle.std.proofs.lemmas.List.Folds.{list_any_at}
use Rattle.std.proofs.Math.ListN.{length-set}
use Rattle.std.proofs.lemmas.Bool.{or_parts as or_false}
use Rattle.srp_base.proofs.{Arithmetic.decide, Lists.get-set_same, Lists.get_set_other as get-set_other, Lists.map-set, Lists.map-set_same, Lists.each-set, Lists.each-get}
use Rattle.srp_base.specs.declared.{numbers.Cs.Cs, ports.PortSetup.PortSetup}
use Rattle.mrp_participant.specs.{Lookup.find, Lookup.same, Row.is_leaving_in, State.AreRows, State.new_state, State.left_state, State.registered_at}
use Rattle.attribute_propagation.specs.{Dirty.is_awaiting, Dirty.all_marked, Dirty.with_key, Dirty.without_key, Dirty.IsAscending, Flat.is_any, Flat.elsewhere, Ports.HasTold, Ports.marked_elsewhere, Ports.marked_everywhere}
use Rattle.flat_side.specs.Part.{Part}
use Rattle.flat_side.specs.{declares, registers, FlatState, IsKept, IsFlatAt, is_flat, has_own, places_of, new_flat, with_part, with_told_part, with_part_at, left_key, requested_flat, SameDeclared, TellsEach}
use Rattle.flat_side.proofs.Places.{no_or, no_and, same_length, elsewhere-set}

-- what is known of keys: their order is one in which equal keys are one key; and what those that are told make of the
-- sets of all ports
pub record KeyLaws {K : Type 0} (cmp : K → K → Ordering) : Type 0 where
  pub order : IsTotalOrder cmp
  pub one : (a b : K) → cmp a b ≡ Equal → a ≡ b
  pub told : HasTold cmp

equal : (c : Ordering) → is_eq c ≡ true → c ≡ Equal
equal Less h = cc
equal Equal h = refl
equal Greater h = cc

own_reverse : (c : Ordering) → c ≡ ordering_reverse c → c ≡ Equal
own_reverse Less h = cc
own_reverse Equal h = refl
own_reverse Greater h = cc

module _ {K : Type 0} (cmp : K → K → Ordering) (laws : KeyLaws cmp) where
  pub self : (k : K) → is_eq (cmp k k) ≡ true
  self k = ap is_eq (own_reverse (cmp k k) (laws.order.antisymm k k))

  pub same_key : (a b : K) → same cmp a b ≡ true → a ≡ b
  same_key a b h = laws.one a b (equal (cmp a b) h)

  -- a key that is in a list is among its keys
  contained : (keys : List K) (i : ℕ) (key : K) → i < length keys → slice_index_or keys i key ≡ key → is_awaiting cmp key keys ≡ true
  contained keys i key below at = list_any_at (λ x. is_eq (cmp x key)) keys i key below (rw at (self key))

  -- a key that isn't told is registered as before
  untold : (told : List K) (s t : Part K) (key : K) → TellsEach cmp told s t → is_awaiting cmp key told ≡ false → registers cmp key t ≡ registers cmp key s
  untold told s t key tells out = by (tells key)
    where
      by : Contains told key ⊎ (registered_at cmp key t ≡ registered_at cmp key s) → registers cmp key t ≡ registers cmp key s
      by (inl c) = let inside = contained told c.0 key c.1 c.2 in cc
      by (inr e) = ap is_some e

  -- the set at the place itself stays, and at each other place the told keys are in
  marked_here : (at : ℕ) (told keys : List K) (sets : List (List K)) → slice_get (marked_elsewhere cmp at told sets) at ≡ Some keys → slice_get sets at ≡ Some keys
  marked_here at told keys sets h = here (slice_get sets at) (sym (laws.told.elsewhere at at told sets) ∙ h)
    where
      here : (o : Option (List K)) → option_map (λ set. if at == at then set else all_marked cmp told set) o ≡ Some keys → o ≡ Some keys
      here None e = cc
      here (Some set) e =
          let same : (at == at) ≡ true = grind arith in
          let kept : (if at == at then set else all_marked cmp told set) ≡ set = rw same refl in cc

  marked_there : (at j : ℕ) (told keys : List K) (sets : List (List K)) → at ≢ j → slice_get (marked_elsewhere cmp at told sets) j ≡ Some keys
      → (set : List K) × (slice_get sets j ≡ Some set) × (all_marked cmp told set ≡ keys)
  marked_there at j told keys sets ne h = there (slice_get sets j) refl (sym (laws.told.elsewhere at j told sets) ∙ h)
    where
      there : (o : Option (List K)) → slice_get sets j ≡ o → option_map (λ set. if j == at then set else all_marked cmp told set) o ≡ Some keys
          → (set : List K) × (slice_get sets j ≡ Some set) × (all_marked cmp told set ≡ keys)
      there None is e = cc
      there (Some set) is e =
          let other : (j == at) ≡ false = grind (arith, ne) in
          let kept : (if j == at then set else all_marked cmp told set) ≡ all_marked cmp told set = rw other refl in
          (set, is, cc)

  marked_everywhere_at : (sets : List (List K)) (new : List K) (j : ℕ) (keys : List K) → slice_get (marked_everywhere cmp new sets) j ≡ Some keys
      → (set : List K) × (slice_get sets j ≡ Some set) × (all_marked cmp new set ≡ keys)
  marked_everywhere_at sets new j keys h = by (slice_get sets j) refl (sym (laws.told.everywhere j new sets) ∙ h)
    where
      by : (o : Option (List K)) → slice_get sets j ≡ o → option_map (all_marked cmp new) o ≡ Some keys → (set : List K) × (slice_get sets j ≡ Some set) × (all_marked cmp new set ≡ keys)
      by None is e = cc
      by (Some set) is e = (set, is, cc)

  module _ (side : FlatState K) (kept : IsKept cmp side) (at : ℕ) (s : Part K) (here : slice_get side.parts at ≡ Some s) where
    -- the flat rule at a place doesn't see the participant there
    pub flat_here : (t : Part K) (sets : List (List K)) (key : K) → is_flat cmp (record side { parts = slice_set side.parts at t; awaiting = sets }) at key ≡ is_flat cmp side at key
    flat_here t sets key =
        ap (elsewhere (suc at)) (ap (λ bs. has_own cmp key side ∷ bs) (map-set (registers cmp key) side.parts at t))
        ∙ elsewhere-set (suc at) (places_of cmp key side.own side.parts) (registers cmp key t)

    -- where the registration of a key is as before, the rule is
    pub flat_there : (t : Part K) (sets : List (List K)) (j : ℕ) (key : K) → registers cmp key t ≡ registers cmp key s
        → is_flat cmp (record side { parts = slice_set side.parts at t; awaiting = sets }) j key ≡ is_flat cmp side j key
    flat_there t sets j key e =
        ap (λ bs. elsewhere (suc j) (has_own cmp key side ∷ bs)) (map-set_same (registers cmp key) side.parts at s t here e)

    module _ (t : Part K) (told : List K) (same : SameDeclared cmp s t) (tells : TellsEach cmp told s t) where
      retold_here : IsFlatAt cmp (with_told_part cmp at t told side) at
      retold_here p keys key part set out =
          ap (declares cmp key) (sym (get-set_same side.parts at t p part))
          ∙ (ap is_some (same key)
          ∙ (kept.flat at s keys key here (marked_here at told keys side.awaiting set) out
          ∙ sym (flat_here t (marked_elsewhere cmp at told side.awaiting) key)))

      retold_there : (j : ℕ) → at ≢ j → IsFlatAt cmp (with_told_part cmp at t told side) j
      retold_there j ne p keys key part set out =
          let old = marked_there at j told keys side.awaiting ne set in
          let outs = or_false (is_awaiting cmp key told) (is_awaiting cmp key old.0)
          (sym (laws.told.among key told old.0) ∙ (ap (is_awaiting cmp key) old.2 ∙ out)) in
          kept.flat j p old.0 key (sym (get-set_other side.parts at j t ne) ∙ part) old.1 outs.1
          ∙ sym (flat_there t (marked_elsewhere cmp at told side.awaiting) j key (untold told s t key tells outs.0))

      retold_flat : (j : ℕ) → (at ≡ j) ⊎ (at ≢ j) → IsFlatAt cmp (with_told_part cmp at t told side) j
      retold_flat j (inl e) = let P : ℕ → Type 0 = λ k. IsFlatAt cmp (with_told_part cmp at t told side) k in subst P e retold_here
      retold_flat j (inr ne) = retold_there j ne

      -- a participant that declares the same takes the place, and what it tells awaits elsewhere
      pub kept-retold : AreRows cmp t.rows → IsKept cmp (with_told_part cmp at t told side)
      kept-retold rows =
          record {
            rows = each-set (λ p. AreRows cmp p.rows) side.parts at t rows kept.rows;
            ports = laws.told.as_many_elsewhere at told side.awaiting ∙ (kept.ports ∙ sym (length-set side.parts at t));
            own = kept.own;
            flat = λ j. retold_flat j (decide at j);
          }

    -- one that declares and registers the same takes the place, and tells none
    pub kept-replaced : (t : Part K) → AreRows cmp t.rows → SameDeclared cmp s t → ((key : K) → registered_at cmp key t ≡ registered_at cmp key s) → IsKept cmp (with_part_at at t side)
    kept-replaced t rows same stays =
        let P : List (List K) → Type 0 = λ sets. IsKept cmp (record (with_part_at at t side) { awaiting = sets }) in
        subst P (laws.told.none_elsewhere at side.awaiting) (kept-retold t [] same (λ key. inr (stays key)) rows)

  -- a side that is made with the participant at a place, if one is there
  pub kept-at : (side : FlatState K) (make : Part K → FlatState K) (o : Option (Part K)) → IsKept cmp side → ((s : Part K) → o ≡ Some s → AreRows cmp s.rows → IsKept cmp (make s))
      → ((s : Part K) → o ≡ Some s → AreRows cmp s.rows) → IsKept cmp (with_part o make side)
  kept-at side make None kept h rows = kept
  kept-at side make (Some s) kept h rows = h s refl (rows s refl)

  -- the rows of the participant at a place
  pub rows-at : (side : FlatState K) (at : ℕ) → IsKept cmp side → (s : Part K) → slice_get side.parts at ≡ Some s → AreRows cmp s.rows
  rows-at side at kept s here = each-get (λ p. AreRows cmp p.rows) side.parts at s kept.rows here

  -- the key whose leave timer ended is told, or its registration is as before
  pub leaving_told : (s : Part K) (key v : K)
      → registered_at cmp v (left_state cmp key s)
      ≡ (if same cmp key v && is_leaving_in (find cmp key s.rows) then None else registered_at cmp v s)
      → Contains (left_key cmp key s) v ⊎ (registered_at cmp v (left_state cmp key s) ≡ registered_at cmp v s)
  leaving_told s key v law = by (same cmp key v) (is_leaving_in (find cmp key s.rows)) refl law
    where
      by : (one leaving : Bool) → same cmp key v ≡ one
          → registered_at cmp v (left_state cmp key s) ≡ (if one && leaving then None else registered_at cmp v s)
          → Contains (if leaving then key ∷ [] else []) v ⊎ (registered_at cmp v (left_state cmp key s) ≡ registered_at cmp v s)
      by true true e h = inl (0, omega arith, same_key key v e)
      by true false e h = inr h
      by false true e h = inr h
      by false false e h = inr h

  -- ---- the application asks

  -- the own keys change at one key, which awaits everywhere
  pub kept-own : (side : FlatState K) → IsKept cmp side → (key : K) (own : List K) → IsAscending cmp own
      → ((v : K) → is_eq (cmp key v) ≡ false → is_awaiting cmp v own ≡ is_awaiting cmp v side.own)
      → IsKept cmp (record side { own = own; awaiting = marked_everywhere cmp (key ∷ []) side.awaiting })
  kept-own side kept key own up stays =
      record {
        rows = kept.rows;
        ports = laws.told.as_many_everywhere (key ∷ []) side.awaiting ∙ kept.ports;
        own = up;
        flat = λ j p keys v part set out.
            let old = marked_everywhere_at side.awaiting (key ∷ []) j keys set in
            let outs = or_false (is_awaiting cmp v (key ∷ [])) (is_awaiting cmp v old.0)
            (sym (laws.told.among v (key ∷ []) old.0) ∙ (ap (is_awaiting cmp v) old.2 ∙ out)) in
            kept.flat j p old.0 v part old.1 outs.1
            ∙ ap (λ b. elsewhere (suc j) (b ∷ map (registers cmp v) side.parts)) (sym (stays v (or_false (is_eq (cmp key v)) false outs.0).0));
      }

  pub kept-requested : ((k x : K) (keys : List K) → is_awaiting cmp k (with_key cmp x keys) ≡ (is_eq (cmp x k) || is_awaiting cmp k keys))
      → ((k x : K) (keys : List K) → is_awaiting cmp k (without_key cmp x keys) ≡ (not (is_eq (cmp x k)) && is_awaiting cmp k keys))
      → (side : FlatState K) → IsKept cmp side → (key : K) (declared : Bool) (own : List K) (sets : List (List K)) → IsAscending cmp own
      → own ≡ (if declared then with_key cmp key side.own else without_key cmp key side.own)
      → sets ≡ marked_everywhere cmp (key ∷ []) side.awaiting
      → IsKept cmp (record side { own = own; awaiting = sets })
  kept-requested marks clears side kept key true own sets up is all =
      rw all (kept-own side kept key own up (λ v ne. ap (is_awaiting cmp v) is ∙ (marks v key side.own ∙ no_or _ _ ne)))
  kept-requested marks clears side kept key false own sets up is all =
      rw all (kept-own side kept key own up (λ v ne. ap (is_awaiting cmp v) is ∙ (clears v key side.own ∙ no_and _ _ ne)))

  chosen : (b : Bool) (x y : FlatState K) → IsKept cmp x → IsKept cmp y → IsKept cmp (if b then x else y)
  chosen true x y h k = h
  chosen false x y h k = k

  pub request-keeps : ((k x : K) (keys : List K) → is_awaiting cmp k (with_key cmp x keys) ≡ (is_eq (cmp x k) || is_awaiting cmp k keys))
      → ((k x : K) (keys : List K) → is_awaiting cmp k (without_key cmp x keys) ≡ (not (is_eq (cmp x k)) && is_awaiting cmp k keys))
      → ((x : K) (keys : List K) → IsAscending cmp keys → IsAscending cmp (with_key cmp x keys))
      → ((x : K) (keys : List K) → IsAscending cmp keys → IsAscending cmp (without_key cmp x keys))
      → (key : K) (side : FlatState K) → IsKept cmp side → (declared : Bool) → IsKept cmp (requested_flat cmp key declared side)
  request-keeps marks clears marks_up clears_up key side kept true =
      chosen (has_own cmp key side) _ _ kept
      (kept-requested marks clears side kept key true (with_key cmp key side.own) (marked_everywhere cmp (key ∷ []) side.awaiting) (marks_up key side.own kept.own) refl refl)
  request-keeps marks clears marks_up clears_up key side kept false =
      chosen (has_own cmp key side) _ _
      (kept-requested marks clears side kept key false (without_key cmp key side.own) (marked_everywhere cmp (key ∷ []) side.awaiting) (clears_up key side.own kept.own) refl refl) kept

-- ---- a new side

module _ {K : Type 0} (cmp : K → K → Ordering) where
  new_rows : (leave_time : Cs) (periodic : Bool) (ports : List PortSetup) → AllByRecursion (λ (s : Part K). AreRows cmp s.rows) (map (λ p. new_state p.period leave_time periodic) ports)
  new_rows leave_time periodic [] = tt
  new_rows leave_time periodic (p ∷ ports) = ((tt, tt), new_rows leave_time periodic ports)

  none_declared : (leave_time : Cs) (periodic : Bool) (ports : List PortSetup) (i : ℕ) (s : Part K) (key : K)
      → slice_get (map (λ p. new_state p.period leave_time periodic) ports) i ≡ Some s → declares cmp key s ≡ false
  none_declared leave_time periodic [] i s key h = cc
  none_declared leave_time periodic (p ∷ ports) zero s key h =
      let same : new_state p.period leave_time periodic ≡ s = cc in ap (declares cmp key) (sym same)
  none_declared leave_time periodic (p ∷ ports) (suc i) s key h = none_declared leave_time periodic ports i s key h

  none_registered : (leave_time : Cs) (periodic : Bool) (ports : List PortSetup) (key : K) (p : ℕ)
      → elsewhere p (map (registers cmp key) (map (λ p. new_state p.period leave_time periodic) ports)) ≡ false
  none_registered leave_time periodic [] key zero = refl
  none_registered leave_time periodic [] key (suc p) = refl
  none_registered leave_time periodic (q ∷ ports) key zero = all ports
    where
      all : (ports : List PortSetup) → is_any (map (registers cmp key) (map (λ p. new_state p.period leave_time periodic) ports)) ≡ false
      all [] = refl
      all (q ∷ ports) = all ports
  none_registered leave_time periodic (q ∷ ports) key (suc p) = none_registered leave_time periodic ports key p

  pub kept-new : (leave_time : Cs) (periodic : Bool) (ports : List PortSetup) → IsKept cmp (new_flat leave_time periodic ports)
  kept-new leave_time periodic ports =
      record {
        rows = new_rows leave_time periodic ports;
        ports = same_length (λ _. []) (λ p. new_state p.period leave_time periodic) ports;
        own = tt;
        flat = λ at s keys key part set out. none_declared leave_time periodic ports at s key part ∙ sym (none_registered leave_time periodic ports key at);
      }
