-- What the timers leave at each key, what is sent of one key, when a participant is still, and where a key
-- stands.
use Rattle.std.proofs.Common.{◌≡◌, ℕ, zero, suc, ◌+◌, Bool, true, false, not, ◌&&◌, ◌||◌, if◌then◌else◌, List, [], ◌∷◌, map, filter, length, refl, sym, ap, ◌∙◌, subst, arith, inl, inr, option_map, option_and_then, slice_get, ◌↔◌}
use Rattle.std.specs.Prelude.{◌≢◌, ◌⊎◌, Contains, IsSome, option_to_list}
use Rattle.std.specs.{declared.option.Option.Option, declared.option.Option.TheVariants.None, declared.option.Option.TheVariants.Some, declared.cmp.Ordering.Ordering, declared.cmp.Ordering.TheVariants.Equal, Cmp.IsTotalOrder, List.filter_map, List.cons_option, List.list_any, List.list_all, List.AllByRecursion}
use Rattle.srp_base.proofs.Bools.{held_from as not_false, both}
use Rattle.applicant.specs.declared.{Applicant.Applicant, Applicant.TheVariants.Vo}
use Rattle.registrar.specs.declared.Registrar.{Registrar}
use Rattle.registrar.specs.declared.Registrar.TheVariants.{Held, Leaving, Empty}
use Rattle.registrar.specs.Table as registrar
use Rattle.leaveall.specs.declared.{LeaveAll.LeaveAll, LeaveAll.TheVariants.Active, LeaveAll.TheVariants.Passive}
use Rattle.srp_base.specs.declared.{numbers.Cs.Cs, mrp.MrpEvent.MrpEvent}
use Rattle.mrp_participant.specs.declared.row.Row.{Row}
use Rattle.mrp_participant.specs.{Ascends, key_of, same, find, after_leave_due, leave_is_due, periodic_row, is_settled, is_leaving_in, is_live, applicant_of, registrar_of, declared_in, registered_in, sent_event, leave_timers_state, leave_all_state, periodic_fired_state, due_leave_all_state, due_state, due_count, is_any_due, is_leave_all_due, is_periodic_due, is_active, is_still, all_settled}
use Rattle.registrar.specs.Table.{is_leaving}
use Rattle.applicant.specs.Table.{is_quiet, is_observer}
use Rattle.mrp_participant.specs.State.{State}
use Rattle.mrp_participant.proofs.{Lookups.none_above, Lookups.same_is, Lookups.find-fits, SendingLimitLemmas.In, SendingLimitLemmas.find-in, EachKey.each-mapped, EachKey.each-kept, Transitions.leave_all_due-rows, Transitions.due-keeps, Changes.find-found, Changes.In-map, Changes.In-mapped, Changes.In-contains, Changes.Contains-in, Octets.sent_is}

-- ---- after the timers

module _ {K C : Type 0} where
  map-itself : (r : Option (Row K C)) → r ≡ option_map (λ r. r) r
  map-itself None = refl
  map-itself (Some r) = refl

  periodic_same : (now : Cs) (s : State K C) (b : Bool) → is_periodic_due now (if b then leave_all_state now s else s) ≡ is_periodic_due now s
  periodic_same now s true = refl
  periodic_same now s false = refl

module _ {K C : Type 0} {cmp : K → K → Ordering} (o : IsTotalOrder cmp) where
  periodic_at : (now : Cs) (s : State K C) (k : K) (b : Bool)
      → find cmp k (if b then periodic_fired_state now s else s).rows
      ≡ option_map (λ r. if b then periodic_row r else r) (find cmp k s.rows)
  periodic_at now s k true = each-mapped o periodic_row (λ r. refl) s.rows k
  periodic_at now s k false = map-itself (find cmp k s.rows)

  pub each-due : (now : Cs) (s : State K C) → Ascends cmp key_of s.rows → (k : K)
      → find cmp k (due_state now s).rows ≡ option_map (λ r. if is_periodic_due now s then periodic_row r else r)
      (option_and_then (after_leave_due now.0) (find cmp k s.rows))
  each-due now s up k =
      let first : State K C = leave_timers_state now s in
      let second : State K C = due_leave_all_state now first in
      periodic_at now second k (is_periodic_due now second)
      ∙ (ap (λ b. option_map (λ r. if b then periodic_row r else r) (find cmp k second.rows)) (periodic_same now first (is_leave_all_due now first))
      ∙ (ap (λ rows. option_map (λ r. if is_periodic_due now s then periodic_row r else r) (find cmp k rows))
      (leave_all_due-rows now first (is_leave_all_due now first))
      ∙ ap (option_map (λ r. if is_periodic_due now s then periodic_row r else r)) (each-kept o (after_leave_due now.0) (due-keeps now.0) s.rows up k)))

-- ---- how many timers are due

none_by : {X Y : Type 0} (f : X → Y) (p : X → Bool) (x : X) (xs : List X) (b : Bool)
    → ((length (map f (filter p xs)) ≡ 0) ↔ (list_any p xs ≡ false))
    → (length (map f (if b then x ∷ filter p xs else filter p xs)) ≡ 0) ↔ ((b || list_any p xs) ≡ false)
none_by f p x xs true rest = (λ h. absurd (omega arith), λ h. cc)
none_by f p x xs false rest = rest

none-passes : {X Y : Type 0} (f : X → Y) (p : X → Bool) (xs : List X) → (length (map f (filter p xs)) ≡ 0) ↔ (list_any p xs ≡ false)
none-passes f p [] = (λ h. refl, λ h. refl)
none-passes f p (x ∷ xs) = none_by f p x xs (p x) (none-passes f p xs)

none-of_three : (n : ℕ) (p a b : Bool) → ((n ≡ 0) ↔ (p ≡ false)) → (n + ((if a then 1 else 0) + (if b then 1 else 0)) ≡ 0) ↔ ((p || (a || b)) ≡ false)
none-of_three n true a b h = (λ e. absurd (let z = h.0 (omega arith) in cc), λ e. cc)
none-of_three n false true b h = (λ e. absurd (omega arith), λ e. cc)
none-of_three n false false true h = (λ e. absurd (omega arith), λ e. cc)
none-of_three n false false false h = (λ e. refl, λ e. let z = h.1 refl in omega arith)

pub none-due : {K C : Type 0} (now : Cs) (s : State K C) → (due_count now s ≡ 0) ↔ (is_any_due now s ≡ false)
none-due now s =
    none-of_three _ (list_any (leave_is_due now.0) s.rows) (is_leave_all_due now s) (is_periodic_due now s) (none-passes key_of (leave_is_due now.0) s.rows)

-- ---- what is sent of one key

module _ {K C E : Type 0} {cmp : K → K → Ordering} (o : IsTotalOrder cmp) (key : E → K) (f : Row K C
    → Option E) (keeps : (r : Row K C) (e : E) → f r ≡ Some e → key e ≡ r.key) where
  one_by : (r : Row K C) (rows : List (Row K C)) (k : K) (new : Option E) (b : Bool) → f r ≡ new
      → same cmp r.key k ≡ b → (b ≡ true → find cmp k rows ≡ None) → ((e : E) → new ≡ Some e → same cmp (key e) k ≡ b)
      → filter (λ e. same cmp (key e) k) (filter_map f rows) ≡ option_to_list (option_and_then f (find cmp k rows))
      → filter (λ e. same cmp (key e) k) (cons_option new (filter_map f rows))
      ≡ option_to_list (option_and_then f (if b then Some r else find cmp k rows))
  one_by r rows k None true is at none same_key rest = rest ∙ ap (λ x. option_to_list (option_and_then f x)) (none refl) ∙ ap option_to_list (sym is)
  one_by r rows k None false is at none same_key rest = rest
  one_by r rows k (Some e) true is at none same_key rest =
      ap (λ b. if b then e ∷ filter (λ e. same cmp (key e) k) (filter_map f rows) else filter (λ e. same cmp (key e) k) (filter_map f rows)) (same_key e refl)
      ∙ ap (λ l. e ∷ l) (rest ∙ ap (λ x. option_to_list (option_and_then f x)) (none refl))
      ∙ ap option_to_list (sym is)
  one_by r rows k (Some e) false is at none same_key rest =
      ap (λ b. if b then e ∷ filter (λ e. same cmp (key e) k) (filter_map f rows) else filter (λ e. same cmp (key e) k) (filter_map f rows)) (same_key e refl)
      ∙ rest

  -- what is kept of ascending rows, at one key
  one-kept : (rows : List (Row K C)) → Ascends cmp key_of rows → (k : K)
      → filter (λ e. same cmp (key e) k) (filter_map f rows) ≡ option_to_list (option_and_then f (find cmp k rows))
  one-kept [] up k = refl
  one-kept (r ∷ rows) up k =
      one_by r rows k (f r) (same cmp r.key k) refl refl (λ e. none_above o r.key k rows up.0 e)
      (λ e h. ap (λ x. same cmp x k) (keeps r e h)) (one-kept rows up.1 k)

pub one-sent : {K C : Type 0} {cmp : K → K → Ordering} (o : IsTotalOrder cmp) (leave_all : Bool) (taken : Row K C
    → Bool) (leave : Cs) (rows : List (Row K C)) → Ascends cmp key_of rows → (k : K)
    → filter (λ e. same cmp e.1 k) (filter_map (λ r. sent_event leave_all (taken r) leave r) rows)
    ≡ option_to_list (option_and_then (λ r. sent_event leave_all (taken r) leave r) (find cmp k rows))
one-sent {K = K} {C = C} o leave_all taken leave rows up k =
    one-kept o (λ (e : MrpEvent × K × C). e.1) (λ r. sent_event leave_all (taken r) leave r) (λ r e h. (sent_is leave_all (taken r) leave r e h).0) rows up k

-- ---- when nothing is pending

is_passive : (m : LeaveAll) → not (is_active m) ≡ true → m ≡ Passive
is_passive Active h = cc
is_passive Passive h = refl

settled_row : (a b : Bool) → a ≡ true → b ≡ false → (a && not b) ≡ true
settled_row true true h k = cc
settled_row true false h k = refl
settled_row false b h k = cc

still_of : (m : LeaveAll) (b : Bool) → m ≡ Passive → b ≡ true → (not (is_active m) && b) ≡ true
still_of Active b h k = cc
still_of Passive b h k = k

module _ {K C : Type 0} where
  pub still-passive : (s : State K C) → is_still s ≡ true → s.leave_all ≡ Passive
  still-passive s h = is_passive s.leave_all (both (not (is_active s.leave_all)) (all_settled s.rows) h).0

  pub still-rows : (s : State K C) → is_still s ≡ true → all_settled s.rows ≡ true
  still-rows s h = (both (not (is_active s.leave_all)) (all_settled s.rows) h).1

  -- whether what is kept of a key is at rest
  abbrev AtRest : Option (Row K C) → Type 0
  AtRest r = (is_quiet (applicant_of r) ≡ true) × (is_leaving_in r ≡ false)

  rest_by : (r : Row K C) (later : Option (Row K C)) (b : Bool) → is_settled r ≡ true → AtRest later → AtRest (if b then Some r else later)
  rest_by r later true h rest = let parts = both (is_quiet r.applicant) (not (is_leaving r.registrar)) h in (
    parts.0,
    not_false (is_leaving r.registrar) parts.1,
  )
  rest_by r later false h rest = rest

  pub settled-at : (cmp : K → K → Ordering) (rows : List (Row K C)) → all_settled rows ≡ true → (k : K) → AtRest (find cmp k rows)
  settled-at cmp [] h k = (refl, refl)
  settled-at cmp (r ∷ rows) h k = let parts = both (is_settled r) (all_settled rows) h in rest_by r (find cmp k rows)
      (same cmp r.key k) parts.0 (settled-at cmp rows parts.1 k)

  all_in : (p : Row K C → Bool) (rows : List (Row K C)) → ((r : Row K C) → In r rows → p r ≡ true) → list_all p rows ≡ true
  all_in p [] f = refl
  all_in p (r ∷ rows) f = ap (λ b. b && list_all p rows) (f r (inl refl)) ∙ all_in p rows (λ s at. f s (inr at))

  pub at_rest-still : {cmp : K → K → Ordering} (o : IsTotalOrder cmp) (s : State K C) → Ascends cmp key_of s.rows
      → s.leave_all ≡ Passive → ((k : K) → is_quiet (applicant_of (find cmp k s.rows)) ≡ true)
      → ((k : K) → is_leaving_in (find cmp k s.rows) ≡ false) → is_still s ≡ true
  at_rest-still {cmp = cmp} o s up passive quiet unleaving =
      still_of s.leave_all (all_settled s.rows) passive
      (all_in is_settled s.rows
      (λ r at. let found = find-in o r s.rows up at in
      settled_row (is_quiet r.applicant) (is_leaving r.registrar)
      (subst (λ x. is_quiet (applicant_of x) ≡ true) found (quiet r.key))
      (subst (λ x. is_leaving_in x ≡ false) found (unleaving r.key))))

-- ---- where a key stands

module _ {K C : Type 0} where
  in_at : (rows : List (Row K C)) (i : ℕ) (r : Row K C) → slice_get rows i ≡ Some r → In r rows
  in_at [] i r h = cc
  in_at (x ∷ rows) zero r h = let is : x ≡ r = cc in inl (sym is)
  in_at (x ∷ rows) (suc i) r h = inr (in_at rows i r h)

  pub found-at : {cmp : K → K → Ordering} (o : IsTotalOrder cmp) (rows : List (Row K C)) → Ascends cmp key_of rows
      → (i : ℕ) (r : Row K C) → slice_get rows i ≡ Some r → find cmp r.key rows ≡ Some r
  found-at o rows up i r h = find-in o r rows up (in_at rows i r h)

  place_by : (cmp : K → K → Ordering) → ((a b : K) → cmp a b ≡ Equal → a ≡ b)
      → (rows : List (Row K C)) (k : K) (here : Option (Row K C)) → find cmp k rows ≡ here → IsSome here
      → Contains (map key_of rows) k
  place_by cmp one_key rows k None e h = cc
  place_by cmp one_key rows k (Some r) e h =
      let member = find-found cmp k r rows e in
      subst (Contains (map key_of rows)) (one_key r.key k (same_is cmp r.key k member.1)) (Contains-in r.key (map key_of rows) (In-map key_of r rows member.0))

  declared_some : (r : Option (Row K C)) → IsSome (declared_in r) → IsSome r
  declared_some None h = h
  declared_some (Some r) h = refl

  registered_some : (r : Option (Row K C)) → IsSome (registered_in r) → IsSome r
  registered_some None h = h
  registered_some (Some r) h = refl

  pub declared-place : (cmp : K → K → Ordering) → ((a b : K) → cmp a b ≡ Equal → a ≡ b)
      → (rows : List (Row K C)) (k : K) → IsSome (declared_in (find cmp k rows)) → Contains (map key_of rows) k
  declared-place cmp one_key rows k h = place_by cmp one_key rows k (find cmp k rows) refl (declared_some (find cmp k rows) h)

  pub registered-place : (cmp : K → K → Ordering) → ((a b : K) → cmp a b ≡ Equal → a ≡ b)
      → (rows : List (Row K C)) (k : K) → IsSome (registered_in (find cmp k rows)) → Contains (map key_of rows) k
  registered-place cmp one_key rows k h = place_by cmp one_key rows k (find cmp k rows) refl (registered_some (find cmp k rows) h)

-- ---- where a key has a row

live_by : (a : Applicant) (g : Registrar) → (not (is_observer a) || registrar.is_registered_in g) ≡ true → (a ≢ Vo) ⊎ (g ≢ Empty)
live_by Vo Held h = inr (λ e. cc)
live_by Vo Leaving h = inr (λ e. cc)
live_by Vo Empty h = cc
live_by a g h = inl (λ e. cc)

idle : ((Vo ≢ Vo) ⊎ (Empty ≢ Empty)) → ⊥
idle (inl h) = h refl
idle (inr h) = h refl

module _ {K C : Type 0} where
  row-where_kept : (found : Option (Row K C)) → ((r : Row K C) → found ≡ Some r → is_live r ≡ true)
      → IsSome found ↔ ((applicant_of found ≢ Vo) ⊎ (registrar_of found ≢ Empty))
  row-where_kept None live = (λ h. cc, λ h. absurd (idle h))
  row-where_kept (Some r) live = (λ h. live_by r.applicant r.registrar (live r refl), λ h. refl)

  -- a key has a row exactly where something is kept of it
  pub row-kept : {cmp : K → K → Ordering} (o : IsTotalOrder cmp) (rows : List (Row K C)) (k : K)
      → AllByRecursion (λ r. is_live r ≡ true) rows
      → IsSome (find cmp k rows) ↔ ((applicant_of (find cmp k rows) ≢ Vo) ⊎ (registrar_of (find cmp k rows) ≢ Empty))
  row-kept {cmp = cmp} o rows k live = row-where_kept (find cmp k rows) (find-fits o k rows live).lives

  found_some : (cmp : K → K → Ordering) (rows : List (Row K C)) (k : K) (r : Row K C) → find cmp r.key rows ≡ Some r → k ≡ r.key → IsSome (find cmp k rows)
  found_some cmp rows k r found is = subst IsSome (sym (ap (λ q. find cmp q rows) is ∙ found)) refl

  -- a key has a row exactly where it is the key of one
  pub row-place : {cmp : K → K → Ordering} (o : IsTotalOrder cmp) → ((a b : K) → cmp a b ≡ Equal → a ≡ b)
      → (rows : List (Row K C)) → Ascends cmp key_of rows → (k : K)
      → IsSome (find cmp k rows) ↔ Contains (map key_of rows) k
  row-place {cmp = cmp} o one_key rows up k = (
    λ h. place_by cmp one_key rows k (find cmp k rows) refl h,
    λ at. let member = In-mapped key_of k rows (In-contains k (map key_of rows) at) in
        found_some cmp rows k member.0 (find-in o member.0 rows up member.1) member.2,
  )
