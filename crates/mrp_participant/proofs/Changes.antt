-- The keys that receiving and the timers tell are those whose registration changed.
use Rattle.std.proofs.Common.{◌≡◌, ℕ, zero, suc, ◌<◌, Bool, true, false, not, ◌&&◌, ◌||◌, if◌then◌else◌, nat_le, List, [], ◌∷◌, map, filter, fold, length, get_or, refl, sym, ap, ◌∙◌, subst, arith, inl, inr, option_map, option_and_then}
use Rattle.std.specs.Prelude.{◌⊎◌, Contains, IsSome}
use Rattle.std.specs.{declared.option.Option.Option, declared.option.Option.TheVariants.None, declared.option.Option.TheVariants.Some, declared.cmp.Ordering.Ordering, declared.cmp.Ordering.TheVariants.Less, declared.cmp.Ordering.TheVariants.Equal, Cmp.IsTotalOrder, Cmp.IsEquivalence, List.AllByRecursion, List.filter_map, List.cons_option, List.list_any, Option.option_eq}
use Rattle.srp_base.proofs.Lists.{each_filter as Each-filtered}
use Rattle.registrar.specs.declared.Registrar.{Registrar}
use Rattle.registrar.specs.declared.Registrar.TheVariants.{Held, Leaving, Empty}
use Rattle.srp_base.specs.declared.{numbers.Cs.Cs, mrp.MrpEvent.MrpEvent}
use Rattle.mrp_participant.specs.declared.row.Row.{Row}
use Rattle.mrp_participant.specs.{Ascends, key_of, same, find, registered_in, row_hearing, row_after_receive, after_hear, leave_all_row, leave_is_due, after_leave_due, left_row, periodic_row, AreRows, changed_keys, rows_after_receive, left_keys, periodic_fired_state, due_state}
use Rattle.registrar.specs.Table.{is_leaving}
use Rattle.mrp_participant.specs.State.{State}
use Rattle.mrp_participant.proofs.{Lookups.same_is, Lookups.Each-mapped, SendingLimitLemmas.In, SendingLimitLemmas.In-filter, SendingLimitLemmas.In-filtered, SendingLimitLemmas.find-in, EachKey.each-receive, EachKey.each-mapped, EachKey.each-kept, Transitions.due-keeps, Transitions.leave_all_due-rows}

-- ---- members of a list

pub In-map : {X Y : Type 0} (f : X → Y) (x : X) (xs : List X) → In x xs → In (f x) (map f xs)
In-map f x [] at = absurd at
In-map f x (y ∷ ys) (inl e) = inl (ap f e)
In-map f x (y ∷ ys) (inr at) = inr (In-map f x ys at)

pub In-mapped : {X Y : Type 0} (f : X → Y) (y : Y) (xs : List X) → In y (map f xs) → (x : X) × In x xs × (y ≡ f x)
In-mapped f y [] at = absurd at
In-mapped f y (x ∷ xs) (inl e) = (x, inl refl, e)
In-mapped f y (x ∷ xs) (inr at) = let h = In-mapped f y xs at in (h.0, inr h.1, h.2)

pub Contains-in : {X : Type 0} (x : X) (xs : List X) → In x xs → Contains xs x
Contains-in x [] at = absurd at
Contains-in x (y ∷ ys) (inl e) = (zero, omega arith, sym e)
Contains-in x (y ∷ ys) (inr at) = let h = Contains-in x ys at in (suc h.0, omega (arith, h.1), h.2)

at_place : {X : Type 0} (x : X) (xs : List X) (k : ℕ) → k < length xs → get_or xs k x ≡ x → In x xs
at_place x [] k below e = absurd (omega arith)
at_place x (y ∷ ys) zero below e = inl (sym e)
at_place x (y ∷ ys) (suc k) below e = inr (at_place x ys k (omega arith) e)

pub In-contains : {X : Type 0} (x : X) (xs : List X) → Contains xs x → In x xs
In-contains x xs h = at_place x xs h.0 h.1 h.2

-- ---- the row that is found

find-found_by : {K C : Type 0} (cmp : K → K → Ordering) (k : K) (r s : Row K C) (rows : List (Row K C)) (b : Bool)
    → same cmp r.key k ≡ b → (find cmp k rows ≡ Some s → In s rows × (same cmp s.key k ≡ true))
    → (if b then Some r else find cmp k rows) ≡ Some s → In s (r ∷ rows) × (same cmp s.key k ≡ true)
find-found_by cmp k r s rows true e rest h = let one : r ≡ s = cc in (inl (sym one), subst (λ x. same cmp x.key k ≡ true) one e)
find-found_by cmp k r s rows false e rest h = let found = rest h in (inr found.0, found.1)

pub find-found : {K C : Type 0} (cmp : K → K → Ordering) (k : K) (s : Row K C) (rows : List (Row K C))
    → find cmp k rows ≡ Some s → In s rows × (same cmp s.key k ≡ true)
find-found cmp k s [] h = cc
find-found cmp k s (r ∷ rows) h = find-found_by cmp k r s rows (same cmp r.key k) refl (find-found cmp k s rows) h

-- ---- contents

option_eq-is : {C : Type 0} (eq : C → C → Bool) → ((a b : C) → eq a b ≡ true → a ≡ b) → (x y : Option C) → option_eq eq x y ≡ true → x ≡ y
option_eq-is eq one None None h = refl
option_eq-is eq one None (Some b) h = cc
option_eq-is eq one (Some a) None h = cc
option_eq-is eq one (Some a) (Some b) h = ap Some (one a b h)

pub option_eq-refl : {C : Type 0} (eq : C → C → Bool) → IsEquivalence eq → (x : Option C) → option_eq eq x x ≡ true
option_eq-refl eq laws None = refl
option_eq-refl eq laws (Some a) = laws.refl a

-- ---- receiving takes no row away

hears_some : {K C : Type 0} (event : MrpEvent) (k : K) (c : C) (leave : Cs) (r : Row K C) → (s : Row K C) × (after_hear event k c leave (Some r) ≡ Some s)
hears_some event k c leave r = (_, refl)

hearing_some : {K C : Type 0} (cmp : K → K → Ordering) (leave : Cs) (k : K) (r : Row K C) (e : MrpEvent × K
    × C) (b : Bool) → (s : Row K C) × ((if b then after_hear e.0 e.1 e.2 leave (Some r) else Some r) ≡ Some s)
hearing_some cmp leave k r e true = hears_some e.0 e.1 e.2 leave r
hearing_some cmp leave k r e false = (r, refl)

fold_some : {K C : Type 0} (cmp : K → K → Ordering) (leave : Cs) (k : K) (events : List (MrpEvent × K × C))
    (r : Row K C) → (s : Row K C) × (fold (row_hearing cmp leave k) (Some r) events ≡ Some s)
fold_some cmp leave k [] r = (r, refl)
fold_some cmp leave k (e ∷ events) r =
    let first = hearing_some cmp leave k r e (same cmp e.1 k) in
    let rest = fold_some cmp leave k events first.0 in
    (rest.0, ap (λ x. fold (row_hearing cmp leave k) x events) first.1 ∙ rest.1)

receive_some : {K C : Type 0} (cmp : K → K
    → Ordering) (leave : Cs) (leave_all : Bool) (events : List (MrpEvent × K × C)) (k : K) (r : Row K C)
    → (s : Row K C) × (row_after_receive cmp leave leave_all events k (Some r) ≡ Some s)
receive_some cmp leave true events k r = fold_some cmp leave k events (leave_all_row leave r)
receive_some cmp leave false events k r = fold_some cmp leave k events r

module _ {K C : Type 0} {cmp : K → K → Ordering} (o : IsTotalOrder cmp) (eq : C → C → Bool) (one_key : (a b : K) → cmp a b ≡ Equal → a ≡ b) where
  -- the row of a key differs between two lists
  abbrev differs : List (Row K C) → Row K C → Bool
  differs old r = not (option_eq eq (registered_in (find cmp r.key old)) (registered_in (Some r)))

  told_by : ((a b : C) → eq a b ≡ true → a ≡ b) → (old new : List (Row K C)) (k : K) (r : Row K C) (b : Bool)
      → option_eq eq (registered_in (find cmp r.key old)) (registered_in (Some r)) ≡ b → In r new → r.key ≡ k
      → find cmp k new ≡ Some r → Contains (changed_keys cmp eq old new) k
      ⊎ (registered_in (find cmp k new) ≡ registered_in (find cmp k old))
  told_by one_content old new k r true e at key found =
      inr (ap registered_in found ∙ sym (option_eq-is eq one_content _ _ e) ∙ ap (λ q. registered_in (find cmp q old)) key)
  told_by one_content old new k r false e at key found =
      inl (subst (Contains (changed_keys cmp eq old new)) key
      (Contains-in r.key (changed_keys cmp eq old new)
      (In-map key_of r (filter (differs old) new) (In-filter (differs old) r new (ap not e) at))))

  told_at : ((a b : C) → eq a b ≡ true → a ≡ b) → (old new : List (Row K C)) (k : K) (here : Option (Row K C))
      → find cmp k new ≡ here → ((r : Row K C) → find cmp k old ≡ Some r → (s : Row K C) × (find cmp k new ≡ Some s))
      → (before : Option (Row K C)) → find cmp k old ≡ before → Contains (changed_keys cmp eq old new) k
      ⊎ (registered_in (find cmp k new) ≡ registered_in (find cmp k old))
  told_at one_content old new k (Some r) found stays before was =
      let member = find-found cmp k r new found in
      told_by one_content old new k r (option_eq eq (registered_in (find cmp r.key old))
      (registered_in (Some r))) refl member.0 (one_key r.key k (same_is cmp r.key k member.1)) found
  told_at one_content old new k None found stays None was = inr (ap registered_in found ∙ sym (ap registered_in was))
  told_at one_content old new k None found stays (Some r) was = let still = stays r was in let none : None ≡ Some still.0 = sym found ∙ still.1 in cc

  -- a key whose registration changed is told
  pub changes-are_told : ((a b : C) → eq a b ≡ true → a ≡ b)
      → (leave : Cs) (leave_all : Bool) (events : List (MrpEvent × K × C)) (old : List (Row K C)) → AreRows cmp old
      → (k : K) → Contains (changed_keys cmp eq old (rows_after_receive cmp leave leave_all events old)) k
      ⊎ (registered_in (find cmp k (rows_after_receive cmp leave leave_all events old))
      ≡ registered_in (find cmp k old))
  changes-are_told one_content leave leave_all events old are k =
      told_at one_content old (rows_after_receive cmp leave leave_all events old) k (find cmp k (rows_after_receive cmp leave leave_all events old)) refl
      (λ r was. let some = receive_some cmp leave leave_all events k r in
      (some.0, each-receive o leave leave_all events old are k ∙ ap (row_after_receive cmp leave leave_all events k) was ∙ some.1))
      (find cmp k old) refl

  -- a key that is told has another registration than before
  pub told-are_changes : IsEquivalence eq → (old new : List (Row K C)) → Ascends cmp key_of new → (k : K)
      → Contains (changed_keys cmp eq old new) k → registered_in (find cmp k new) ≡ registered_in (find cmp k old) → ⊥
  told-are_changes laws old new up k at still =
      let member = In-mapped key_of k (filter (differs old) new) (In-contains k (changed_keys cmp eq old new) at) in
      let r : Row K C = member.0 in
      let kept = In-filtered (differs old) r new member.1 in
      let found : find cmp k new ≡ Some r = ap (λ q. find cmp q new) member.2 ∙ find-in o r new up kept.1 in
      let both : registered_in (Some r) ≡ registered_in (find cmp r.key old) = ap registered_in (sym found) ∙ still
      ∙ ap (λ q. registered_in (find cmp q old)) member.2 in
      let equal : option_eq eq (registered_in (find cmp r.key old)) (registered_in (Some r)) ≡ true =
      ap (option_eq eq (registered_in (find cmp r.key old))) both ∙ option_eq-refl eq laws (registered_in (find cmp r.key old)) in
      let never : not true ≡ true = ap not (sym equal) ∙ kept.0 in
      cc

-- ---- the timers

module _ {K C : Type 0} where
  pub periodic-registered : (r : Option (Row K C)) → registered_in (option_map periodic_row r) ≡ registered_in r
  periodic-registered None = refl
  periodic-registered (Some r) = refl

  -- a leave timer that was due leaves nothing registered
  left-unregistered_by : (now : ℕ) (r : Row K C) (g : Registrar) → (is_leaving g && nat_le r.leave.0 now) ≡ true
      → registered_in (left_row (record r { registrar = g })) ≡ None
  left-unregistered_by now r Held h = cc
  left-unregistered_by now r Empty h = cc
  left-unregistered_by now r Leaving h = grind arith

  leaving-registered_by : (now : ℕ) (r : Row K C) (g : Registrar) → (is_leaving g && nat_le r.leave.0 now) ≡ true
      → IsSome (registered_in (Some (record r { registrar = g })))
  leaving-registered_by now r Held h = cc
  leaving-registered_by now r Empty h = cc
  leaving-registered_by now r Leaving h = refl

module _ {K C : Type 0} {cmp : K → K → Ordering} (o : IsTotalOrder cmp) where
  periodic_rows_by : (now : Cs) (s : State K C) (k : K) (b : Bool)
      → registered_in (find cmp k (if b then periodic_fired_state now s else s).rows)
      ≡ registered_in (find cmp k s.rows)
  periodic_rows_by now s k true = ap registered_in (each-mapped o periodic_row (λ r. refl) s.rows k) ∙ periodic-registered (find cmp k s.rows)
  periodic_rows_by now s k false = refl

  -- what is registered after the timers is what the leave timers leave
  due-registered : (now : Cs) (s : State K C) → Ascends cmp key_of s.rows → (k : K)
      → registered_in (find cmp k (due_state now s).rows)
      ≡ registered_in (option_and_then (after_leave_due now.0) (find cmp k s.rows))
  due-registered now s up k = grind (arith, periodic_rows_by, leave_all_due-rows, each-kept, due-keeps)

  due_told_by : (now : Cs) (s : State K C) (k : K) (r : Row K C) (b : Bool) → leave_is_due now.0 r ≡ b → In r s.rows
      → r.key ≡ k → Contains (left_keys now s) k
      ⊎ (registered_in (if b then left_row r else Some r) ≡ registered_in (Some r))
  due_told_by now s k r true due at key =
      inl (subst (Contains (left_keys now s)) key
      (Contains-in r.key (left_keys now s) (In-map key_of r (filter (leave_is_due now.0) s.rows)
      (In-filter (leave_is_due now.0) r s.rows due at))))
  due_told_by now s k r false due at key = inr refl

  due_told_at : ((a b : K) → cmp a b ≡ Equal → a ≡ b) → (now : Cs) (s : State K C) (k : K) (was : Option (Row K C))
      → find cmp k s.rows ≡ was → Contains (left_keys now s) k
      ⊎ (registered_in (option_and_then (after_leave_due now.0) was) ≡ registered_in was)
  due_told_at one_key now s k None found = inr refl
  due_told_at one_key now s k (Some r) found =
      let member = find-found cmp k r s.rows found in
      due_told_by now s k r (leave_is_due now.0 r) refl member.0 (one_key r.key k (same_is cmp r.key k member.1))

  pub due-told : ((a b : K) → cmp a b ≡ Equal → a ≡ b) → (now : Cs) (s : State K C) → AreRows cmp s.rows → (k : K)
      → Contains (left_keys now s) k ⊎ (registered_in (find cmp k (due_state now s).rows)
      ≡ registered_in (find cmp k s.rows))
  due-told one_key now s are k =
      elim (due_told_at one_key now s k (find cmp k s.rows) refl) [ inl h ↦ inl h | inr h ↦ inr (due-registered now s are.0 k ∙ h) ]

  pub due-only : (now : Cs) (s : State K C) → AreRows cmp s.rows → (k : K) → Contains (left_keys now s) k
      → (registered_in (find cmp k (due_state now s).rows) ≡ None) × IsSome (registered_in (find cmp k s.rows))
  due-only now s are k at =
      let member = In-mapped key_of k (filter (leave_is_due now.0) s.rows) (In-contains k (left_keys now s) at) in
      let r : Row K C = member.0 in
      let kept = In-filtered (leave_is_due now.0) r s.rows member.1 in
      let found : find cmp k s.rows ≡ Some r = ap (λ q. find cmp q s.rows) member.2 ∙ find-in o r s.rows are.0 kept.1 in
      let after_is : registered_in (find cmp k (due_state now s).rows)
      ≡ registered_in (after_leave_due now.0 r) = due-registered now s are.0 k
      ∙ ap (λ x. registered_in (option_and_then (after_leave_due now.0) x)) found in
      let due : registered_in (after_leave_due now.0 r) ≡ registered_in (left_row r) = ap (λ b. registered_in (if b then left_row r else Some r)) kept.0 in (
        after_is ∙ (due ∙ left-unregistered_by now.0 r r.registrar kept.0),
        subst (λ x. IsSome (registered_in x)) (sym found) (leaving-registered_by now.0 r r.registrar kept.0),
      )

-- ---- the keys that are told, in order

module _ {X K : Type 0} (cmp : K → K → Ordering) (key : X → K) where
  Ascends-filtered_by : (p : X → Bool) (x : X) (xs : List X) (b : Bool)
      → AllByRecursion (λ y. cmp (key x) (key y) ≡ Less) xs → Ascends cmp key (filter p xs)
      → Ascends cmp key (if b then x ∷ filter p xs else filter p xs)
  Ascends-filtered_by p x xs true above up = (Each-filtered (λ y. cmp (key x) (key y) ≡ Less) p xs above, up)
  Ascends-filtered_by p x xs false above up = up

  Ascends-filtered : (p : X → Bool) (xs : List X) → Ascends cmp key xs → Ascends cmp key (filter p xs)
  Ascends-filtered p [] up = tt
  Ascends-filtered p (x ∷ xs) up = Ascends-filtered_by p x xs (p x) up.0 (Ascends-filtered p xs up.1)

  Ascends-keys : (xs : List X) → Ascends cmp key xs → Ascends cmp (λ k. k) (map key xs)
  Ascends-keys [] up = tt
  Ascends-keys (x ∷ xs) up = (Each-mapped (λ y. cmp (key x) (key y) ≡ Less) (λ k. cmp (key x) k ≡ Less) key (λ y h. h) xs up.0, Ascends-keys xs up.1)

  -- the keys of those that pass a test ascend
  pub told-ascend : (p : X → Bool) (xs : List X) → Ascends cmp key xs → Ascends cmp (λ k. k) (map key (filter p xs))
  told-ascend p xs up = Ascends-keys (filter p xs) (Ascends-filtered p xs up)

-- the keys of those that pass a test are keys
pub told-are_keys : {X K : Type 0} (key : X → K) (p : X → Bool) (xs : List X) (k : K) → Contains (map key (filter p xs)) k → Contains (map key xs) k
told-are_keys key p xs k at =
    let member = In-mapped key k (filter p xs) (In-contains k (map key (filter p xs)) at) in
    let kept = In-filtered p member.0 xs member.1 in
    subst (Contains (map key xs)) (sym member.2) (Contains-in (key member.0) (map key xs) (In-map key member.0 xs kept.1))

-- ---- where no leave timer is due

module _ {K C : Type 0} (now : ℕ) where
  none_due-keys_by : (r : Row K C) (rows : List (Row K C)) (b : Bool)
      → (b || list_any (leave_is_due now) rows) ≡ false
      → (list_any (leave_is_due now) rows ≡ false → filter (leave_is_due now) rows ≡ [])
      → (if b then r ∷ filter (leave_is_due now) rows else filter (leave_is_due now) rows) ≡ []
  none_due-keys_by r rows true h rest = cc
  none_due-keys_by r rows false h rest = rest h

  none_due-filter : (rows : List (Row K C)) → list_any (leave_is_due now) rows ≡ false → filter (leave_is_due now) rows ≡ []
  none_due-filter [] h = refl
  none_due-filter (r ∷ rows) h = none_due-keys_by r rows (leave_is_due now r) h (none_due-filter rows)

  none_due-rows_by : (r : Row K C) (rows : List (Row K C)) (b : Bool)
      → (b || list_any (leave_is_due now) rows) ≡ false
      → (list_any (leave_is_due now) rows ≡ false → filter_map (after_leave_due now) rows ≡ rows)
      → cons_option (if b then left_row r else Some r) (filter_map (after_leave_due now) rows) ≡ r ∷ rows
  none_due-rows_by r rows true h rest = cc
  none_due-rows_by r rows false h rest = ap (λ l. r ∷ l) (rest h)

  none_due-kept : (rows : List (Row K C)) → list_any (leave_is_due now) rows ≡ false → filter_map (after_leave_due now) rows ≡ rows
  none_due-kept [] h = refl
  none_due-kept (r ∷ rows) h = none_due-rows_by r rows (leave_is_due now r) h (none_due-kept rows)

  -- no keys leave, and the rows stay, from what the code has at hand
  pub none-leave : (rows slice : List (Row K C)) (answer : Bool) → slice ≡ rows
      → answer ≡ list_any (leave_is_due now) slice → answer ≡ false
      → (map key_of (filter (leave_is_due now) rows) ≡ []) × (filter_map (after_leave_due now) rows ≡ rows)
  none-leave rows slice answer is e h =
      let none : list_any (leave_is_due now) rows ≡ false = ap (list_any (leave_is_due now)) (sym is) ∙ (sym e ∙ h) in
      (ap (map key_of) (none_due-filter rows none), none_due-kept rows none)
